-- What a capture showed, counted. Assumes nothing.
use Rattle.std.specs.Prelude.{ℕ, ◌+◌, ◌-◌, ◌^◌, min, Ok, Err, Result}
use Rattle.telegram.specs.declared.Telegram.{Telegram}
use Rattle.burst.specs.declared.ReadFault.{ReadFault}
use Rattle.burst.specs.declared.ReadFault.TheVariants.{TooLong as LongBurst, AtLine}
use Rattle.capture.specs.declared.tally.Tally.{Tally}
use Rattle.capture.specs.declared.tally.Seen.{Seen}
use Rattle.capture.specs.declared.tally.Seen.TheVariants.{Blank, Telegram as ATelegram, Fault, TooLong, NotHex}

abbrev pub seen_of : Result Telegram ReadFault → Seen
seen_of (Ok t) = ATelegram
seen_of (Err (AtLine f)) = Fault
seen_of (Err LongBurst) = TooLong

-- one more, up to the greatest number of 64 bits
abbrev pub more : ℕ → ℕ
more n = min (n + 1) (2 ^ 64 - 1)

abbrev pub none : Tally
none = record { blank = 0; telegrams = 0; faults = 0; too_long = 0; not_hex = 0 }

abbrev pub noted : Tally → Seen → Tally
noted t Blank = record { blank = more t.blank; telegrams = t.telegrams; faults = t.faults; too_long = t.too_long; not_hex = t.not_hex }
noted t ATelegram = record { blank = t.blank; telegrams = more t.telegrams; faults = t.faults; too_long = t.too_long; not_hex = t.not_hex }
noted t Fault = record { blank = t.blank; telegrams = t.telegrams; faults = more t.faults; too_long = t.too_long; not_hex = t.not_hex }
noted t TooLong = record { blank = t.blank; telegrams = t.telegrams; faults = t.faults; too_long = more t.too_long; not_hex = t.not_hex }
noted t NotHex = record { blank = t.blank; telegrams = t.telegrams; faults = t.faults; too_long = t.too_long; not_hex = more t.not_hex }
