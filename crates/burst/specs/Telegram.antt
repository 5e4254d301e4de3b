-- THE TELEGRAM OF A BURST as a function: the fields of the one at the lowest position where markers, len and checksum
-- fit. `fits` is `Stands` as a test. Assumes nothing.
use Rattle.std.specs.Prelude.{ℕ, zero, suc, ◌+◌, Bool, cond, ◌&&◌, List, length, Some, None, Option, ◌==◌, nat_le}
use Rattle.std.specs.Option.{option_map}
use Rattle.checksum.specs.Crc.{crc}
use Rattle.telegram.specs.Layout.{at, word, part, len, Frame, frame_at}

unfoldable pub fits : List ℕ → ℕ → Bool
fits s p =
    (at s p == 0x01) && nat_le 2 (len s p) && nat_le (len s p) 212 && nat_le (p + (12 + len s p)) (length s) && at s (p + 7) == 0x02
    && at s (p + (8 + len s p)) == 0x03 && at s (p + (11 + len s p)) == 0x04
    && word s (p + (9 + len s p)) == crc (part s p (9 + len s p))

-- the lowest of n positions from p on where a telegram fits
unfoldable pub lowest : List ℕ → ℕ → ℕ → Option ℕ
lowest s p zero = None
lowest s p (suc n) = cond (fits s p) (Some p) (lowest s (p + 1) n)

unfoldable pub telegram_of : List ℕ → Option Frame
telegram_of s = option_map (frame_at s) (lowest s 0 (length s))
