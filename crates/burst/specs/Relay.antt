-- A telegram that is read writes back to the same bytes. Assumes nothing.
use Rattle.std.specs.Prelude.{◌≡◌, ℕ, ◌+◌, ◌<◌, List, ◌++◌, length, drop}
use Rattle.burst.specs.declared.repeater.RelayFault.{RelayFault}
use Rattle.burst.specs.declared.repeater.RelayFault.TheVariants.{Unread as NotRead, Unwritten}
use Rattle.telegram.specs.declared.WriteRefusal.TheVariants.{BufferTooShort}
use Rattle.telegram.specs.Layout.{part, len, First}
use Rattle.telegram.specs.Writing.{number}
use Rattle.burst.specs.Reading.{Unread, told}

-- The bytes of the burst's telegram, just as they lie there, at the front of the buffer.
pub record Relayed (burst before after : List ℕ) (n : ℕ) : Type 0 where
  pub position : ℕ
  pub first : First burst position
  pub count : n ≡ 12 + len burst position
  pub bytes : after ≡ part burst position n ++ drop n before

-- no telegram was read, or the buffer cannot hold every telegram
abbrev pub NotRelayed : List ℕ → List ℕ → RelayFault → Type 0
NotRelayed burst before (NotRead f) = Unread burst f
NotRelayed burst before (Unwritten e) = ((p : ℕ) × First burst p) × (e ≡ BufferTooShort) × (length before < 224)

-- a refusal's number is that of the reading or of the writing that it comes from
abbrev pub relay_number : RelayFault → ℕ
relay_number (NotRead f) = (told f).number
relay_number (Unwritten e) = number e
