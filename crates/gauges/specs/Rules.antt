-- The three rules of the gauges, over a share of one number. Assumes nothing.
use Rattle.std.specs.Prelude.{ℕ, cond, List, [], ◌∷◌, eqb, ℤ, pos, nat_abs}
use Rattle.board.specs.Meaning.{Stored, kept, not_puttable, wrong_type}
use Rattle.readings.specs.Outcomes.{code_of, number_of}
use Rattle.readings.specs.declared.fault.Fault.TheVariants.{InvalidChannel}
use Rattle.readings.specs.declared.outcome.Outcome.{Outcome}
use Rattle.readings.specs.declared.outcome.Outcome.TheVariants.{Value, Fault}
use Rattle.readings.specs.declared.reading.Reading.TheVariants.{U32}

-- channel 100 shows the number
abbrev pub gauge_tells : List ℤ → ℕ → Outcome
gauge_tells [] channel = Fault InvalidChannel
gauge_tells (z ∷ rest) channel = cond (eqb channel 100) (Value (U32 (nat_abs z))) (Fault InvalidChannel)

-- and takes a value of type 14h
abbrev pub gauge_stored : List ℤ → ℕ → Outcome → Stored
gauge_stored share channel outcome = cond (eqb channel 100) (cond (eqb (code_of outcome) 0x14) (kept (number_of outcome ∷ [])) wrong_type) not_puttable

abbrev pub gauge_restarted : List ℤ → List ℤ
gauge_restarted share = pos 0 ∷ []
