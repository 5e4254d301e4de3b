-- A slot's share, four whole numbers for each of its records, and the three rules over it. Assumes nothing.
use Rattle.std.specs.Prelude.{◌≡◌, ℕ, false, cond, List, [], ◌∷◌, ◌++◌, pos, is_ok, Result, ◌==◌, unsigned_abs}
use Rattle.board.specs.Meaning.{Follows, SameBut, Share, Stored, kept, not_puttable, wrong_type}
use Rattle.board.specs.declared.refusal.PutRefusal.{PutRefusal}
use Rattle.readings.specs.Codes.{kind_code}
use Rattle.readings.specs.Outcomes.{coded, outcome_at}
use Rattle.readings.specs.declared.fault.Fault.TheVariants.{InvalidChannel}
use Rattle.readings.specs.declared.outcome.Outcome.{Outcome}
use Rattle.readings.specs.declared.outcome.Outcome.TheVariants.{Fault}
use Rattle.table.specs.declared.record.Record.{Record}
use Rattle.table.specs.Records.{is_absent, is_of_type}

-- a record in its slot's share: channel, type code, and the two numbers of the outcome
abbrev pub written : ℕ → ℕ → Outcome → Share
written channel type outcome = pos channel ∷ pos type ∷ coded outcome

-- THE SHARE OF A SLOT: its records in order
abbrev pub share_of : ℕ → List Record → Share
share_of slot [] = []
share_of slot (r ∷ rs) = cond (r.slot == slot) (written r.channel (kind_code r.kind) r.outcome ++ share_of slot rs) (share_of slot rs)

-- a channel shows the outcome of its first record; a list that ends within a record has no more of them
abbrev pub table_tells : Share → ℕ → Outcome
table_tells [] channel = Fault InvalidChannel
table_tells (c ∷ []) channel = Fault InvalidChannel
table_tells (c ∷ t ∷ []) channel = Fault InvalidChannel
table_tells (c ∷ t ∷ code ∷ []) channel = Fault InvalidChannel
table_tells (c ∷ t ∷ code ∷ z ∷ rest) channel = cond (unsigned_abs c == channel) (outcome_at code z) (table_tells rest channel)

-- what a rule says of a share, said of the share with more in front
abbrev pub behind : Share → Stored → Stored
behind front (kept s) = kept (front ++ s)
behind front not_puttable = not_puttable
behind front wrong_type = wrong_type

-- a record takes every fault but 24h, and the values of its type
abbrev pub replaced : ℕ → ℕ → Outcome → Share → Stored
replaced channel type outcome rest = cond (is_absent outcome) wrong_type (cond (is_of_type type outcome) (kept (written channel type outcome ++ rest)) wrong_type)

-- a put replaces the outcome of the channel's first record; without a record it is refused
abbrev pub table_stored : Share → ℕ → Outcome → Stored
table_stored [] channel outcome = not_puttable
table_stored (c ∷ []) channel outcome = not_puttable
table_stored (c ∷ t ∷ []) channel outcome = not_puttable
table_stored (c ∷ t ∷ code ∷ []) channel outcome = not_puttable
table_stored (c ∷ t ∷ code ∷ z ∷ rest) channel outcome =
    cond (unsigned_abs c == channel) (replaced channel (unsigned_abs t) outcome rest) (behind (c ∷ t ∷ code ∷ z ∷ []) (table_stored rest channel outcome))

-- a restart changes nothing
abbrev pub table_restarted : Share → Share
table_restarted s = s

-- a put on the records: it follows the rule for its slot's share and leaves every other share; refused, it leaves the records
pub record Replaced (slot channel : ℕ) (outcome : Outcome) (before after : List Record) (r : Result (Unit {0}) PutRefusal) : Type 0 where
  pub within : Follows (table_stored (share_of slot before) channel outcome) (share_of slot after) r
  pub others : SameBut slot (λ k. share_of k before) (λ k. share_of k after)
  pub refused : is_ok r ≡ false → after ≡ before
