-- What a board's calls do, over its rules, its count of slots and its shares. No definition here knows the board itself,
-- and no rule sees the slot's number. Assumes nothing.
use Rattle.std.specs.Prelude.{◌≡◌, ℕ, ◌<◌, ◌≤◌, false, List, ℤ, is_ok, Ok, Err, Result, ◌≢◌}
use Rattle.board.specs.declared.refusal.PutRefusal.{PutRefusal}
use Rattle.board.specs.declared.refusal.PutRefusal.TheVariants.{NoSlot, NotPuttable, WrongType}
use Rattle.readings.specs.declared.fault.Fault.TheVariants.{InvalidChannel}
use Rattle.readings.specs.declared.outcome.Outcome.{Outcome}
use Rattle.readings.specs.declared.outcome.Outcome.TheVariants.{Fault}

abbrev pub Share : Type 0
Share = List ℤ

-- what a rule says of a put: the share afterwards, or one of two refusals
pub data Stored : Type 0 where
  kept : Share → Stored
  not_puttable : Stored
  wrong_type : Stored

-- what a board's make knows: its three rules
pub record Rules : Type 0 where
  pub tells : Share → ℕ → Outcome
  pub stored : Share → ℕ → Outcome → Stored
  pub restarted : Share → Share

abbrev pub Refuses : Stored → Type 0
Refuses (kept s) = ⊥
Refuses not_puttable = Unit {0}
Refuses wrong_type = Unit {0}

abbrev pub Same : (ℕ → Share) → (ℕ → Share) → Type 0
Same before after = (k : ℕ) → after k ≡ before k

abbrev pub SameBut : ℕ → (ℕ → Share) → (ℕ → Share) → Type 0
SameBut slot before after = (k : ℕ) → (k ≢ slot) → after k ≡ before k

-- a look tells by the rule; beyond the slots it tells that there is no such channel
pub record Looked (tells : Share → ℕ → Outcome) (count : ℕ) (share : ℕ → Share) (slot channel : ℕ) (r : Outcome) : Type 0 where
  pub within : slot < count → r ≡ tells (share slot) channel
  pub beyond : count ≤ slot → r ≡ Fault InvalidChannel

-- what a put answers, and the share that it leaves in its slot, where the rule says so
abbrev pub Follows : Stored → Share → Result (Unit {0}) PutRefusal → Type 0
Follows (kept s) after r = (r ≡ Ok tt) × (after ≡ s)
Follows not_puttable after r = r ≡ Err NotPuttable
Follows wrong_type after r = r ≡ Err WrongType

-- a put follows the rule and leaves every other share; beyond the slots it is refused; refused, it leaves every share
pub record Put (stored : Share → ℕ → Outcome → Stored) (count : ℕ) (before after : ℕ → Share) (slot channel : ℕ) (outcome : Outcome) (r : Result (Unit {0}) PutRefusal) : Type 0 where
  pub within : slot < count → Follows (stored (before slot) channel outcome) (after slot) r
  pub beyond : count ≤ slot → r ≡ Err NoSlot
  pub others : SameBut slot before after
  pub refused : is_ok r ≡ false → Same before after

-- a restart follows the rule and leaves every other share; beyond the slots it does nothing
pub record Restarted (restarted : Share → Share) (count : ℕ) (before after : ℕ → Share) (slot : ℕ) : Type 0 where
  pub within : slot < count → after slot ≡ restarted (before slot)
  pub beyond : count ≤ slot → Same before after
  pub others : SameBut slot before after
