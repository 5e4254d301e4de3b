-- The station in a slot, before and after a call. Assumes nothing.
use Rattle.std.proofs.Common.{◌≡◌, ℕ, true, false, cond, List, Some, sym, ◌∙◌, inl, inr, arith}
use Rattle.board.specs.Meaning.{Rules}
use Rattle.std.proofs.lemmas.Bool.Decides.{nat_tests}
use Rattle.std.proofs.lemmas.Bool.{cases_Bool, cond-true, cond-false, or_parts}
use Rattle.address.specs.Addressing.{controller}
use Rattle.head.specs.Burst.{Cabinet, Stayed}
use Rattle.head.specs.Bursts.{heard}
use Rattle.station.specs.Model.{Station}
use Rattle.telegram.specs.Layout.{Frame}
use Rattle.runs.specs.Calls.{Input, Output, reply}
use Rattle.runs.specs.Feeding.{after, says}
use Rattle.runs.specs.Neighbours.{for_slot, event_of, said_at, concerns, address_at, station_in}

-- What a step does for the station in slot k: a call for it makes of it and draws from it what it would of the model station,
-- any other leaves it alone and draws no reply of it. Lines and memory keep their form.
pub record Stepped (R : Rules) (a b : Cabinet) (i : Input) (o : Output) (k : ℕ) : Type 0 where
  pub turned : station_in b k ≡ cond (for_slot k (address_at a k) i) (after R (station_in a k) (event_of i)) (station_in a k)
  pub said : for_slot k (address_at a k) i ≡ true → said_at k o ≡ says R (station_in a k) (event_of i)
  pub others : for_slot k (address_at a k) i ≡ false → (bytes : List ℕ) → o ≡ reply k bytes → ⊥

pub stayed_there : (a b : Cabinet) (k : ℕ) → Stayed a b → station_in b k ≡ station_in a k
stayed_there a b k stayed = cc (stayed.records k, stayed.shares k)

-- a telegram that does not concern a station leaves it
module _ (R : Rules) (st : Station) (f : Frame) where
  unconcerned : concerns st.address (Some f) ≡ false → heard R st f ≡ st
  unconcerned out =
      elim (cases_Bool (controller f.sender)) [
        | inl from ↦ grind (arith, nat_tests, or_parts)
        | inr other ↦ grind (arith, nat_tests, or_parts)
      ]

  pub heard_if_concerned : heard R st f ≡ cond (concerns st.address (Some f)) (heard R st f) st
  heard_if_concerned =
      elim (cases_Bool (concerns st.address (Some f))) [
        | inl mine ↦ sym (cond-true (concerns st.address (Some f)) (heard R st f) st mine)
        | inr out ↦ unconcerned out ∙ sym (cond-false (concerns st.address (Some f)) (heard R st f) st out)
      ]
