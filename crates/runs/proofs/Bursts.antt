-- A burst, for every station of the cabinet. Assumes nothing.
use Rattle.std.proofs.Common.{◌≡◌, ℕ, ◌<◌, true, false, cond, List, length, take, Some, None, Ok, Err, Option, Result, sym, refl, ap, ◌∙◌, subst, inl, inr, arith}
use Rattle.board.specs.Meaning.{Rules}
use Rattle.std.proofs.lemmas.List.{take_at}
use Rattle.std.proofs.lemmas.Bool.{cases_eq}
use Rattle.std.proofs.lemmas.Bool.Decides.{nat_tests}
use Rattle.address.specs.Addressing.{controller, reaches}
use Rattle.burst.specs.Telegram.{telegram_of}
use Rattle.head.specs.Burst.{Accepted, Accepting, Bursting, Cabinet, Refused, Replied, Silent}
use Rattle.head.specs.Bursts.{reply_to}
use Rattle.head.specs.State.{stations}
use Rattle.head.specs.declared.arrival.Answered.{Answered}
use Rattle.head.specs.declared.BurstFault.{BurstFault}
use Rattle.head.specs.declared.BurstFault.TheVariants.{TooLong, ReplyTooShort, OtherMemory, TooFewSlots}
use Rattle.head.proofs.Moves.{station_no_broadcast}
use Rattle.lines.specs.Making.{line_at}
use Rattle.lines.proofs.Apart.{addresses_differ, station_there}
use Rattle.station.specs.Model.{Station, answered}
use Rattle.telegram.specs.Layout.{Frame, frame_bytes}
use Rattle.runs.specs.Calls.{Output, burst, reply, burst_refused}
use Rattle.runs.specs.Feeding.{Said, nothing, after_telegram, reply_by}
use Rattle.runs.specs.Neighbours.{said_at, concerns, address_at, station_in}
use Rattle.runs.specs.Runs.{OfOneStart, burst_drew}
use Rattle.runs.proofs.Places.{Stepped, stayed_there, heard_if_concerned}

-- what a telegram does for the station in slot k, where the output says `said` of it
abbrev Served : Rules → Cabinet → Cabinet → ℕ → Said → Option Frame → Type 0
Served R a b k said t =
    (station_in b k ≡ cond (concerns (address_at a k) t) (after_telegram R (station_in a k) t) (station_in a k))
    × (concerns (address_at a k) t ≡ true → said ≡ reply_by R (station_in a k) t)

module _ (R : Rules) (a b : Cabinet) (k : ℕ) (there : k < stations a.head) where
  abbrev st : Station
  st = station_in a k

  silent : (t : Option Frame) → Silent R a b t → Served R a b k nothing t
  silent None stayed = (stayed_there a b k stayed, λ concerned. refl)
  silent (Some f) moved = (
    moved.0.station k there ∙ heard_if_concerned R st f,
    λ concerned. grind (arith, nat_tests, λ (from : controller f.sender ≡ true). moved.1 from k there),
  )

  -- the reply of the station in slot k, or of another
  answering : (bytes before after' : List ℕ) (by : Answered) (r : Replied R a b bytes before after' by)
      → Served R a b k (said_at k (reply by.slot (take by.length after'))) (Some r.telegram)
      × (concerns (address_at a k) (Some r.telegram) ≡ false → (words : List ℕ) → reply by.slot (take by.length after') ≡ reply k words → ⊥)
  answering bytes before after' by r =
      let f : Frame = r.telegram in
      let lines = a.head.lines in
      let turned : station_in b k ≡ cond (concerns (address_at a k) (Some f)) (after_telegram R st (Some f)) st = r.moved.station k there ∙ heard_if_concerned R st f in
      elim (cases_eq by.slot k) [
        | inl here ↦
            let taken : take by.length after' ≡ frame_bytes (reply_to f (answered R st f).payload) =
            ap (take by.length) r.answer.bytes ∙ take_at (frame_bytes (reply_to f (answered R (station_in a by.slot) f).payload)) _ by.length (sym r.answer.count)
            ∙ ap (λ (j : ℕ). frame_bytes (reply_to f (answered R (station_in a j) f).payload)) here in
            let named : f.receiver ≡ st.address = sym r.answer.named ∙ ap (λ (j : ℕ). (line_at lines j).address.0) here in (
              (turned, λ same. grind (arith, nat_tests, taken, named, r.asked)),
              λ out words e. grind (arith, nat_tests, named),
            )
        | inr apart ↦
            let other : f.receiver ≡ st.address → ⊥ = λ e. apart (addresses_differ lines by.slot k r.answer.there there (r.answer.named ∙ e)) in
            let unreached : reaches f.receiver st.address ≡ false =
            ap (λ (n : ℕ). reaches n st.address) (sym r.answer.named) ∙ station_no_broadcast (line_at lines by.slot).address.0 st.address (station_there lines by.slot r.answer.there) in (
              (turned, λ concerned. grind (arith, nat_tests, other, unreached)),
              λ same words e. apart (cc),
            )
      ]

  module _ (slots : ℕ) (ready : OfOneStart a slots) (bytes : List ℕ) (room : ℕ) (before after' : List ℕ) (long : length before ≡ room) (o : Output) where
    -- a burst that is not refused does what its telegram does
    served : Accepted a slots bytes before → (said : Said) → said_at k o ≡ said → Served R a b k said (telegram_of bytes) → (concerns (address_at a k) (telegram_of bytes) ≡ false → (words : List ℕ) → o ≡ reply k words → ⊥)
        → Stepped R a b (burst bytes room) o k
    served accepted said drew done others =
        record {
          turned = done.0 ∙ grind (arith, nat_tests, accepted.short, accepted.room);
          said = λ concerned. drew ∙ done.1 concerned ∙ grind (arith, nat_tests, accepted.short, accepted.room);
          others = others;
        }

    -- a refused one leaves the station, and the model station too
    refusal : (e : BurstFault) → Refused a slots bytes before e → station_in b k ≡ st → o ≡ burst_refused e → Stepped R a b (burst bytes room) o k
    refusal TooLong why stays drew =
        record {
          turned = stays ∙ grind (arith, nat_tests, why);
          said = λ concerned. ap (said_at k) drew ∙ grind (arith, nat_tests, why);
          others = λ out words e. cc;
        }
    refusal ReplyTooShort why stays drew =
        record {
          turned = stays ∙ grind (arith, nat_tests, why.0, why.1);
          said = λ concerned. ap (said_at k) drew ∙ grind (arith, nat_tests, why.0, why.1);
          others = λ out words e. cc;
        }
    refusal OtherMemory why stays drew = absurd (why.2 ready.memory)
    refusal TooFewSlots why stays drew = let clash : ⊥ = omega (arith, why.3, ready.enough) in absurd clash

    pub burst_stepped : (r : Result (Option Answered) BurstFault) → Bursting R a b slots bytes before after' r → Accepting a slots bytes before r → o ≡ burst_drew r after' → Stepped R a b (burst bytes room) o k
    burst_stepped (Err e) did accepted drew = refusal e did.0 (stayed_there a b k did.1) drew
    burst_stepped (Ok None) did accepted drew =
        served accepted nothing (ap (said_at k) drew) (silent (telegram_of bytes) did.0)
        (λ out words e. cc)
    burst_stepped (Ok (Some by)) did accepted drew =
        let told = answering bytes before after' by did in
        let shown : Output = reply by.slot (take by.length after') in
        let here = subst (λ (t : Option Frame). Served R a b k (said_at k shown) t × (concerns (address_at a k) t ≡ false → (words : List ℕ) → shown ≡ reply k words → ⊥)) (sym did.stands) told in
        served accepted.0 (said_at k shown) (ap (said_at k) drew) here.0 (λ out words e. here.1 out words (sym drew ∙ e))
