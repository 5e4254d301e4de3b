-- The law about neighbours, from step to run. Assumes nothing.
use Rattle.std.proofs.Common.{◌≡◌, ℕ, ◌<◌, Bool, true, false, cond, List, [], ◌∷◌, ◌++◌, refl, ap, subst, arith}
use Rattle.board.specs.Meaning.{Rules}
use Rattle.head.specs.Burst.{Cabinet}
use Rattle.head.specs.State.{stations}
use Rattle.lines.specs.Making.{line_at}
use Rattle.lines.specs.declared.Lines.{Lines}
use Rattle.station.specs.Model.{Station}
use Rattle.station.specs.declared.Record.{Record}
use Rattle.runs.specs.Calls.{Exchange}
use Rattle.runs.specs.Feeding.{Event, Said, after, says, after_all, says_all}
use Rattle.runs.specs.Neighbours.{for_slot, event_of, said_at, events, answers, AsTheModel, NoOtherReply, address_at, station_in, Alike, Law}
use Rattle.runs.specs.Runs.{Run, Step, OfOneStart}
use Rattle.runs.proofs.Steps.{Kept, stepped, step_keeps, still_of_one_start}

-- the model station fed with one call more, or with none
fed : (R : Rules) (t : Bool) (st next : Station) (e : Event) (es : List Event) (d : Said) (ds : List Said) (last : Station)
    → next ≡ cond t (after R st e) st → (t ≡ true → d ≡ says R st e) → last ≡ after_all R next es → ds ≡ says_all R next es
    → (last ≡ after_all R st (cond t (e ∷ es) es)) × (cond t (d ∷ ds) ds ≡ says_all R st (cond t (e ∷ es) es))
fed R true st next e es d ds last turned said ends tells = (cc, cc (said refl))
fed R false st next e es d ds last turned said ends tells = (cc, cc)

pub modelled : (R : Rules) (slots k : ℕ) (xs : List Exchange) (a b : Cabinet) → OfOneStart a slots → k < stations a.head → Run R slots a xs b → AsTheModel R a b xs k
modelled R slots k [] a b ready there run = record { ends = cc; says = refl; others = tt }
modelled R slots k (x ∷ xs) a b ready there run =
    let c : Cabinet = run.0 in
    let address : ℕ = address_at a k in
    let step = stepped R slots a c ready k there x.brought x.drew run.1 in
    let keeps : Kept a c = step_keeps R slots a c x.brought x.drew run.1 in
    let named : address_at c k ≡ address = ap (λ (t : Lines). (line_at t k).address.0) keeps.lines in
    let later : AsTheModel R c b xs k = modelled R slots k xs c b (still_of_one_start R slots a c keeps ready) (omega (arith, ap (λ (t : Lines). t.count) keeps.lines)) run.2 in
    let both =
    fed R (for_slot k address x.brought) (station_in a k) (station_in c k) (event_of x.brought) (events k address xs) (said_at k x.drew) (answers k address xs) (station_in b k)
    step.turned step.said (cc) (cc) in
    record {
      ends = both.0;
      says = both.1;
      others = (step.others, subst (λ (n : ℕ). NoOtherReply k n xs) named later.others);
    }

-- two cabinets that are alike in a slot have the same station there
same_station : (a a' : Cabinet) (k : ℕ) → Alike a a' k → station_in a' k ≡ station_in a k
same_station a a' k alike = cc

-- the record of a station
abbrev record_of : Station → Record
record_of st = record { clock = st.clock; condition = st.condition; last = st.last }

-- EVERY RUN OBEYS THE LAW
pub run_obeys : (R : Rules) (slots : ℕ) (a b : Cabinet) (xs : List Exchange) → OfOneStart a slots → Run R slots a xs b → Law R a b xs
run_obeys R slots a b xs ready run k there =
    let mine : AsTheModel R a b xs k = modelled R slots k xs a b ready there run in (
      mine,
      λ slots' a' b' xs' ready' run' alike same.
          let theirs : AsTheModel R a' b' xs' k = modelled R slots' k xs' a' b' ready' alike.there run' in
          let begins : station_in a' k ≡ station_in a k = same_station a a' k alike in
          let ends : station_in b' k ≡ station_in b k = cc in
          record {
            says = cc;
            state = ap record_of ends;
            settings = ap (λ (st : Station). st.settings) ends;
            share = ap (λ (st : Station). st.share) ends;
          },
    )

-- a run with one call more at its end
pub run_more : (R : Rules) (slots : ℕ) (xs : List Exchange) (a b c : Cabinet) (x : Exchange) → Run R slots a xs b → Step R slots b x.brought x.drew c → Run R slots a (xs ++ x ∷ []) c
run_more R slots [] a b c x run step = (c, subst (λ (d : Cabinet). Step R slots d x.brought x.drew c) run step, refl)
run_more R slots (y ∷ ys) a b c x run step = (run.0, run.1, run_more R slots ys run.0 b c x run.2 step)
