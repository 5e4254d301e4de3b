-- What came of a call is noted in the list, and the run is longer by that call. Assumes nothing.
use Rattle.std.proofs.Common.{◌≡◌, ℕ, ◌+◌, ◌<◌, List, [], ◌∷◌, ◌++◌, length, get_or, take, set, Option, Result, sym, refl, ap, ◌∙◌}
use Rattle.board.specs.Meaning.{Rules}
use Rattle.std.proofs.lemmas.List.{map-set, map_push, get_or-map, set-get_or, take_more_set}
use Rattle.head.specs.Burst.{Cabinet}
use Rattle.runs.specs.Calls.{Exchange, exchanges, exchange_of, input_of, output_of}
use Rattle.runs.specs.Replaying.{Scene, calls, left, left_by}
use Rattle.runs.specs.Runs.{Run, Step}
use Rattle.runs.specs.declared.call.Call.{Call}
use Rattle.runs.specs.declared.call.CallFault.{CallFault}
use Rattle.runs.specs.declared.call.Drawn.{Drawn}
use Rattle.runs.specs.declared.call.Entry.{Entry}
use Rattle.runs.proofs.Law.{run_more}

left_more : (s : Scene) (xs : List Exchange) (x : Exchange) → left s (xs ++ x ∷ []) ≡ left_by (left s xs) x.drew
left_more s [] x = refl
left_more s (y ∷ ys) x = left_more (left_by s y.drew) ys x

-- in the list, at i, the call stays and what came of it is written; `d` is what was read there
module _ (list : List Entry) (i : ℕ) (d : Entry) (told : Option (Result Drawn CallFault)) (inside : i < length list) where
  abbrev noted : Entry
  noted = record { call = (get_or list i d).call; told = told }

  pub calls_kept : calls (set list i noted) ≡ calls list
  calls_kept =
      let call : Entry → Call = λ x. x.call in
      map-set call list i noted
      ∙ ap (λ (x : Call). set (calls list) i x) (sym (get_or-map call list i d d.call inside))
      ∙ set-get_or (calls list) i d.call

  module _ (lent : ℕ) where
    one_exchange_more : exchanges lent (take (i + 1) (set list i noted)) ≡ exchanges lent (take i list) ++ exchange_of lent noted ∷ []
    one_exchange_more =
        ap (exchanges lent) (take_more_set list i noted inside) ∙ map_push (exchange_of lent) (take i list) noted

    pub run_noted : (R : Rules) (slots slots' lent' : ℕ) (a b c : Cabinet) → slots' ≡ slots → lent' ≡ lent → Run R slots a (exchanges lent (take i list)) b → Step R slots' b (input_of lent' noted.call) (output_of told) c
        → Run R slots a (exchanges lent (take (i + 1) (set list i noted))) c
    run_noted R slots slots' lent' a b c same long run step =
        rw one_exchange_more
        (run_more R slots (exchanges lent (take i list)) a b c (exchange_of lent noted) run (rw (same, long) at step))

    pub scene_noted : (s before after : Scene) → before ≡ left s (exchanges lent (take i list)) → after ≡ left_by before (output_of told) → after ≡ left s (exchanges lent (take (i + 1) (set list i noted)))
    scene_noted s before after so_far next = cc (left_more s (exchanges lent (take i list)) (exchange_of lent noted), one_exchange_more)
