-- What a telegram made of every station. Assumes nothing.
use Rattle.std.proofs.Common.{◌≡◌, ℕ, ◌<◌, true, false, cond, eqb, ltb, List, length, get_or, sym, ap, ◌∙◌, subst, inl, inr, arith}
use Rattle.std.proofs.lemmas.Bool.{cond-true, cond-false, lt-ltb, le-ltb, eq-eqb, ne_eqb, cases_eq}
use Rattle.address.specs.Addressing.{controller, reaches}
use Rattle.board.specs.Meaning.{Rules, Share, SameBut}
use Rattle.lines.specs.Making.{line_at}
use Rattle.lines.specs.declared.Lines.{Lines}
use Rattle.lines.proofs.Apart.{addresses_differ, windows_apart, station_there}
use Rattle.station.specs.Model.{Station, station_of, answered, overheard}
use Rattle.station.specs.declared.Record.{Record}
use Rattle.telegram.specs.Layout.{Frame, part}
use Rattle.head.specs.Burst.{Cabinet, Moved, Stayed}
use Rattle.head.specs.Bursts.{heard, after_broadcast, OnlyWindow}
use Rattle.head.specs.State.{stations, record_at, settings_at, station_at}
use Rattle.head.proofs.Moves.{station_no_broadcast, part_kept, byte_kept}

-- what a telegram makes of a station, case by case
module _ (R : Rules) (st : Station) (f : Frame) where
  abbrev acted : Station
  acted = cond (eqb f.receiver st.address) (answered R st f).after (cond (reaches f.receiver st.address) (overheard R st f) st)

  pub heard_stranger : controller f.sender ≡ false → heard R st f ≡ st
  heard_stranger h = cond-false (controller f.sender) acted st h

  pub heard_named : controller f.sender ≡ true → st.address ≡ f.receiver → heard R st f ≡ (answered R st f).after
  heard_named h named =
      cond-true (controller f.sender) acted st h
      ∙ cond-true (eqb f.receiver st.address) (answered R st f).after (after_broadcast R f st) (eq-eqb f.receiver st.address (sym named))

  pub heard_not_named : controller f.sender ≡ true → (st.address ≡ f.receiver → ⊥) → heard R st f ≡ after_broadcast R f st
  heard_not_named h other =
      cond-true (controller f.sender) acted st h
      ∙ cond-false (eqb f.receiver st.address) (answered R st f).after (after_broadcast R f st) (ne_eqb f.receiver st.address (λ e. other (sym e)))

module _ (R : Rules) (f : Frame) (a b : Cabinet) (lines : b.head.lines ≡ a.head.lines) where
  -- a station of which nothing changed
  same_there : (k : ℕ) → record_at b.head k ≡ record_at a.head k → settings_at a.head b.memory k ≡ settings_at a.head a.memory k → b.shares k ≡ a.shares k
      → station_at b.head b.memory b.shares k ≡ station_at a.head a.memory a.shares k
  same_there k records settings shares =
      ap (λ (t : Lines). station_of (line_at t k) (record_at b.head k) (part b.memory (line_at t k).first (line_at t k).size) (b.shares k)) lines
      ∙ ap (λ (r : Record). station_of (line_at a.head.lines k) r (settings_at a.head b.memory k) (b.shares k)) records
      ∙ ap (λ (w : List ℕ). station_of (line_at a.head.lines k) (record_at a.head k) w (b.shares k)) settings
      ∙ ap (λ (s : Share). station_of (line_at a.head.lines k) (record_at a.head k) (settings_at a.head a.memory k) s) shares

  -- a telegram that is addressed to the station in a slot
  pub moved_by_one : (slot : ℕ) → slot < stations a.head → controller f.sender ≡ true → (line_at a.head.lines slot).address.0 ≡ f.receiver
      → station_at b.head b.memory b.shares slot ≡ (answered R (station_at a.head a.memory a.shares slot) f).after
      → ((k : ℕ) → (k ≡ slot → ⊥) → record_at b.head k ≡ record_at a.head k)
      → OnlyWindow (line_at a.head.lines slot).first (line_at a.head.lines slot).size a.memory b.memory
      → SameBut slot a.shares b.shares → Moved R f a b
  moved_by_one slot there asked named turned records window others =
      let t : Lines = a.head.lines in
      let first : ℕ = (line_at t slot).first in
      let size : ℕ = (line_at t slot).size in
      let at : ℕ → Station = λ k. station_at a.head a.memory a.shares k in
      let stays : (k : ℕ) → k < stations a.head → (k ≡ slot → ⊥) → station_at b.head b.memory b.shares k ≡ heard R (at k) f = λ k h apart.
      let other : (line_at t k).address.0 ≡ f.receiver → ⊥ = λ e. apart (addresses_differ t k slot h there (e ∙ sym named)) in
      let unreached : reaches f.receiver (line_at t k).address.0 ≡ false =
      ap (λ (n : ℕ). reaches n (line_at t k).address.0) (sym named) ∙ station_no_broadcast (line_at t slot).address.0 (line_at t k).address.0 (station_there t slot there) in
      same_there k (records k apart)
      (part_kept a.memory b.memory first size window (line_at t k).first (line_at t k).size (windows_apart t slot k there h (λ e. apart (sym e)))) (others k apart)
      ∙ sym (heard_not_named R (at k) f asked other ∙ cond-false (reaches f.receiver (line_at t k).address.0) (overheard R (at k) f) (at k) unreached) in
      record {
        lines = lines;
        station = λ k h.
            elim (cases_eq k slot) [
              | inl here ↦ subst (λ (j : ℕ). station_at b.head b.memory b.shares j ≡ heard R (at j) f) (sym here) (turned ∙ sym (heard_named R (at slot) f asked named))
              | inr apart ↦ stays k h apart
            ];
        long = window.long;
        bytes = λ i out. byte_kept a.memory b.memory first size window i (λ from below. out slot there (from, below));
        shares = λ k past. others k (λ e. omega arith);
      }

  -- a broadcast: the memory stays, and every station acts on it if it is reached
  pub moved_by_all : controller f.sender ≡ true → ((k : ℕ) → k < stations a.head → (line_at a.head.lines k).address.0 ≡ f.receiver → ⊥) → b.memory ≡ a.memory
      → ((k : ℕ) (settings : List ℕ) → station_of (line_at a.head.lines k) (record_at b.head k) settings (b.shares k) ≡ cond (ltb k (stations a.head)) (after_broadcast R f (station_of (line_at a.head.lines k) (record_at a.head k) settings (a.shares k))) (station_of (line_at a.head.lines k) (record_at a.head k) settings (a.shares k)))
      → Moved R f a b
  moved_by_all asked unnamed memory turned =
      let at : ℕ → Station = λ k. station_at a.head a.memory a.shares k in
      record {
        lines = lines;
        station = λ k h.
            ap (λ (t : Lines). station_of (line_at t k) (record_at b.head k) (part b.memory (line_at t k).first (line_at t k).size) (b.shares k)) lines
            ∙ ap (λ (m : List ℕ). station_of (line_at a.head.lines k) (record_at b.head k) (settings_at a.head m k) (b.shares k)) memory
            ∙ turned k (settings_at a.head a.memory k)
            ∙ cond-true (ltb k (stations a.head)) (after_broadcast R f (at k)) (at k) (lt-ltb k (stations a.head) h)
            ∙ sym (heard_not_named R (at k) f asked (unnamed k h));
        long = ap length memory;
        bytes = λ i out. ap (λ (m : List ℕ). get_or m i 0) memory;
        shares = λ k past. ap (λ (st : Station). st.share) (turned k (settings_at a.head a.memory k) ∙ cond-false (ltb k (stations a.head)) (after_broadcast R f (at k)) (at k) (le-ltb k (stations a.head) past));
      }

  -- a telegram of no controller: nothing moves
  pub moved_by_none : controller f.sender ≡ false → Stayed a b → Moved R f a b
  moved_by_none stranger stayed =
      record {
        lines = lines;
        station = λ k h.
            same_there k (stayed.records k) (ap (λ (m : List ℕ). settings_at a.head m k) stayed.memory) (stayed.shares k)
            ∙ sym (heard_stranger R (station_at a.head a.memory a.shares k) f stranger);
        long = ap length stayed.memory;
        bytes = λ i out. ap (λ (m : List ℕ). get_or m i 0) stayed.memory;
        shares = λ k past. stayed.shares k;
      }
