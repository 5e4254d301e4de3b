-- One window of the memory written, and what stays. Assumes nothing.
use Rattle.std.proofs.Common.{◌≡◌, ℕ, ◌+◌, ◌-◌, ◌<◌, ◌≤◌, cond, ltb, List, length, get_or, take, drop, set, Some, None, sym, ap, ◌∙◌, subst, arith, length-append, length-drop, length-take}
use borrow.Rule.Slice.PartMut.{put_mid}
use Rattle.std.proofs.lemmas.List.{get_or-set_same}
use Rattle.std.proofs.lemmas.Slice.{take-put_mid_below, drop-put_mid, between-put_mid}
use Rattle.std.proofs.lemmas.Bool.{lt-ltb, cond-true}
use Rattle.board.specs.Meaning.{Share}
use Rattle.lines.specs.Making.{line_at}
use Rattle.lines.specs.declared.Lines.{Lines}
use Rattle.lines.proofs.Apart.{window_inside}
use Rattle.station.specs.Model.{station_of}
use Rattle.station.specs.declared.Record.{Record}
use Rattle.station.specs.declared.StationLine.{StationLine}
use Rattle.telegram.specs.Layout.{part}
use Rattle.head.specs.Bursts.{OnlyWindow}
use Rattle.head.specs.State.{fresh}

pub line_is : (t : Lines) (slot : ℕ) (l : StationLine) → slot < t.count → Some l ≡ cond (ltb slot t.count) (Some (line_at t slot)) None → l ≡ line_at t slot
line_is t slot l inside h =
    let there : Some l ≡ Some (line_at t slot) = h ∙ cond-true (ltb slot t.count) (Some (line_at t slot)) None (lt-ltb slot t.count inside) in
    cc

-- its window lies in the memory
pub line_inside : (t : Lines) (slot : ℕ) (l : StationLine) → slot < t.count → l ≡ line_at t slot → l.first + l.size ≤ t.memory
line_inside t slot l inside line = subst (λ (x : StationLine). x.first + x.size ≤ t.memory) (sym line) (window_inside t slot inside)

-- the settings before and after, of a line that is lent as a part of the memory
pub lent : (l : StationLine) (memory : List ℕ) → take (l.first + l.size - l.first) (drop l.first memory) ≡ part memory l.first l.size
lent l memory = let count : l.first + l.size - l.first ≡ l.size = omega arith in rw count

pub given_back : (l : StationLine) (memory window : List ℕ) → l.first + l.size ≤ length memory → length window ≡ l.size → part (put_mid l.first (l.first + l.size - l.first) memory window) l.first l.size ≡ window
given_back l memory window inside long =
    let count : l.first + l.size - l.first ≡ l.size = omega arith in
    let there = between-put_mid l.first (l.first + l.size - l.first) memory window (l.first + l.size) (omega arith) (omega arith) in
    ap (λ (n : ℕ). take n (drop l.first (put_mid l.first (l.first + l.size - l.first) memory window))) (sym count) ∙ there

-- the station that answers is the one of the slot,
pub seen_before : (t : Lines) (slot : ℕ) (l : StationLine) (rec : Record) (memory : List ℕ) (s : Share) → l ≡ line_at t slot
    → station_of l rec (take (l.first + l.size - l.first) (drop l.first memory)) s ≡ station_of (line_at t slot) rec (part memory (line_at t slot).first (line_at t slot).size) s
seen_before t slot l rec memory s line =
    ap (λ (w : List ℕ). station_of l rec w s) (lent l memory)
    ∙ ap (λ (x : StationLine). station_of x rec (part memory x.first x.size) s) line

-- and afterwards too
pub seen_after : (t : Lines) (slot : ℕ) (l : StationLine) (records : List Record) (rec : Record) (memory window : List ℕ) (s : Share) → l ≡ line_at t slot
    → slot < length records → l.first + l.size ≤ length memory → length window ≡ l.size
    → station_of (line_at t slot) (get_or (set records slot rec) slot fresh) (part (put_mid l.first (l.first + l.size - l.first) memory window) (line_at t slot).first (line_at t slot).size) s ≡ station_of l rec window s
seen_after t slot l records rec memory window s line short inside long =
    ap (λ (x : StationLine). station_of x (get_or (set records slot rec) slot fresh) (part (put_mid l.first (l.first + l.size - l.first) memory window) x.first x.size) s) (sym line)
    ∙ ap (λ (r : Record). station_of l r (part (put_mid l.first (l.first + l.size - l.first) memory window) l.first l.size) s) (get_or-set_same records slot rec fresh short)
    ∙ ap (λ (w : List ℕ). station_of l rec w s) (given_back l memory window inside long)

pub only_that : (l : StationLine) (memory window : List ℕ) → l.first + l.size ≤ length memory → length window ≡ l.size → OnlyWindow l.first l.size memory (put_mid l.first (l.first + l.size - l.first) memory window)
only_that l memory window inside long =
    record {
      long = simp (length-append, length-take, length-drop) (omega arith);
      below = take-put_mid_below l.first (l.first + l.size - l.first) memory window l.first (omega arith) (omega arith);
      above = drop-put_mid l.first (l.first + l.size - l.first) memory window (l.first + l.size) (omega arith) (omega arith) (omega arith);
    }

pub only_its_own : (t : Lines) (slot : ℕ) (l : StationLine) (memory window : List ℕ) → l ≡ line_at t slot → l.first + l.size ≤ length memory → length window ≡ l.size
    → OnlyWindow (line_at t slot).first (line_at t slot).size memory (put_mid l.first (l.first + l.size - l.first) memory window)
only_its_own t slot l memory window line inside long =
    subst (λ (x : StationLine). OnlyWindow x.first x.size memory (put_mid l.first (l.first + l.size - l.first) memory window)) line
    (only_that l memory window inside long)
