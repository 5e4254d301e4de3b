-- Bytes written over a window. Assumes nothing.
use Rattle.std.proofs.Common.{◌≡◌, ℕ, cond, List, length, refl}
use borrow.Rule.Slice.PartMut.{put_mid}
use Rattle.std.proofs.lemmas.List.{drop-drop}
use Rattle.station.specs.Model.{went_well}
use Rattle.station.specs.Replies.{overwritten, lone, ok}

pub put_over : (window bytes ys : List ℕ) (at' start k : ℕ) → at' ≡ start → ys ≡ bytes → k ≡ length bytes → put_mid at' k window ys ≡ overwritten window start bytes
put_over window bytes ys at' start k place same count = rw (place, same, count, drop-drop (length bytes) start window)

-- after a reply of 00h it is the change that holds
pub well : {A : Type 0} (reply : List ℕ) (x y : A) → reply ≡ lone ok → x ≡ cond (went_well reply) x y
well reply x y is = rw is refl
