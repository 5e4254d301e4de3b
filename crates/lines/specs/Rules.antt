-- When a list of station lines may stand behind one connection: a test for each rule. Assumes nothing.
use Rattle.std.specs.Prelude.{ℕ, ◌+◌, min, max, Bool, true, not, ◌&&◌, List, [], ◌∷◌, length, ◌==◌, nat_le}
use Rattle.std.specs.List.{list_all}
use Rattle.address.specs.Addressing.{station}
use Rattle.station.specs.declared.StationLine.{StationLine}

-- every two pass, the earlier before the later
abbrev pub every_two : (StationLine → StationLine → Bool) → List StationLine → Bool
every_two t [] = true
every_two t (l ∷ ls) = list_all (t l) ls && every_two t ls

abbrev pub few : List StationLine → Bool
few ls = nat_le 1 (length ls) && nat_le (length ls) 32

abbrev pub is_station : StationLine → Bool
is_station l = station l.address.0

abbrev pub differ : StationLine → StationLine → Bool
differ a b = not (a.address.0 == b.address.0)

-- a window has at most 4,096 bytes, lies inside the memory, and has at least as many bytes as are protected
abbrev pub good_window : ℕ → StationLine → Bool
good_window memory l = nat_le l.size 4096 && nat_le (l.first + l.size) memory && nat_le l.protected l.size

-- two windows share no byte: the one that ends first ends where the one that begins last begins, or before
abbrev pub apart : StationLine → StationLine → Bool
apart a b = nat_le (min (a.first + a.size) (b.first + b.size)) (max a.first b.first)

-- the five rules of a list
abbrev pub sound : ℕ → List StationLine → Bool
sound memory ls =
    few ls && list_all is_station ls && every_two differ ls && list_all (good_window memory) ls && every_two apart ls
