-- The manual's clause "Addressing with Class- and Device-ID": an address is a number of 16 bits. Each rule is a test.
-- Assumes nothing.
use Rattle.std.specs.Prelude.{Bool, ◌&&◌, ◌||◌, not, true, ◌≡◌, ℕ, ◌/◌, ◌%◌, eqb, leb}
use Rattle.address.specs.declared.Role.{Role}
use Rattle.address.specs.declared.Role.TheVariants.{OfStation, OfController, ToAll, ToClass, OfNobody}

-- bits 15 to 12: what kind of device it is
abbrev pub class : ℕ → ℕ
class a = a / 4096

-- bits 11 to 8: not in use, 0 in every address of a device
abbrev pub reserve : ℕ → ℕ
reserve a = a / 256 % 16

-- bits 7 to 0: which device of its class it is
abbrev pub id : ℕ → ℕ
id a = a % 256

-- the classes 1 to 14 are those of stations; 0 is the broadcast's, 15 the controllers'
abbrev pub of_station_class : ℕ → Bool
of_station_class a = leb 1 (class a) && leb (class a) 14

abbrev pub station : ℕ → Bool
station a = of_station_class a && eqb (reserve a) 0 && leb 1 (id a)

abbrev pub controller : ℕ → Bool
controller a = eqb (class a) 15 && eqb (reserve a) 0 && leb 1 (id a)

abbrev pub broadcast_to_all : ℕ → Bool
broadcast_to_all a = eqb a 0

abbrev pub broadcast_to_class : ℕ → Bool
broadcast_to_class a = of_station_class a && eqb (reserve a) 0 && eqb (id a) 0

-- the broadcast to all reaches every station, the one to a class the stations of that class
abbrev pub reaches : ℕ → ℕ → Bool
reaches a s = station s && (broadcast_to_all a || (broadcast_to_class a && eqb (class a) (class s)))

-- what an address is used for
abbrev pub HasRole : ℕ → Role → Type 0
HasRole a OfStation = station a ≡ true
HasRole a OfController = controller a ≡ true
HasRole a ToAll = broadcast_to_all a ≡ true
HasRole a ToClass = broadcast_to_class a ≡ true
HasRole a OfNobody = not (station a || controller a || broadcast_to_all a || broadcast_to_class a) ≡ true
