-- Which rule a list of station lines breaks first, and what a table of lines holds. Assumes nothing.
use Rattle.std.specs.Prelude.{ℕ, cond, List, take, Some, None, Option, slice_index_or}
use Rattle.std.specs.List.{list_all}
use Rattle.station.specs.declared.StationLine.{StationLine}
use Rattle.lines.specs.declared.refusal.StartRefusal.{StartRefusal}
use Rattle.lines.specs.declared.refusal.StartRefusal.TheVariants.{LineCount, NoStation, AddressTwice, BadWindow, SharedByte, FewSlots}
use Rattle.lines.specs.declared.table.Lines.{Lines}
use Rattle.lines.specs.Rules.{few, every_two, is_station, differ, good_window, apart}

-- every refusal with its number
abbrev pub number : StartRefusal → ℕ
number LineCount = 1
number NoStation = 2
number AddressTwice = 3
number BadWindow = 4
number SharedByte = 5
number FewSlots = 6

-- the first rule that the lines break, with a memory of so many bytes
abbrev pub broken : ℕ → List StationLine → Option StartRefusal
broken memory ls =
    cond (few ls)
    (cond (list_all is_station ls)
    (cond (every_two differ ls)
    (cond (list_all (good_window memory) ls)
    (cond (every_two apart ls) None (Some SharedByte))
    (Some BadWindow))
    (Some AddressTwice))
    (Some NoStation))
    (Some LineCount)

-- the lines that a table holds
abbrev pub lines_of : Lines → List StationLine
lines_of t = take t.count t.lines

-- a line that no station has: what stands in the table behind its lines
abbrev pub no_line : StationLine
no_line = record { address = record { 0 = 0 }; first = 0; size = 0; protected = 0 }

-- the line of a slot
abbrev pub line_at : Lines → ℕ → StationLine
line_at t slot = slice_index_or t.lines slot no_line
