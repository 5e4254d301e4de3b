-- The stations of a head. Assumes nothing.
use Rattle.std.specs.Prelude.{ℕ, List, slice_index_or}
use Rattle.board.specs.Meaning.{Share}
use Rattle.lines.specs.Making.{line_at}
use Rattle.station.specs.Model.{Station, station_of}
use Rattle.station.specs.declared.Record.{Record}
use Rattle.telegram.specs.Layout.{part}
use Rattle.head.specs.declared.state.Head.{Head}

-- the record of a station at the start
abbrev pub fresh : Record
fresh = record { clock = 0; condition = 0; last = 0 }

abbrev pub stations : Head → ℕ
stations h = h.lines.count

abbrev pub record_at : Head → ℕ → Record
record_at h k = slice_index_or h.records k fresh

-- the settings of a slot: the bytes of its window
abbrev pub settings_at : Head → List ℕ → ℕ → List ℕ
settings_at h memory k = part memory (line_at h.lines k).first (line_at h.lines k).size

-- the station in a slot
abbrev pub station_at : Head → List ℕ → (ℕ → Share) → ℕ → Station
station_at h memory shares k = station_of (line_at h.lines k) (record_at h k) (settings_at h memory k) (shares k)
