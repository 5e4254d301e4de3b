-- A view over a burst, and what its parts are. Assumes nothing.
use Rattle.std.specs.Prelude.{◌≡◌, ℕ, List}
use Rattle.telegram.specs.declared.view.Part.{Part}
use Rattle.telegram.specs.declared.view.Telegram.{Telegram}
use Rattle.telegram.specs.declared.view.Fields.{Fields}
use Rattle.telegram.specs.Layout.{part, len, Frame}

-- the n bytes of the burst from i on, with their position
abbrev pub IsPart : List ℕ → ℕ → ℕ → Part → Type 0
IsPart s i n r = (r.position ≡ i) × (r.bytes.now ≡ part s i n)

-- the burst that a view lies over
abbrev pub burst_of : Telegram → List ℕ
burst_of t = t.burst.now

-- a view over the burst s at the telegram that begins at p
abbrev pub Views : List ℕ → ℕ → Telegram → Type 0
Views s p t = (burst_of t ≡ s) × (t.start ≡ p) × (t.len ≡ len s p)

-- the fields as the program holds them, and as the layout has them
abbrev pub frame : Fields → Frame
frame f =
    record {
      version = f.version;
      receiver = f.receiver.0;
      sender = f.sender.0;
      command = f.command;
      command_version = f.command_version;
      payload = f.payload.now;
    }
