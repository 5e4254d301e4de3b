-- What a burst does. Assumes nothing.
use Rattle.std.specs.Prelude.{◌≡◌, ℕ, ◌+◌, cond, List, length, take, drop, ◌==◌}
use Rattle.board.specs.Meaning.{Rules}
use Rattle.address.specs.Addressing.{controller, reaches}
use Rattle.station.specs.Model.{Station, answered, overheard}
use Rattle.telegram.specs.Layout.{Frame}

-- WHAT A TELEGRAM MAKES OF A STATION: only a controller's does anything; one that is addressed to it is answered, and a
-- broadcast that reaches it is overheard.
abbrev pub heard : Rules → Station → Frame → Station
heard R st f =
    cond (controller f.sender)
    (cond (f.receiver == st.address) (answered R st f).after
    (cond (reaches f.receiver st.address) (overheard R st f) st))
    st

-- a reply repeats the command and swaps the addresses
abbrev pub reply_to : Frame → List ℕ → Frame
reply_to f payload =
    record { version = 0x10; receiver = f.sender; sender = f.receiver; command = f.command; command_version = 0x10; payload = payload }

-- no byte of the memory changes but those of one window
pub record OnlyWindow (first size : ℕ) (before after : List ℕ) : Type 0 where
  pub long : length after ≡ length before
  pub below : take first after ≡ take first before
  pub above : drop (first + size) after ≡ drop (first + size) before

-- a station after a broadcast, whether it reaches it or not
abbrev pub after_broadcast : Rules → Frame → Station → Station
after_broadcast R f st = cond (reaches f.receiver st.address) (overheard R st f) st
