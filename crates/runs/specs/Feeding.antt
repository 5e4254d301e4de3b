-- The model station fed with calls: what each makes of it, and what it says to each. A call comes to it without head,
-- board, memory and line record, and without the number of its slot. Assumes nothing.
use Rattle.std.specs.Prelude.{ℕ, ◌+◌, ◌-◌, ◌^◌, min, cond, ◌&&◌, List, [], ◌∷◌, length, Some, None, Option, ◌==◌, nat_le}
use Rattle.address.specs.Addressing.{controller}
use Rattle.board.specs.Meaning.{Rules, Stored, kept, not_puttable, wrong_type}
use Rattle.burst.specs.Telegram.{telegram_of}
use Rattle.head.specs.Bursts.{heard, reply_to}
use Rattle.head.specs.Calls.{share_by, listed}
use Rattle.readings.specs.declared.outcome.Outcome.{Outcome}
use Rattle.station.specs.Model.{Station, answered, with_clock, with_condition, with_share}
use Rattle.telegram.specs.Layout.{Frame, frame_bytes}

-- a call for the station
pub data Event : Type 0 where
  -- the burst's bytes, and the length of the reply buffer
  a_burst : List ℕ → ℕ → Event
  a_put : ℕ → Outcome → Event
  a_condition : ℕ → Event
  a_tick : ℕ → Event

-- what it says: a reply, the number of a refusal, or neither
pub data Said : Type 0 where
  nothing : Said
  replied : List ℕ → Said
  refused : ℕ → Said

-- a burst without telegram does nothing
abbrev pub after_telegram : Rules → Station → Option Frame → Station
after_telegram R st None = st
after_telegram R st (Some f) = heard R st f

-- a telegram that a controller addressed to it draws its reply; a broadcast draws none
abbrev pub reply_by : Rules → Station → Option Frame → Said
reply_by R st None = nothing
reply_by R st (Some f) =
    cond (controller f.sender && f.receiver == st.address) (replied (frame_bytes (reply_to f (answered R st f).payload))) nothing

-- a put is refused by the board's rule
abbrev pub put_said : Stored → Said
put_said (kept s) = nothing
put_said not_puttable = refused 21
put_said wrong_type = refused 22

-- THE STATION AFTER A CALL; a refused one changes nothing
abbrev pub after : Rules → Station → Event → Station
after R st (a_burst bytes room) = cond (nat_le (length bytes) 512 && nat_le 224 room) (after_telegram R st (telegram_of bytes)) st
after R st (a_put channel outcome) = with_share st (share_by (R.stored st.share channel outcome) st.share)
after R st (a_condition code) = cond (listed code) (with_condition st code) st
after R st (a_tick seconds) = with_clock st (min (st.clock + seconds) (2 ^ 32 - 1))

-- WHAT THE STATION SAYS TO A CALL
abbrev pub says : Rules → Station → Event → Said
says R st (a_burst bytes room) =
    cond (nat_le (length bytes) 512) (cond (nat_le 224 room) (reply_by R st (telegram_of bytes)) (refused 11)) (refused 10)
says R st (a_put channel outcome) = put_said (R.stored st.share channel outcome)
says R st (a_condition code) = cond (listed code) nothing (refused 23)
says R st (a_tick seconds) = nothing

-- and so for a list of calls, each of which finds the station as the earlier ones left it
abbrev pub after_all : Rules → Station → List Event → Station
after_all R st [] = st
after_all R st (e ∷ es) = after_all R (after R st e) es

abbrev pub says_all : Rules → Station → List Event → List Said
says_all R st [] = []
says_all R st (e ∷ es) = says R st e ∷ says_all R (after R st e) es
