-- THE MODEL STATION: what one station answers, and what becomes of it, from its own state and the board's rules alone.
-- Neither the slot's number nor the place of its window in the memory occurs here. Assumes nothing.
use Rattle.std.specs.Prelude.{◌≡◌, ℕ, Bool, cond, ◌&&◌, ◌||◌, List, [], ◌∷◌, drop, ◌==◌}
pub use Rattle.board.specs.Meaning.{Rules}
use Rattle.board.specs.Meaning.{Share, Same, SameBut}
use Rattle.readings.specs.Bytes.{little_endian, weighed}
use Rattle.telegram.specs.Layout.{at, word, Frame}
use Rattle.station.specs.declared.record.Record.{Record}
use Rattle.station.specs.declared.record.StationLine.{StationLine}
use Rattle.station.specs.Replies as replies

pub record Station : Type 0 where
  -- its line
  pub address : ℕ
  pub protected : ℕ
  -- its record
  pub clock : ℕ
  pub condition : ℕ
  pub last : ℕ
  -- the bytes of its window
  pub settings : List ℕ
  -- its share of the board
  pub share : Share

-- the station that a line, a record, a window and a share make
abbrev pub station_of : StationLine → Record → List ℕ → Share → Station
station_of line rec window share =
    record {
      address = line.address.0;
      protected = line.protected;
      clock = rec.clock;
      condition = rec.condition;
      last = rec.last;
      settings = window;
      share = share;
    }

-- a reply's payload, and the station after it
pub record Answer : Type 0 where
  pub payload : List ℕ
  pub after : Station

-- a reply that leaves the station as it was
abbrev pub told : Station → List ℕ → Answer
told st payload = record { payload = payload; after = st }

abbrev pub with_clock : Station → ℕ → Station
with_clock st n =
    record { address = st.address; protected = st.protected; clock = n; condition = st.condition; last = st.last; settings = st.settings; share = st.share }

abbrev pub with_condition : Station → ℕ → Station
with_condition st n =
    record { address = st.address; protected = st.protected; clock = st.clock; condition = n; last = st.last; settings = st.settings; share = st.share }

abbrev pub with_last : Station → ℕ → Station
with_last st n =
    record { address = st.address; protected = st.protected; clock = st.clock; condition = st.condition; last = n; settings = st.settings; share = st.share }

abbrev pub with_settings : Station → List ℕ → Station
with_settings st bytes =
    record { address = st.address; protected = st.protected; clock = st.clock; condition = st.condition; last = st.last; settings = bytes; share = st.share }

abbrev pub with_share : Station → Share → Station
with_share st s =
    record { address = st.address; protected = st.protected; clock = st.clock; condition = st.condition; last = st.last; settings = st.settings; share = s }

-- whether a reply says that all went well
abbrev pub went_well : List ℕ → Bool
went_well payload = at payload 0 == replies.ok

-- the commands that change something: settings, time and share change only where the reply is 00h
abbrev pub write_settings : Station → List ℕ → Answer
write_settings st p =
    let payload : List ℕ = replies.settings_write st.settings st.protected p in
    record { payload = payload; after = cond (went_well payload) (with_settings st (replies.overwritten st.settings (word p 0) (drop 3 p))) st }

abbrev pub set_time : Station → List ℕ → Answer
set_time st p =
    record { payload = replies.set_time p; after = cond (went_well (replies.set_time p)) (with_clock st (weighed p)) st }

abbrev pub restart : Rules → Station → List ℕ → Answer
restart R st p =
    record { payload = replies.restart p; after = cond (went_well (replies.restart p)) (with_share st (R.restarted st.share)) st }

abbrev pub known : ℕ → Bool
known c =
    (c == 0x21) || c == 0x22 || c == 0x23 || c == 0x25 || c == 0x26 || c == 0x27 || c == 0x28 || c == 0x2C || c == 0x2F

-- what each of the nine commands does; no other comes here
abbrev pub command : Rules → Station → ℕ → List ℕ → Answer
command R st c p =
    cond (c == 0x21) (told st (replies.settings_read st.settings p))
    (cond (c == 0x22) (write_settings st p)
    (cond (c == 0x23) (told st (replies.online (R.tells st.share) p))
    (cond (c == 0x25) (restart R st p)
    (cond (c == 0x26) (told st (replies.told (st.condition ∷ []) p))
    (cond (c == 0x27) (set_time st p)
    (cond (c == 0x28) (told st (replies.told (little_endian 4 st.clock) p))
    (cond (c == 0x2C) (told st (replies.told (st.last ∷ []) p))
    (told st (replies.online_many (R.tells st.share) p)))))))))

-- the status is the first that fits: version, command, version of the command, and then the command's own
abbrev pub judged : Rules → Station → Frame → Answer
judged R st f =
    cond (f.version == 0x10)
    (cond (known f.command)
    (cond (f.command_version == 0x10) (command R st f.command f.payload) (told st (replies.lone replies.invalid_command_version)))
    (told st (replies.lone replies.unknown_command)))
    (told st (replies.lone replies.invalid_header))

-- the last status is that of the previous reply
abbrev pub noted : Answer → Answer
noted a = record { payload = a.payload; after = with_last a.after (at a.payload 0) }

-- WHAT A STATION ANSWERS to a telegram that is addressed to it
abbrev pub answered : Rules → Station → Frame → Answer
answered R st f = noted (judged R st f)

-- What a call does that answers for the station in a slot: the reply and the station afterwards are those of the answer,
-- and every other share stays.
pub record Became (answer : Answer) (payload : List ℕ) (after : Station) (slot : ℕ) (shares shares' : ℕ → Share) : Type 0 where
  pub replied : payload ≡ answer.payload
  pub turned : after ≡ answer.after
  pub others : SameBut slot shares shares'

-- what a call does that finds no such slot
pub record Unchanged (rec rec' : Record) (window window' : List ℕ) (held held' : ℕ → Share) : Type 0 where
  pub records : rec' ≡ rec
  pub settings : window' ≡ window
  pub shares : Same held held'

-- WHAT A STATION DOES ON A BROADCAST that reaches it: with both versions 10h, a restart or a new time with a right payload
-- acts, and nothing else does. It draws no reply, and leaves the last status, but that a restart sets it to 00h.
abbrev pub overheard : Rules → Station → Frame → Station
overheard R st f =
    cond (f.version == 0x10 && f.command_version == 0x10)
    (cond (f.command == 0x25)
    (cond (went_well (replies.restart f.payload)) (with_last (with_share st (R.restarted st.share)) replies.ok) st)
    (cond (f.command == 0x27) (set_time st f.payload).after st))
    st
