-- The bytes of a telegram: how they come into a buffer, and that reading them gives the fields. Assumes nothing.
use Rattle.std.proofs.Common.{◌≡◌, ℕ, ◌+◌, ◌-◌, ◌/◌, ◌%◌, ◌<◌, ◌≤◌, List, [], ◌∷◌, ◌++◌, length, get_or, take, drop, set, sym, refl, ap, ◌∙◌, subst, arith, length-append}
use native.Mathlib.Nat.{mod-add-div}
use borrow.Rule.Slice.PartMut.{put_mid}
use Rattle.std.proofs.lemmas.List.{append_assoc, take_at, drop_at, drop-drop, drop_more, set_at, get_or_at, get_or-append-add}
use Rattle.checksum.specs.Crc.{crc}
use Rattle.telegram.specs.Writing.{Written}
use Rattle.telegram.specs.Layout.{at, word, part, len, Stands, Frame, frame_at, low_first, covered, frame_bytes}

-- the ten bytes before the payload
abbrev pub head : Frame → List ℕ
head f =
    0x01 ∷ f.version ∷ low_first f.receiver (low_first f.sender
    ((2 + length f.payload) ∷ 0x02 ∷ f.command ∷ f.command_version ∷ []))

covered_is : (f : Frame) → covered f ≡ (head f ++ f.payload) ++ 0x03 ∷ []
unfolding covered
covered_is f = sym (append_assoc (head f) f.payload (0x03 ∷ []))

pub length-covered : (f : Frame) → length (covered f) ≡ 11 + length f.payload
length-covered f = rw covered_is (simp length-append (omega arith))

-- A buffer is written from its front on: xs stands there, and behind it what was there before.
put_next : (xs ys buffer : List ℕ) (a k : ℕ) → length xs ≡ a → put_mid a k (xs ++ drop a buffer) ys ≡ (xs ++ ys) ++ drop (a + k) buffer
put_next xs ys buffer a k h =
    simp (take_at xs (drop a buffer) a h, drop_at xs (drop a buffer) a h, drop-drop)
    (sym (append_assoc xs ys (drop (a + k) buffer)))

set_next : (xs buffer : List ℕ) (y a : ℕ) → length xs ≡ a → a < length buffer → set (xs ++ drop a buffer) a y ≡ (xs ++ y ∷ []) ++ drop (a + 1) buffer
set_next xs buffer y a h inside =
    rw (drop_more buffer a 0)
    (set_at xs (get_or buffer a 0) (drop (a + 1) buffer) y a h ∙ sym (append_assoc xs (y ∷ []) (drop (a + 1) buffer)))

-- head, payload and ETX, one after the other
pub laid : (f : Frame) (buffer xs ys : List ℕ) (n k : ℕ) → xs ≡ head f → ys ≡ f.payload → n ≡ length f.payload → k ≡ n → 11 + n ≤ length buffer
    → set (put_mid 10 k (xs ++ drop 10 buffer) ys) (10 + n) 0x03 ≡ covered f ++ drop (11 + n) buffer
laid f buffer xs ys n k hx hy hn hk room =
    let front : List ℕ = xs ++ ys in
    let long : length (xs ++ ys) ≡ 10 + n = simp length-append (omega (arith, ap length hx, ap length hy)) in
    let whole : (xs ++ ys) ++ 0x03 ∷ [] ≡ covered f = rw (hx, hy) (sym (covered_is f)) in
    let next : 10 + n + 1 ≡ 11 + n = omega arith in
    ap (λ (l : List ℕ). set l (10 + n) 0x03) (put_next xs ys buffer 10 k (ap length hx) ∙ rw hk)
    ∙ set_next (xs ++ ys) buffer 0x03 (10 + n) long (omega arith) ∙ rw (whole, next)

-- and the checksum and EOT behind them
pub closed : (f : Frame) (buffer xs ys : List ℕ) (n k : ℕ) → xs ≡ covered f ++ drop (11 + n) buffer → ys ≡ low_first (crc (covered f)) (0x04 ∷ []) → n ≡ length f.payload → k ≡ 3
    → put_mid (11 + n) k xs ys ≡ frame_bytes f ++ drop (14 + n) buffer
unfolding frame_bytes
closed f buffer xs ys n k hx hy hn hk =
    let next : 11 + n + 3 ≡ 14 + n = omega arith in
    rw (hx, hy, hk) (put_next (covered f) (low_first (crc (covered f)) (0x04 ∷ [])) buffer (11 + n) 3 (rw hn (length-covered f)) ∙ rw next)

made : ℕ → ℕ → ℕ → ℕ → ℕ → List ℕ → Frame
made v r s c w p = record { version = v; receiver = r; sender = s; command = c; command_version = w; payload = p }

same_fields : (f g : Frame) → f.version ≡ g.version → f.receiver ≡ g.receiver → f.sender ≡ g.sender → f.command ≡ g.command → f.command_version ≡ g.command_version → f.payload ≡ g.payload → f ≡ g
unfolding made
same_fields f g v r s c w p =
    let same : made f.version f.receiver f.sender f.command f.command_version f.payload ≡ made g.version g.receiver g.sender g.command g.command_version g.payload = cc in
    same

-- the covered bytes of a buffer that begins with them
pub covered_front : (f : Frame) (buffer rest : List ℕ) (n k : ℕ) → buffer ≡ covered f ++ rest → n ≡ length f.payload → k ≡ 11 + n → take k buffer ≡ covered f
covered_front f buffer rest n k h hn hk = rw h (take_at (covered f) rest k (omega (arith, length-covered f)))

-- The front of a buffer where a telegram has been written.
module _ (f : Frame) (rest : List ℕ) where
  abbrev bytes : List ℕ
  bytes = frame_bytes f ++ rest

  behind : List ℕ
  behind = low_first (crc (covered f)) (0x04 ∷ rest)

  after_covered : bytes ≡ covered f ++ behind
  unfolding behind frame_bytes
  after_covered = append_assoc (covered f) (low_first (crc (covered f)) (0x04 ∷ [])) rest

  after_payload : bytes ≡ (head f ++ f.payload) ++ 0x03 ∷ behind
  after_payload = after_covered ∙ rw covered_is (append_assoc (head f ++ f.payload) (0x03 ∷ []) behind)

  -- the n-th byte behind ETX
  at_behind : (n : ℕ) → at bytes (11 + length f.payload + n) ≡ at behind n
  at_behind n = rw (after_covered, ← length-covered f) (get_or-append-add (covered f) behind n 0)

  len_is : len bytes 0 ≡ 2 + length f.payload
  unfolding frame_bytes covered
  len_is = refl

  etx_there : at bytes (0 + (8 + len bytes 0)) ≡ 0x03
  etx_there =
      let long : length (head f ++ f.payload) ≡ 10 + length f.payload = length-append (head f) f.payload in
      let index : 0 + (8 + len bytes 0) ≡ 10 + length f.payload = omega (arith, len_is) in
      ap (at bytes) index
      ∙ rw after_payload (get_or_at (head f ++ f.payload) 0x03 behind 0 (10 + length f.payload) long)

  eot_there : at bytes (0 + (11 + len bytes 0)) ≡ 0x04
  unfolding behind
  eot_there =
      let index : 0 + (11 + len bytes 0) ≡ 11 + length f.payload + 2 = omega (arith, len_is) in
      ap (at bytes) index ∙ at_behind 2

  sum_there : word bytes (0 + (9 + len bytes 0)) ≡ crc (covered f)
  unfolding behind
  sum_there =
      let low_at : 0 + (9 + len bytes 0) ≡ 11 + length f.payload + 0 = omega (arith, len_is) in
      let high_at : 0 + (9 + len bytes 0) + 1 ≡ 11 + length f.payload + 1 = omega (arith, len_is) in
      let low : at bytes (0 + (9 + len bytes 0)) ≡ crc (covered f) % 256 = ap (at bytes) low_at ∙ at_behind 0 in
      let high : at bytes (0 + (9 + len bytes 0) + 1) ≡ crc (covered f) / 256 = ap (at bytes) high_at ∙ at_behind 1 in
      rw (low, high) (mod-add-div (crc (covered f)) 256)

  covered_there : part bytes 0 (9 + len bytes 0) ≡ covered f
  covered_there =
      let count : 9 + len bytes 0 ≡ 11 + length f.payload = omega (arith, len_is) in
      rw (count, after_covered) (take_at (covered f) behind (11 + length f.payload) (length-covered f))

  long_enough : 14 + length f.payload ≤ length bytes
  unfolding behind
  long_enough = omega (arith, ap length after_covered, length-append (covered f) behind, length-covered f)

  pub stands_front : length f.payload ≤ 210 → Stands bytes 0
  unfolding frame_bytes covered
  stands_front h =
      record {
        soh = refl;
        least = omega arith;
        most = omega arith;
        whole = omega (arith, long_enough);
        stx = refl;
        etx = etx_there;
        eot = eot_there;
        checked = sum_there ∙ sym (ap crc covered_there);
      }

  payload_there : part bytes 10 (len bytes 0 - 2) ≡ f.payload
  unfolding frame_bytes covered
  payload_there =
      let count : 2 + length f.payload - 2 ≡ length f.payload = omega arith in
      rw count (simp append_assoc (take_at f.payload _ (length f.payload) refl))

  pub same_front : frame_at bytes 0 ≡ f
  unfolding frame_bytes covered
  same_front =
      same_fields (frame_at bytes 0) f refl (mod-add-div f.receiver 256) (mod-add-div f.sender 256) refl refl payload_there

-- What `write` leaves: the covered bytes, then the checksum over the front of the buffer, then EOT.
pub written : (f : Frame) (before covers ends : List ℕ) (sum a k : ℕ)
    → 224 ≤ length before → length f.payload ≤ 210 → covers ≡ covered f ++ drop (11 + length f.payload) before
    → sum ≡ crc (take a covers) → a ≡ 11 + length f.payload → ends ≡ low_first sum (0x04 ∷ []) → k ≡ 3
    → Written f before (put_mid (11 + length f.payload) k covers ends) (14 + length f.payload)
written f before covers ends sum a k room fits hc hs ha he hk =
    let n : ℕ = length f.payload in
    let rest : List ℕ = drop (14 + n) before in
    let front : take a covers ≡ covered f = covered_front f covers (drop (11 + n) before) n a hc refl ha in
    let ends_is : ends ≡ low_first (crc (covered f)) (0x04 ∷ []) = he ∙ rw (hs, front) refl in
    let all : put_mid (11 + n) k covers ends ≡ frame_bytes f ++ rest = closed f before covers ends n k hc ends_is refl hk in
    record {
      room = room;
      fits = fits;
      count = refl;
      bytes = all;
      stands = subst (λ (l : List ℕ). Stands l 0) (sym all) (stands_front f rest fits);
      same = ap (λ (l : List ℕ). frame_at l 0) all ∙ same_front f rest;
    }
