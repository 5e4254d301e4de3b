-- A telegram that is read writes back to the same bytes. Assumes nothing.
use Rattle.std.proofs.Common.{◌≡◌, ℕ, zero, suc, ◌+◌, ◌-◌, ◌*◌, ◌/◌, ◌%◌, ◌<◌, ◌≤◌, List, [], ◌∷◌, ◌++◌, length, take, drop, sym, refl, ap, ◌∙◌, add-zero, arith, length-drop, take-add}
use Rattle.std.proofs.lemmas.List.{drop-drop, drop_more, length-take-le}
use Rattle.std.proofs.lemmas.Nat.{div-mul-add, mod-mul-add}
use Rattle.checksum.specs.Crc.{crc}
use Rattle.telegram.proofs.Frames.{head}
use Rattle.burst.specs.declared.repeater.RelayFault.TheVariants.{Unwritten}
use Rattle.telegram.specs.declared.Telegram.{Telegram}
use Rattle.telegram.specs.declared.WriteRefusal.{WriteRefusal}
use Rattle.telegram.specs.declared.WriteRefusal.TheVariants.{BufferTooShort, PayloadTooLong}
use Rattle.burst.specs.Relay.{Relayed, NotRelayed}
use Rattle.telegram.specs.View.{Views, burst_of}
use Rattle.telegram.specs.Writing.{Refused, Written}
use Rattle.telegram.specs.Layout.{at, word, part, len, Stands, First, Frame, frame_of, frame_at, low_first, covered, frame_bytes}

-- the n bytes at p + k and after, one by one
listed : List ℕ → ℕ → ℕ → ℕ → List ℕ
listed s p k zero = []
listed s p k (suc n) = at s (p + k) ∷ listed s p (suc k) n

part_listed : (s : List ℕ) (p k n : ℕ) → p + k + n ≤ length s → part s (p + k) n ≡ listed s p k n
unfolding listed
part_listed s p k zero h = refl
part_listed s p k (suc n) h =
    let inside : p + k < length s = omega arith in
    let next : p + suc k ≡ p + k + 1 = omega arith in
    rw (drop_more s (p + k) 0) (ap (λ (l : List ℕ). at s (p + k) ∷ l) (rw next at (part_listed s p (suc k) n (omega arith))))

-- a + b bytes are a bytes and the b bytes behind them
part_more : (s : List ℕ) (i a b : ℕ) → part s i (a + b) ≡ part s i a ++ part s (i + a) b
part_more s i a b = take-add a b (drop i s) ∙ ap (λ (l : List ℕ). take a (drop i s) ++ take b l) (drop-drop a i s)

-- the two bytes of a number are those that it was read from
word_low : (a b : ℕ) → a < 256 → (a + 256 * b) % 256 ≡ a
word_low a b h = let turned : a + 256 * b ≡ b * 256 + a = omega arith in rw turned (mod-mul-add b 256 a h)

word_high : (a b : ℕ) → a < 256 → (a + 256 * b) / 256 ≡ b
word_high a b h = let turned : a + 256 * b ≡ b * 256 + a = omega arith in rw turned (div-mul-add b 256 a h)

-- a number read at i, written again
word_back : (s : List ℕ) (i j : ℕ) (rest : List ℕ) → ((k : ℕ) → at s k < 256) → i + 1 ≡ j → low_first (word s i) rest ≡ at s i ∷ at s j ∷ rest
word_back s i j rest bytes next =
    let low = word_low (at s i) (at s (i + 1)) (bytes i) in
    let high = word_high (at s i) (at s (i + 1)) (bytes i) ∙ ap (at s) next in
    rw (low, high)

payload_length : (s : List ℕ) (p : ℕ) → Stands s p → length (part s (p + 10) (len s p - 2)) ≡ len s p - 2
payload_length s p t =
    length-take-le (len s p - 2) (drop (p + 10) s) (simp length-drop (omega (arith, t.whole, t.least)))

module _ (s : List ℕ) (p : ℕ) (bytes : (k : ℕ) → at s k < 256) (t : Stands s p) where
  head_back : head (frame_at s p) ≡ part s p 10
  unfolding listed
  head_back =
      let first : at s (p + 0) ≡ 0x01 = ap (at s) (add-zero p) ∙ t.soh in
      let to_low = word_low (at s (p + 2)) (at s (p + 2 + 1)) (bytes (p + 2)) in
      let to_next : p + 2 + 1 ≡ p + 3 = omega arith in
      let to_high = word_high (at s (p + 2)) (at s (p + 2 + 1)) (bytes (p + 2)) ∙ ap (at s) to_next in
      let from_low = word_low (at s (p + 4)) (at s (p + 4 + 1)) (bytes (p + 4)) in
      let from_next : p + 4 + 1 ≡ p + 5 = omega arith in
      let from_high = word_high (at s (p + 4)) (at s (p + 4 + 1)) (bytes (p + 4)) ∙ ap (at s) from_next in
      let count : 2 + length (part s (p + 10) (len s p - 2)) ≡ at s (p + 6) = omega (arith, payload_length s p t, t.least) in
      let marker = t.stx in
      let same : head (frame_at s p) ≡ listed s p 0 10 = cc in
      same ∙ sym (part_listed s p 0 10 (omega (arith, t.whole))) ∙ ap (λ (i : ℕ). part s i 10) (add-zero p)

  covered_back : covered (frame_at s p) ≡ part s p (9 + len s p)
  unfolding covered listed
  covered_back =
      let n : ℕ = len s p in
      let count : 9 + len s p ≡ 10 + (len s p - 2 + 1) = omega (arith, t.least) in
      let last : p + 10 + (len s p - 2) ≡ p + (8 + len s p) = omega (arith, t.least) in
      let etx : part s (p + (8 + len s p)) 1 ≡ 0x03 ∷ [] = part_listed s p (8 + len s p) 1 (omega (arith, t.whole)) ∙ ap (λ (x : ℕ). x ∷ []) t.etx in
      ap (λ (l : List ℕ). l ++ (part s (p + 10) (len s p - 2) ++ 0x03 ∷ [])) head_back
      ∙ sym (ap (part s p) count ∙ part_more s p 10 (len s p - 2 + 1)
      ∙ ap (λ (l : List ℕ). part s p 10 ++ l) (part_more s (p + 10) (len s p - 2) 1
      ∙ ap (λ (l : List ℕ). part s (p + 10) (len s p - 2) ++ l) (ap (λ (i : ℕ). part s i 1) last ∙ etx)))

  tail_back : low_first (crc (covered (frame_at s p))) (0x04 ∷ []) ≡ part s (p + (9 + len s p)) 3
  unfolding listed
  tail_back =
      let i : ℕ = p + (9 + len s p) in
      let sum : crc (covered (frame_at s p)) ≡ word s (p + (9 + len s p)) = ap crc covered_back ∙ sym t.checked in
      let last : i + 2 ≡ p + (11 + len s p) = omega arith in
      let eot : at s (i + 2) ≡ 0x04 = ap (at s) last ∙ t.eot in
      let three : part s (i + 0) 3 ≡ at s (i + 0) ∷ at s (i + 1) ∷ at s (i + 2) ∷ [] = part_listed s i 0 3 (omega (arith, t.whole)) in
      ap (λ (x : ℕ). low_first x (0x04 ∷ [])) sum ∙ word_back s i (i + 1) (0x04 ∷ []) bytes refl
      ∙ ap (λ (x : ℕ). at s i ∷ at s (i + 1) ∷ x ∷ []) (sym eot) ∙ sym (rw add-zero at three)

  pub read_back : frame_bytes (frame_at s p) ≡ part s p (12 + len s p)
  unfolding frame_bytes
  read_back =
      let count : 12 + len s p ≡ 9 + len s p + 3 = omega arith in
      ap (λ (l : List ℕ). l ++ low_first (crc (covered (frame_at s p))) (0x04 ∷ [])) covered_back
      ∙ ap (λ (l : List ℕ). part s p (9 + len s p) ++ l) tail_back
      ∙ sym (ap (part s p) count ∙ part_more s p (9 + len s p) 3)

-- What the fields of a view over the telegram at p are, and what writing them leaves.
module _ (burst before : List ℕ) (f : Frame) (view : Telegram) (p : ℕ) (seen : Views burst p view) (first : First burst p) (said : f ≡ frame_of (burst_of view) view.start view.len) where
  frame_is : f ≡ frame_at burst p
  frame_is = rw (seen.0, seen.1, seen.2) at said

  payload_is : length f.payload ≡ len burst p - 2
  payload_is = ap (λ (g : Frame). length g.payload) frame_is ∙ payload_length burst p first.0

  pub relayed : (after : List ℕ) (n : ℕ) → ((k : ℕ) → at burst k < 256) → Written f before after n → Relayed burst before after n
  relayed after n bytes w =
      let count : n ≡ 12 + len burst p = omega (arith, w.count, payload_is, first.0.least) in
      let same : frame_bytes f ≡ part burst p n =
      ap frame_bytes frame_is ∙ read_back burst p bytes first.0 ∙ ap (part burst p) (sym count) in
      record {
        position = p;
        first = first;
        count = count;
        bytes = w.bytes ∙ ap (λ (l : List ℕ). l ++ drop n before) same;
      }

  pub not_relayed : (e : WriteRefusal) → Refused f before e → NotRelayed burst before (Unwritten e)
  not_relayed BufferTooShort h = ((p, first), refl, h)
  not_relayed PayloadTooLong h = absurd (omega (arith, h.1, payload_is, first.0.most))
