-- A number and its bytes, low byte first, over the count of bytes. Assumes nothing.
use Rattle.std.proofs.Common.{◌≡◌, ℕ, zero, suc, ◌+◌, ◌*◌, ◌/◌, ◌%◌, ◌^◌, ◌<◌, ◌≤◌, List, [], ◌∷◌, ◌++◌, length, get_or, drop, replicate, refl, ap, ◌∙◌, pow-suc, arith, length-append, length-drop, w8, w64, Fits}
use Rattle.std.specs.Int.{from_le_bytes}
use Rattle.std.proofs.lemmas.List.{drop_all}
use borrow.Rule.Slice.PartMut.{put_mid}
use Rattle.readings.specs.Bytes.{little_endian, weighed}

byte_of : (b w : ℕ) → b < 256 → (b + 256 * w) % 256 ≡ b
byte_of b w h = omega arith

rest_of : (b w : ℕ) → b < 256 → (b + 256 * w) / 256 ≡ w
rest_of b w h = omega arith

pub little_endian-weighed : (bs : List ℕ) → ((i : ℕ) → Fits w8 (get_or bs i 0)) → little_endian (length bs) (weighed bs) ≡ bs
little_endian-weighed [] h = refl
little_endian-weighed (b ∷ bs) h =
    let e = byte_of b (weighed bs) (h 0).fits in
    let d = rest_of b (weighed bs) (h 0).fits in
    simp (e, d, little_endian-weighed bs (λ i. h (suc i)))

pub weighed_lt : (bs : List ℕ) → ((i : ℕ) → Fits w8 (get_or bs i 0)) → weighed bs < 256 ^ length bs
weighed_lt [] h = omega arith
weighed_lt (b ∷ bs) h =
    let p : b < 256 = (h 0).fits in
    let l = weighed_lt bs (λ i. h (suc i)) in
    rw pow-suc (omega arith)

weighed_from : (i : ℕ) (bs : List ℕ) → weighed (drop i bs) ≡ get_or bs i 0 + 256 * weighed (drop (suc i) bs)
weighed_from zero [] = refl
weighed_from (suc i) [] = refl
weighed_from zero (b ∷ bs) = refl
weighed_from (suc i) (b ∷ bs) = weighed_from i bs

eight_weighed : (bs : List ℕ) → weighed (drop 8 bs) ≡ 0 → from_le_bytes w64 bs ≡ weighed bs
eight_weighed bs h =
    let a = weighed_from 0 bs in
    let b = weighed_from 1 bs in
    let c = weighed_from 2 bs in
    let d = weighed_from 3 bs in
    let e = weighed_from 4 bs in
    let f = weighed_from 5 bs in
    let g = weighed_from 6 bs in
    let i = weighed_from 7 bs in omega arith

weighed-append : (bs zs : List ℕ) → weighed zs ≡ 0 → weighed (bs ++ zs) ≡ weighed bs
weighed-append [] zs h = h
weighed-append (b ∷ bs) zs h = ap (λ (n : ℕ). b + 256 * n) (weighed-append bs zs h)

weighed_zeros : (k n : ℕ) → weighed (drop k (replicate n 0)) ≡ 0
weighed_zeros zero zero = refl
weighed_zeros zero (suc n) = let e = weighed_zeros zero n in omega arith
weighed_zeros (suc k) zero = refl
weighed_zeros (suc k) (suc n) = weighed_zeros k n

-- bytes copied to the front of eight zeros weigh as much as by themselves
pub padded_weighed : (bs ys : List ℕ) → length bs ≤ 8 → ys ≡ bs → from_le_bytes w64 (put_mid 0 (length bs) (replicate 8 0) ys) ≡ weighed bs
padded_weighed bs ys h e =
    let zs = drop (length bs) (replicate 8 0) in
    let len : length (bs ++ zs) ≡ 8 = simp (length-append, length-drop) (omega arith) in
    let end : weighed (drop 8 (bs ++ zs)) ≡ 0 = ap weighed (drop_all 8 (bs ++ zs) (omega arith)) in
    simp e (eight_weighed (bs ++ zs) end ∙ weighed-append bs zs (weighed_zeros (length bs) 8))
