-- Shifts of the register, any number of them at once. Nothing here knows how many constants stand in the program.
-- Assumes nothing.
use Rattle.std.proofs.Common.{◌≡◌, ℕ, zero, suc, ◌*◌, ◌/◌, ◌%◌, ◌^◌, ◌<◌, sym, ap, ◌∙◌, mod-lt, div-one, add-one, one-add, arith, pow_pos}
use native.Mathlib.Nat.{mod-mod, mod-one, div-eq_of_lt}
use lib.Bits.{bit_xor, xor_shr, xor_mod, xor_assoc, xor_comm, xor_zero_l, xor_zero_r}
use lib.Pow.{field, mod-mod-pow}
use Rattle.std.proofs.lemmas.Nat.{shr-shr, shr_below, mod_below}
use Rattle.checksum.specs.Crc.{shifted, bit_in, bits_in, updated}

-- n shifts of the register
unfoldable pub shifts : ℕ → ℕ → ℕ
shifts zero c = c
shifts (suc n) c = shifts n (shifted c)

-- the n + 1 lowest bits, without the lowest, and the lowest of them
half : (n c : ℕ) → c % 2 ^ suc n / 2 ≡ c / 2 % 2 ^ n
half n c = simp add-one at (field c n 1)

odd : (n c : ℕ) → c % 2 ^ suc n % 2 ≡ c % 2
odd n c = simp add-one at (mod-mod-pow c n 1)

-- the bits above the n lowest come down by a shift, beside what the lowest bit brings in
shifted_high : (n c : ℕ) → shifted c / 2 ^ n ≡ bit_xor (c / 2 ^ suc n) (c % 2 * 0x8408 / 2 ^ n)
unfolding shifted
shifted_high n c = xor_shr (c / 2) (c % 2 * 0x8408) n ∙ simp (shr-shr c 1 n, one-add)

-- a shift of the n + 1 lowest bits alone: its n lowest bits are those of a shift of all,
shifted_low : (n c : ℕ) → shifted (c % 2 ^ suc n) % 2 ^ n ≡ shifted c % 2 ^ n
unfolding shifted
shifted_low n c = simp (half, odd, xor_mod, mod-mod)

-- and the bits above are just what the lowest bit brings in
shifted_over : (n c : ℕ) → shifted (c % 2 ^ suc n) / 2 ^ n ≡ c % 2 * 0x8408 / 2 ^ n
unfolding shifted
shifted_over n c =
    let none : c / 2 % 2 ^ n / 2 ^ n ≡ 0 = div-eq_of_lt (mod-lt (c / 2) (pow_pos n)) in
    simp (half, odd, xor_shr, none, xor_zero_l)

-- n shifts move the bits above the n lowest down, and what the n lowest bring in does not depend on the others
pub shifts_split : (n c : ℕ) → shifts n c ≡ bit_xor (c / 2 ^ n) (shifts n (c % 2 ^ n))
unfolding shifts
shifts_split zero c = sym (simp (div-one, mod-one, xor_zero_r))
shifts_split (suc n) c =
    let all = shifts_split n (shifted c) in
    let part = shifts_split n (shifted (c % 2 ^ suc n)) in
    all ∙ ap (λ (x : ℕ). bit_xor x (shifts n (shifted c % 2 ^ n))) (shifted_high n c)
    ∙ xor_assoc (c / 2 ^ suc n) (c % 2 * 0x8408 / 2 ^ n) (shifts n (shifted c % 2 ^ n))
    ∙ ap (bit_xor (c / 2 ^ suc n)) (sym (part ∙ simp (shifted_low n c, shifted_over n c)))

-- a bit that enters is a bit of the register that falls out
bit_apart : (c b : ℕ) → bit_xor (shifted (bit_xor c (b % 2))) (b / 2) ≡ shifted (bit_xor c b)
unfolding shifted
bit_apart c b =
    let none : b % 2 / 2 ≡ 0 = div-eq_of_lt (mod_below b 2 (omega arith)) in
    let high : bit_xor c (b % 2) / 2 ≡ c / 2 = xor_shr c (b % 2) 1 ∙ ap (bit_xor (c / 2)) none ∙ xor_zero_r (c / 2) in
    let low : bit_xor c (b % 2) % 2 ≡ bit_xor c b % 2 =
    xor_mod c (b % 2) 1 ∙ ap (bit_xor (c % 2)) (mod-mod b 2) ∙ sym (xor_mod c b 1) in
    let brought : ℕ = bit_xor c b % 2 * 0x8408 in
    simp (high, low, xor_shr c b 1)
    (xor_assoc (c / 2) brought (b / 2) ∙ ap (bit_xor (c / 2)) (xor_comm brought (b / 2))
    ∙ sym (xor_assoc (c / 2) (b / 2) brought))

-- n bits of a message enter one after the other as they do all at once
pub bits_at_once : (n c b : ℕ) → b < 2 ^ n → bits_in n c b ≡ shifts n (bit_xor c b)
unfolding bits_in bit_in shifts
bits_at_once zero c b h = let none : b ≡ 0 = omega arith in sym (rw none (xor_zero_r c))
bits_at_once (suc n) c b h =
    let less : b / 2 < 2 ^ n = shr_below b n 1 (rw add-one h) in
    bits_at_once n (shifted (bit_xor c (b % 2))) (b / 2) less ∙ ap (shifts n) (bit_apart c b)

-- a byte at once, from what the eight lowest bits bring in
pub byte_at_once : (c b : ℕ) → b < 256 → bit_xor (c / 256) (shifts 8 (bit_xor c b % 256)) ≡ updated c b
unfolding updated
byte_at_once c b h =
    let none : b / 256 ≡ 0 = div-eq_of_lt h in
    let high : bit_xor c b / 256 ≡ c / 256 = xor_shr c b 8 ∙ ap (bit_xor (c / 256)) none ∙ xor_zero_r (c / 256) in
    sym (bits_at_once 8 c b h ∙ shifts_split 8 (bit_xor c b)
    ∙ ap (λ (x : ℕ). bit_xor x (shifts 8 (bit_xor c b % 256))) high)
