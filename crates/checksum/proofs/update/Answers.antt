-- The table is the list of what each index brings in within eight shifts: one test, which antt computes.
use Rattle.std.proofs.Common.{◌≡◌, ℕ, ◌/◌, ◌%◌, ◌<◌, map, get_or, ap, ◌∙◌, arith, rules}
use lib.Bits.{bit_xor, bit_and, and_mask}
use Rattle.std.specs.List.{range_with_len}
use Rattle.std.proofs.lemmas.Nat.{mod_below}
use Rattle.std.proofs.lemmas.List.FromFn.{get_or-map-range_with_len}
use Rattle.checksum.specs.Crc.{shifted, updated}
use Rattle.checksum.proofs.Shifts.{shifts, byte_at_once}
use Rattle.checksum.proofs.update.Goals as goal

by_table : (c b : ℕ) → b < 256 → bit_xor (c / 256) (get_or (map (shifts 8) (range_with_len 0 256)) (bit_and (bit_xor c b) 255) 0) ≡ updated c b
by_table c b h =
    let low : ℕ = bit_xor c b % 256 in
    ap (λ (i : ℕ). bit_xor (c / 256) (get_or (map (shifts 8) (range_with_len 0 256)) i 0)) (and_mask (bit_xor c b) 8)
    ∙ ap (bit_xor (c / 256)) (get_or-map-range_with_len (shifts 8) 0 256 low low 0 (mod_below (bit_xor c b) 256 (omega arith)) (omega arith))
    ∙ byte_at_once c b h

pub returns : goal.returns
unfolding shifts shifted
returns c = rw (c.from-2.ensures, c.from.ensures) (by_table c.args.crc c.args.byte (search rules))
