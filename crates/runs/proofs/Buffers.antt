-- Replies at the front of a buffer. Assumes nothing.
use Rattle.std.proofs.Common.{◌≡◌, ℕ, ◌≤◌, List, ◌++◌, length, take, drop, sym, ap, ◌∙◌, append_assoc, arith, length-append}
use Rattle.std.proofs.lemmas.List.{take_at, take-append-drop, drop-append-le}

-- The reply buffer is the front of the bytes that are lent. A reply that was written at its front, and is taken from there,
-- lies at the front of them.
pub over_front : (frame whole after bytes : List ℕ) (n count : ℕ) → count ≡ length frame → after ≡ frame ++ drop count (take n whole) → bytes ≡ take count after → length after ≡ length (take n whole)
    → after ++ drop n whole ≡ bytes ++ drop (length bytes) whole
over_front frame whole after bytes n count long written taken kept =
    let same : bytes ≡ frame = taken ∙ ap (take count) written ∙ take_at frame (drop count (take n whole)) count (sym long) in
    let short : count ≤ length (take n whole) = omega (arith, ap length written, length-append frame (drop count (take n whole))) in
    let rest : drop count (take n whole) ++ drop n whole ≡ drop count whole = sym (drop-append-le count (take n whole) (drop n whole) short) ∙ ap (drop count) (take-append-drop n whole) in
    cc (append_assoc frame (drop count (take n whole)) (drop n whole))
