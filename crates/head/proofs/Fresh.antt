-- A table of new records. Assumes nothing.
use Rattle.std.proofs.Common.{◌≡◌, ℕ, zero, suc, get_or, replicate, refl}
use Rattle.head.specs.State.{fresh}

pub all_fresh : (n k : ℕ) → get_or (replicate n fresh) k fresh ≡ fresh
all_fresh zero k = refl
all_fresh (suc n) zero = refl
all_fresh (suc n) (suc k) = all_fresh n k
