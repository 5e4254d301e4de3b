-- The worked cases on statistics: each is computed. Assumes nothing.
use Rattle.std.proofs.Common.{refl}
use Rattle.worked.specs.Cases as spec

pub statistics : spec.Statistics
statistics = record { mean = refl; sum = refl; sum_bytes = refl; overflow = refl }
