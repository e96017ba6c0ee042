-- A vector with a multiple of a second one added.
use Rattle.std.specs.Prelude.{ℕ, ◌+◌, ◌*◌, map}
use Rattle.sp_defs.specs.Partition.{partitions}
use Rattle.sp_defs.specs.Laurent.{Laurent, plus, times, size}
use Rattle.sp_defs.specs.Power.{Vector, FockVector, fock_vector, vector_of, greatest}

-- v with a times w added.
abbrev pub plus_scaled : Vector → Laurent → Vector → Vector
plus_scaled v a w lambda = plus (v lambda) (times a (w lambda))

-- The greatest sum of the sizes that occur where a times w is added to v: past the limit the sum is too large.
abbrev pub addition_weight : ℕ → Vector → Laurent → Vector → ℕ
addition_weight n v a w = greatest (map (λ lambda. size (v lambda) + size a * size (w lambda)) (partitions n))

-- ---- of finite maps

abbrev pub scaled_sum : FockVector → Laurent → FockVector → FockVector
scaled_sum v a w = fock_vector v.degree (plus_scaled (vector_of v.entries) a (vector_of w.entries))

abbrev pub scaled_sum_weight : FockVector → Laurent → FockVector → ℕ
scaled_sum_weight v a w = addition_weight v.degree (vector_of v.entries) a (vector_of w.entries)
