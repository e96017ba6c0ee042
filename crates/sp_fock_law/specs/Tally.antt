-- A vector with a total for each partition: what was ever added up there, by sizes.
use Rattle.std.specs.Prelude.{ℕ, ◌+◌, ◌*◌, ◌<◌, ◌≤◌, ◌^◌, zero, suc, cond, nat_lt, pos, List, []}
use Rattle.std.specs.Prelude.{◌∷◌, map, filter}
use Rattle.std.specs.List.{AllByRecursion}
use Rattle.std.specs.Ordering.{is_eq}
use Rattle.sp_defs.specs.Partition.{compare, partitions, Ascending, IsPartitionOf}
use Rattle.sp_defs.specs.Laurent.{Laurent, negate, size}
use Rattle.sp_defs.specs.Power.{Entries, FockVector, vector_of, greatest}
use Rattle.sp_fock_law.specs.Addition.{scaled_sum}

-- A finite map from partitions to numbers, as the list of its totals (this project's own).
abbrev pub Totals : Type 0
Totals = List (List ℕ × ℕ)

-- The total at a partition, which is 0 where there is none (this project's own).
unfoldable pub total_of : Totals → List ℕ → ℕ
total_of [] lambda = 0
total_of ((kappa, total) ∷ others) lambda = cond (is_eq (compare kappa lambda)) total (total_of others lambda)

-- The totals of degree n as a finite map: the partitions at which they aren't 0, ascending (this project's own).
abbrev pub totals : ℕ → (List ℕ → ℕ) → Totals
totals n total = filter (λ t. nat_lt 0 t.1) (map (λ parts. (parts, total parts)) (partitions n))

-- What the totals of degree n are: partitions of n, ascending, each with a number that isn't 0 (this project's own).
pub record IsTotals (n : ℕ) (ts : Totals) : Type 0 where
  pub partitions_of : AllByRecursion (λ t. IsPartitionOf n t.0) ts
  pub ascending : Ascending (map (λ t. t.0) ts)
  pub positive : AllByRecursion (λ t. 0 < t.1) ts

-- A number as a polynomial: the constant (this project's own).
unfoldable pub constant : ℕ → Laurent
constant zero = []
constant (suc k) = (pos 0, pos (suc k)) ∷ []

-- Totals as the entries of a vector (this project's own).
abbrev pub constants : Totals → Entries
constants ts = map (λ t. (t.0, constant t.1)) ts

-- A vector and its totals, as finite maps (this project's own).
pub record TallyValue : Type 0 where
  pub vector : FockVector
  pub totals : Totals

-- A vector with totals that are at least the sizes of its polynomials (this project's own).
pub record IsTally (t : TallyValue) : Type 0 where
  pub totals : IsTotals t.vector.degree t.totals
  pub small : AllByRecursion (λ total. total.1 < 2 ^ 127) t.totals
  pub covers : (lambda : List ℕ) → IsPartitionOf t.vector.degree lambda
      → size (vector_of t.vector.entries lambda) ≤ total_of t.totals lambda

-- A vector whose totals are the sizes of its polynomials (this project's own).
abbrev pub tally_of : FockVector → TallyValue
tally_of v = record { vector = v; totals = totals v.degree (λ lambda. size (vector_of v.entries lambda)) }

-- The total at a partition when a times w is subtracted: it grows by the product of the sizes (this project's own).
abbrev pub grown_total : TallyValue → Laurent → FockVector → List ℕ → ℕ
grown_total t a w lambda = total_of t.totals lambda + size a * size (vector_of w.entries lambda)

-- What is left when a times w is subtracted, with the totals grown (this project's own).
abbrev pub subtracted : TallyValue → Laurent → FockVector → TallyValue
subtracted t a w =
    record { vector = scaled_sum t.vector (negate a) w; totals = totals t.vector.degree (grown_total t a w) }

-- The greatest total when a times w is subtracted: past the limit it is too large (this project's own).
abbrev pub subtraction_weight : TallyValue → Laurent → FockVector → ℕ
subtraction_weight t a w = greatest (map (grown_total t a w) (partitions t.vector.degree))
