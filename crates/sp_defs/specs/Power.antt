-- Divided powers. A vector gives each partition a Laurent polynomial.
-- Lascoux, Leclerc and Thibon, 1996: Hecke algebras at roots of unity and crystal bases of quantum affine algebras.
use Rattle.std.specs.Prelude.{◌≢◌, ℕ, ◌+◌, ◌-◌, Bool, cond, ◌&&◌, not, nat_lt, nat_eq, List, [], ◌∷◌, map, length}
use Rattle.std.specs.Prelude.{count_by, filter, sum_by, max, fold, ℤ, pos, ◌-ℤ◌}
use Rattle.std.specs.List.{AllByRecursion, list_all}
use Rattle.std.specs.Ordering.{is_eq}
use Rattle.sp_defs.specs.Partition.{degree, partitions, compare, Ascending, IsPartitionOf}
use Rattle.sp_defs.specs.Node.{Node, nodes, in_diagram, residue, addable, removable}
use Rattle.sp_defs.specs.Laurent.{one, Laurent, IsLaurent, int_sum, power, times, sum_over, size}

-- A vector of Fock space gives each partition a Laurent polynomial.
-- (Lascoux, Leclerc and Thibon, Comm. Math. Phys. 181, 1996, section 4)
abbrev pub Vector : Type 0
Vector = List ℕ → Laurent

-- A finite map from partitions to polynomials, as the list of its entries (this project's own).
abbrev pub Entries : Type 0
Entries = List (List ℕ × Laurent)

-- The vector with these entries: 0 where there is none (this project's own).
unfoldable pub vector_of : Entries → Vector
vector_of [] lambda = []
vector_of ((kappa, p) ∷ others) lambda = cond (is_eq (compare kappa lambda)) p (vector_of others lambda)

-- The greatest of these numbers, or 0 (this project's own).
abbrev pub greatest : List ℕ → ℕ
greatest xs = fold max 0 xs

-- The nodes of `after` that `before` lacks.
-- (Lascoux, Leclerc and Thibon, Comm. Math. Phys. 181, 1996, section 4)
abbrev pub added : List ℕ → List ℕ → List Node
added before after = filter (λ x. not (in_diagram before x)) (nodes after)

-- `after` has m more nodes than `before`, all of residue i.
-- (Lascoux, Leclerc and Thibon, Comm. Math. Phys. 181, 1996, section 4)
unfoldable pub is_move : ℕ → ℕ → ℕ → List ℕ → List ℕ → Bool
is_move e i m before after =
    list_all (in_diagram after) (nodes before) &&
    (nat_eq (length (added before after)) m && list_all (λ x. nat_eq (residue e x) i) (added before after))

-- How many i-nodes of the list stand above the row r.
-- (Lascoux, Leclerc and Thibon, Comm. Math. Phys. 181, 1996, section 4)
abbrev pub above : ℕ → ℕ → ℕ → List Node → ℕ
above e i r xs = count_by (λ x. nat_eq (residue e x) i && nat_lt x.0 r) xs

-- Over each added node, the addable i-nodes of `after` above it minus the removable i-nodes of `before` above it.
-- (Lascoux, Leclerc and Thibon, Comm. Math. Phys. 181, 1996, section 4)
unfoldable pub exponent : ℕ → ℕ → List ℕ → List ℕ → ℤ
exponent e i before after =
    int_sum
    (map (λ x. pos (above e i x.0 (addable after)) -ℤ pos (above e i x.0 (removable before))) (added before after))

-- The partitions from which m nodes of residue i lead to `after`.
-- (Lascoux, Leclerc and Thibon, Comm. Math. Phys. 181, 1996, section 4)
unfoldable pub sources : ℕ → ℕ → ℕ → List ℕ → List (List ℕ)
sources e i m after = filter (λ before. is_move e i m before after) (partitions (degree after - m))

-- The m-th divided power of f_i on a vector, at `after`.
-- (Lascoux, Leclerc and Thibon, Comm. Math. Phys. 181, 1996, section 4)
unfoldable pub divided_power : ℕ → ℕ → ℕ → Vector → Vector
divided_power e i m w after =
    sum_over (sources e i m after) (λ before. times (power (exponent e i before after)) (w before))

-- The sum of the sizes at all partitions that reach `after` (this project's own).
abbrev pub reaching_size : ℕ → ℕ → ℕ → Vector → List ℕ → ℕ
reaching_size e i m w after = sum_by (λ before. size (w before)) (sources e i m after)

-- The greatest such sum, for a vector of degree n: past the limit the induction is too large (this project's own).
abbrev pub induction_weight : ℕ → ℕ → ℕ → ℕ → Vector → ℕ
induction_weight e i m n w = greatest (map (reaching_size e i m w) (partitions (n + m)))

-- The vector with 1 at one partition.
-- (Lascoux, Leclerc and Thibon, Comm. Math. Phys. 181, 1996, section 4)
abbrev pub unit : List ℕ → Vector
unit kappa lambda = cond (is_eq (compare kappa lambda)) one []

-- The vector of degree n as a finite map: the partitions at which it isn't 0, ascending, each with its polynomial.
-- (this project's own)
abbrev pub entries : ℕ → Vector → Entries
entries n w = filter (λ t. nat_lt 0 (length t.1)) (map (λ parts. (parts, w parts)) (partitions n))

-- What the entries of a vector of degree n are: partitions of n, ascending, each with a polynomial that isn't 0.
-- (this project's own)
pub record IsVector (n : ℕ) (es : Entries) : Type 0 where
  pub partitions_of : AllByRecursion (λ t. IsPartitionOf n t.0) es
  pub ascending : Ascending (map (λ t. t.0) es)
  pub polynomials : AllByRecursion (λ t. IsLaurent t.1 × (t.1 ≢ [])) es

-- A vector with its degree, as a finite map (this project's own).
pub record FockVector : Type 0 where
  pub degree : ℕ
  pub entries : Entries

-- The vector of degree n with its degree, as a finite map (this project's own).
abbrev pub fock_vector : ℕ → Vector → FockVector
fock_vector n w = record { degree = n; entries = entries n w }
