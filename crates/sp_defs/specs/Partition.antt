-- Partitions. A partition is the list of its parts.
use Rattle.std.specs.Prelude.{◌≡◌, ℕ, zero, suc, ◌+◌, ◌-◌, ◌*◌, ◌/◌, ◌<◌, ◌≤◌, Bool, true, cond, nat_le, nat_lt, nat_eq}
use Rattle.std.specs.Prelude.{List, [], ◌∷◌, ◌++◌, map, take, replicate, slice_index, sum, count_by, filter, All}
use Rattle.std.specs.Prelude.{flat_map}
use Rattle.std.specs.List.{AllByRecursion, list_all, range_with_len}
use Rattle.std.specs.Ordering.{nat_cmp, ordering_then}
use Rattle.std.specs.declared.cmp.Ordering.{Ordering}
use Rattle.std.specs.declared.cmp.Ordering.TheVariants.{Less}
use Rattle.std.specs.Cmp.Lexicographic.{slice_cmp}

-- The length of row r. Rows are counted from 1, and past the last row it is 0.
-- (Mathas, Iwahori-Hecke Algebras and Schur Algebras of the Symmetric Group, ch. 3)
abbrev pub part : List ℕ → ℕ → ℕ
part parts r = slice_index parts (r - 1)

-- The parts descend weakly and are positive.
-- (Mathas, Iwahori-Hecke Algebras and Schur Algebras of the Symmetric Group, ch. 3)
pub record IsPartition (parts : List ℕ) : Type 0 where
  pub descending : (k : ℕ) → slice_index parts (k + 1) ≤ slice_index parts k
  pub positive : All (λ p. 0 < p) parts

-- The sum of the parts: the number of nodes.
-- (Mathas, Iwahori-Hecke Algebras and Schur Algebras of the Symmetric Group, ch. 3)
abbrev pub degree : List ℕ → ℕ
degree parts = sum parts

-- The numbers from 1 to n (this project's own).
abbrev pub from_one_to : ℕ → List ℕ
from_one_to n = range_with_len 1 n

-- Part c of the conjugate is the number of parts that are at least c.
-- (Mathas, Iwahori-Hecke Algebras and Schur Algebras of the Symmetric Group, ch. 3)
abbrev pub conjugate : List ℕ → List ℕ
conjugate parts = map (λ c. count_by (λ p. nat_le c p) parts) (from_one_to (part parts 1))

-- Each initial sum of `upper` is at least that of `lower`, for partitions of one degree.
-- (Mathas, Iwahori-Hecke Algebras and Schur Algebras of the Symmetric Group, ch. 3)
pub record Dominates (upper lower : List ℕ) : Type 0 where
  pub one_degree : degree upper ≡ degree lower
  pub sums : (k : ℕ) → sum (take k lower) ≤ sum (take k upper)

-- The lexicographic order compares the first part that differs.
-- (James and Kerber, The Representation Theory of the Symmetric Group, ch. 1)
abbrev pub compare : List ℕ → List ℕ → Ordering
compare = slice_cmp nat_cmp

-- Partitions of any degrees: by degree, then lexicographic (this project's own).
abbrev pub order : List ℕ → List ℕ → Ordering
order first second = ordering_then (nat_cmp (degree first) (degree second)) (compare first second)

-- Strictly before in the lexicographic order.
-- (James and Kerber, The Representation Theory of the Symmetric Group, ch. 1)
abbrev pub IsEarlier : List ℕ → List ℕ → Type 0
IsEarlier first second = compare first second ≡ Less

-- Each partition of the list is earlier than all that follow it (this project's own).
abbrev pub Ascending : List (List ℕ) → Type 0
Ascending [] = Unit {0}
Ascending (first ∷ rest) = AllByRecursion (IsEarlier first) rest × Ascending rest

-- No e of the parts are equal.
-- (Dipper and James, Representations of Hecke algebras of general linear groups, 1986)
abbrev pub is_regular : ℕ → List ℕ → Bool
is_regular e parts = list_all (λ p. nat_lt (count_by (λ q. nat_eq q p) parts) e) parts

-- A partition of n.
-- (Mathas, Iwahori-Hecke Algebras and Schur Algebras of the Symmetric Group, ch. 3)
pub record IsPartitionOf (n : ℕ) (parts : List ℕ) : Type 0 where
  pub partition : IsPartition parts
  pub total : degree parts ≡ n

-- An e-regular partition of n.
-- (Dipper and James, Representations of Hecke algebras of general linear groups, 1986)
pub record IsRegularOf (e n : ℕ) (parts : List ℕ) : Type 0 where
  pub partition : IsPartition parts
  pub total : degree parts ≡ n
  pub regular : is_regular e parts ≡ true

-- The partitions of n whose parts are at most m, ascending: those with no part m, then with one, and so on.
-- (this project's own)
unfoldable pub partitions_within : ℕ → ℕ → List (List ℕ)
partitions_within zero n = cond (nat_eq n 0) ([] ∷ []) []
partitions_within (suc m) n =
    flat_map (λ k. map (λ rest. replicate k (suc m) ++ rest) (partitions_within m (n - k * suc m)))
    (range_with_len 0 (n / suc m + 1))

-- All partitions of n, ascending (this project's own).
unfoldable pub partitions : ℕ → List (List ℕ)
partitions n = partitions_within n n

-- The e-regular partitions of n, ascending (this project's own).
unfoldable pub regulars : ℕ → ℕ → List (List ℕ)
regulars e n = filter (is_regular e) (partitions n)
