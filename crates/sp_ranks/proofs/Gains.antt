-- The place of a partition with one node more in the list of the next degree.
use Rattle.std.proofs.Common.{◌≡◌, ℕ, ◌+◌, ◌-◌, ◌<◌, true, List, ◌++◌, ◌∷◌, [], length, get_or, set, inl, inr, arith}
use Rattle.std.proofs.Common.{Contains, subst, sym, ap, ◌∙◌}
use Rattle.std.specs.List.{AllByRecursion}
use Rattle.std.proofs.Math.ListN.{get_or-append}
use Rattle.std.proofs.lemmas.Bool.{cases_eq, cases_lt}
use Rattle.std.proofs.lemmas.List.{get_or_push, get_or-set_same, get_or-set_other}
use Rattle.sp_defs.specs.Node.{is_addable}
use Rattle.sp_defs.specs.Partition.{IsPartition, IsPartitionOf, degree, part, partitions}
use Rattle.sp_defs.specs.Signature.{grow}
use Rattle.sp_lists.proofs.Places.{all_at}
use Rattle.sp_shapes.proofs.Corners.{addable_room}
use Rattle.sp_shapes.proofs.Grow.{degree-grow}
use Rattle.sp_shapes.proofs.Listing.{all_partitions, partitions_contain}

-- A partition with one node more is in the list of the next degree.
pub grown_listed : (next : List (List ℕ)) (p grown : List ℕ) (row : ℕ) → next ≡ partitions (degree p + 1) →
    is_addable p (row, part p row + 1) ≡ true → grown ≡ grow (row - 1) p → IsPartition grown → Contains next grown
grown_listed next p grown row all adds is h =
    subst (λ xs. Contains xs grown) (sym all)
    ((partitions_contain (degree p + 1) grown).1
    (record { partition = h; total = ap degree is ∙ degree-grow p (row - 1) (addable_room p row adds).there }))

-- A partition that stands in the list of a degree is of this degree.
pub listed_degree : (n : ℕ) (all : List (List ℕ)) (k : ℕ) (p : List ℕ) → all ≡ partitions n → k < length all →
    p ≡ get_or all k p → degree p ≡ n
listed_degree n all k p is lt at =
    ap degree at
    ∙ (all_at (IsPartitionOf n) all k p (subst (AllByRecursion (IsPartitionOf n)) (sym is) (all_partitions n)) lt).total

-- What holds of the element of each place before n holds with one element more, of which it holds too.
pub places_more : {X : Type 0} (P : ℕ → X → Type 0) (xs : List X) (x : X) (n : ℕ) → length xs ≡ n →
    ((k : ℕ) (d : X) → k < n → P k (get_or xs k d)) → P n x →
    (k : ℕ) (d : X) → k < n + 1 → P k (get_or (xs ++ x ∷ []) k d)
places_more P xs x n count each here k d lt = elim (cases_lt k n) [
  | inl before ↦ subst (P k) (sym (get_or-append xs (x ∷ []) d k (omega arith))) (each k d before)
  | inr after ↦
      let last : k ≡ n = omega arith in
      subst (λ i. P i (get_or (xs ++ x ∷ []) i d)) (sym last)
      (subst (P n) (sym (get_or_push xs x d n count)) here)
]

-- It holds when the place n is set to one of which it holds.
pub places_set : {X : Type 0} (P : ℕ → X → Type 0) (xs : List X) (x : X) (n : ℕ) → n < length xs →
    ((k : ℕ) (d : X) → k < n → P k (get_or xs k d)) → P n x →
    (k : ℕ) (d : X) → k < n + 1 → P k (get_or (set xs n x) k d)
places_set P xs x n there each here k d lt = elim (cases_eq k n) [
  | inl same ↦
      subst (λ i. P i (get_or (set xs n x) i d)) (sym same)
      (subst (P n) (sym (get_or-set_same xs n x d there)) here)
  | inr other ↦ subst (P k) (sym (get_or-set_other xs n k x d other)) (each k d (omega (arith, other)))
]
