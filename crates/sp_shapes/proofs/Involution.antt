-- The conjugate of the conjugate is the partition itself.
use Rattle.std.proofs.Common.{◌≡◌, ℕ, zero, suc, ◌+◌, ◌-◌, ◌<◌, ◌≤◌, min, List, [], ◌∷◌, map, length}
use Rattle.std.proofs.Common.{slice_index, refl, sym, ◌∙◌, subst, arith, ◌⊎◌, inl, inr}
use Rattle.std.proofs.lemmas.List.FromFn.{sum_by-map-range_with_len_more}
use Rattle.std.proofs.lemmas.List.Sums.{sum_by-cons}
use Rattle.sp_defs.specs.Partition.{part, IsPartition, conjugate, from_one_to}
use Rattle.sp_lists.proofs.Elements.{le_or_lt}
use Rattle.sp_shapes.proofs.Columns.{column, column_reaches, first_longest}
use Rattle.sp_shapes.proofs.Diagram.{IsPartition-tail, same_rows}
use Rattle.sp_shapes.proofs.Conjugates.{reaches, reaches_yes, reaches_no, conjugate_at, length-conjugate, past_end}
use Rattle.sp_shapes.proofs.Conjugates.{conjugate_partition}

-- A column has no node below the rows that are long enough.
column_stops : (parts : List ℕ) (k c : ℕ) → IsPartition parts → slice_index parts k < c → column parts c ≤ k
column_stops [] k c h lt = omega arith
column_stops (p ∷ parts) zero c h lt =
    let rest : column parts c ≤ 0 = column_stops parts 0 c (IsPartition-tail p parts h)
    (let falls = h.descending 0 in omega arith) in
    omega (arith, sum_by-cons (reaches c) p parts, reaches_no c p lt, rest)
column_stops (p ∷ parts) (suc k) c h lt =
    omega (
      arith,
      sum_by-cons (reaches c) p parts,
      reaches_one c p,
      column_stops parts k c (IsPartition-tail p parts h) lt,
    )
  where
    reaches_one : (c p : ℕ) → reaches c p ≤ 1
    reaches_one c p = at (le_or_lt c p)
      where
        at : (c ≤ p) ⊎ (p < c) → reaches c p ≤ 1
        at (inl le) = omega (arith, reaches_yes c p le)
        at (inr gt) = omega (arith, reaches_no c p gt)

-- Of the first w columns so many are at least r, where those are the first m.
columns_reach : (f : ℕ → ℕ) (r m w : ℕ) → ((c : ℕ) → 1 ≤ c → c ≤ m → r ≤ f c) → ((c : ℕ) → m < c → f c < r) →
    column (map f (from_one_to w)) r ≡ min m w
columns_reach f r m zero reached missed = omega arith
columns_reach f r m (suc w) reached missed =
    subst (λ n. column (map f (from_one_to n)) r ≡ min m n) (plus_one w) (omega (
      arith,
      sum_by-map-range_with_len_more (reaches r) f 1 w (w + 1) (omega arith),
      columns_reach f r m w reached missed,
      last (le_or_lt (w + 1) m),
    ))
  where
    plus_one : (w : ℕ) → w + 1 ≡ suc w
    plus_one w = omega arith

    last : (w + 1 ≤ m) ⊎ (m < w + 1) → min m w + reaches r (f (w + 1)) ≡ min m (w + 1)
    last (inl le) = omega (arith, reaches_yes r (f (w + 1)) (reached (w + 1) (omega arith) le))
    last (inr gt) = omega (arith, reaches_no r (f (w + 1)) (missed (w + 1) gt))

-- Row k + 1 has so many nodes as there are columns with more than k.
row_again : (parts : List ℕ) (k : ℕ) → IsPartition parts → column (conjugate parts) (k + 1) ≡ slice_index parts k
row_again parts k h =
    omega (
      arith,
      columns_reach (column parts) (k + 1) (slice_index parts k) (part parts 1)
          (λ c lo hi. column_reaches parts (k + 1) c h (omega arith) lo
          (subst (λ n. c ≤ slice_index parts n) (back k) hi))
          (λ c gt. let few : column parts c ≤ k = column_stops parts k c h gt in omega arith),
      subst (λ n. slice_index parts n ≤ part parts 1) (sym (back k)) (first_longest parts (k + 1) h),
    )
  where
    back : (k : ℕ) → k ≡ k + 1 - 1
    back k = omega arith

-- There are as many rows as the first column has nodes.
first_column : (parts : List ℕ) → IsPartition parts → column parts 1 ≡ length parts
first_column [] h = refl
first_column (p ∷ parts) h =
    omega (
      arith,
      sum_by-cons (reaches 1) p parts,
      reaches_yes 1 p (h.positive 0 0 (omega arith)),
      first_column parts (IsPartition-tail p parts h),
    )

first_of_conjugate : (parts : List ℕ) → IsPartition parts → part (conjugate parts) 1 ≡ length parts
first_of_conjugate parts h = at (le_or_lt (part parts 1) 0)
  where
    none : (parts : List ℕ) → IsPartition parts → part parts 1 ≤ 0 → length parts ≡ 0
    none [] h le = refl
    none (p ∷ parts) h le = let positive = h.positive 0 0 (omega arith) in absurd (omega arith)

    at : (part parts 1 ≤ 0) ⊎ (0 < part parts 1) → part (conjugate parts) 1 ≡ length parts
    at (inl le) =
        past_end (conjugate parts) 0 (omega (arith, length-conjugate parts)) ∙ sym (none parts h le)
    at (inr gt) = conjugate_at parts 0 0 gt ∙ first_column parts h

-- the conjugate of the conjugate of a partition is the partition
pub conjugate_twice : (parts : List ℕ) → IsPartition parts → conjugate (conjugate parts) ≡ parts
conjugate_twice parts h =
    same_rows (conjugate (conjugate parts)) parts
    (conjugate_partition (conjugate parts) (conjugate_partition parts h)) h
    (λ k. row k (le_or_lt (length parts) k))
  where
    row : (k : ℕ) → (length parts ≤ k) ⊎ (k < length parts) →
        slice_index (conjugate (conjugate parts)) k ≡ slice_index parts k
    row k (inl past) =
        past_end (conjugate (conjugate parts)) k
        (omega (arith, length-conjugate (conjugate parts), first_of_conjugate parts h))
        ∙ sym (past_end parts k past)
    row k (inr within) =
        conjugate_at (conjugate parts) k 0 (omega (arith, first_of_conjugate parts h)) ∙ row_again parts k h
