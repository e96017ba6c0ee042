-- One node less at the end of a row.
use Rattle.std.proofs.Common.{◌≡◌, ◌≢◌, ℕ, zero, suc, ◌+◌, ◌-◌, ◌<◌, ◌≤◌, Bool, true, false, cond, nat_eq, nat_le}
use Rattle.std.proofs.Common.{List, [], ◌∷◌, length, refl, ap, subst, arith, slice_index, ◌⊎◌, inl, inr}
use Rattle.std.proofs.Common.{leb-true, leb-false}
use Rattle.std.proofs.lemmas.Bool.Decides.{nat_tests}
use Rattle.std.proofs.lemmas.List.Sums.{sum_by-cons}
use Rattle.sp_defs.specs.Partition.{degree, IsPartition}
use Rattle.sp_defs.specs.Signature.{shrink}
use Rattle.sp_lists.proofs.Elements.{le_or_lt}
use Rattle.sp_shapes.proofs.Diagram.{IsPartition-tail, IsPartition-head}
use Rattle.sp_shapes.proofs.Listing.{IsPartition-cons}
use Rattle.sp_shapes.proofs.Regular.{index_short}

-- the part at place k is greater than the next
abbrev pub Corner : List ℕ → ℕ → Type 0
Corner xs k = slice_index xs (k + 1) < slice_index xs k

-- so is the part at the place before, without the first
pub corner-tail : (x : ℕ) (xs : List ℕ) (k : ℕ) → Corner (x ∷ xs) (suc k) → Corner xs k
corner-tail x xs k h = subst (λ n. slice_index (x ∷ xs) n < slice_index xs k) (moved k) h
  where
    moved : (k : ℕ) → suc k + 1 ≡ suc (k + 1)
    moved k = omega arith

-- the other rows stay
pub shrink_other : (xs : List ℕ) (k j : ℕ) → IsPartition xs → Corner xs k → j ≢ k →
    slice_index (shrink k xs) j ≡ slice_index xs j
unfolding shrink
shrink_other [] k j h c ne = refl
shrink_other (x ∷ xs) zero zero h c ne = absurd (ne refl)
shrink_other (x ∷ xs) zero (suc j) h c ne = settle (nat_le x 1) refl
  where
    settle : (b : Bool) → nat_le x 1 ≡ b → slice_index (cond b xs ((x - 1) ∷ xs)) (suc j) ≡ slice_index xs j
    settle false e = refl
    settle true e = empty xs (IsPartition-tail x xs h)
        (let l : x ≤ 1 = leb-true x 1 e in let w : slice_index xs 0 < x = c in omega arith) j
      where
        empty : (ys : List ℕ) → IsPartition ys → slice_index ys 0 ≤ 0 → (j : ℕ) →
            slice_index ys (suc j) ≡ slice_index ys j
        empty [] k z j = refl
        empty (y ∷ ys) k z j = absurd (omega (arith, IsPartition-head y ys k, z))
shrink_other (x ∷ xs) (suc k) zero h c ne = refl
shrink_other (x ∷ xs) (suc k) (suc j) h c ne =
    shrink_other xs k j (IsPartition-tail x xs h) (corner-tail x xs k c) (λ e. ne (ap suc e))

-- row k loses one
pub shrink_same : (xs : List ℕ) (k : ℕ) → IsPartition xs → Corner xs k →
    slice_index (shrink k xs) k + 1 ≡ slice_index xs k
unfolding shrink
shrink_same [] k h c = absurd (omega arith)
shrink_same (x ∷ xs) zero h c = settle (nat_le x 1) refl
  where
    settle : (b : Bool) → nat_le x 1 ≡ b → slice_index (cond b xs ((x - 1) ∷ xs)) 0 + 1 ≡ x
    settle false e = let l : 1 < x = leb-false x 1 e in omega arith
    settle true e = let l : x ≤ 1 = leb-true x 1 e in let w : slice_index xs 0 < x = c in omega arith
shrink_same (x ∷ xs) (suc k) h c = shrink_same xs k (IsPartition-tail x xs h) (corner-tail x xs k c)

-- it is a partition again
pub IsPartition-shrink : (xs : List ℕ) (k : ℕ) → IsPartition xs → Corner xs k → IsPartition (shrink k xs)
unfolding shrink
IsPartition-shrink [] k h c = h
IsPartition-shrink (x ∷ xs) zero h c =
    elim (nat_le x 1) as (λ b. nat_le x 1 ≡ b → IsPartition (cond b xs ((x - 1) ∷ xs))) [
      | true ↦ λ e. IsPartition-tail x xs h
      | false ↦ λ e.
          let l : 1 < x = leb-false x 1 e in
          let w : slice_index xs 0 < x = c in
          IsPartition-cons (x - 1) xs (omega arith) (omega arith) (IsPartition-tail x xs h)
    ] refl
IsPartition-shrink (x ∷ xs) (suc k) h c =
    IsPartition-cons x (shrink k xs) (IsPartition-head x xs h) (low (le_or_lt k 0))
    (IsPartition-shrink xs k (IsPartition-tail x xs h) (corner-tail x xs k c))
  where
    d : slice_index xs 0 ≤ x
    d = h.descending 0

    low : (k ≤ 0) ⊎ (0 < k) → slice_index (shrink k xs) 0 ≤ x
    low (inl z) =
        let s : slice_index (shrink k xs) 0 + 1 ≡ slice_index xs 0 =
        subst (λ n. slice_index (shrink k xs) n + 1 ≡ slice_index xs n) k0
        (shrink_same xs k (IsPartition-tail x xs h) (corner-tail x xs k c)) in
        omega (arith, s, d)
      where
        k0 : k ≡ 0
        k0 = omega arith
    low (inr w) =
        omega (arith, shrink_other xs k 0 (IsPartition-tail x xs h) (corner-tail x xs k c) (λ e. omega arith), d)

-- the degree falls by one
pub degree-shrink : (k : ℕ) (parts : List ℕ) → IsPartition parts → Corner parts k →
    degree (shrink k parts) + 1 ≡ degree parts
unfolding shrink
degree-shrink k [] h c = absurd (omega arith)
degree-shrink zero (p ∷ parts) h c =
    elim (nat_le p 1) as (λ b. nat_le p 1 ≡ b → degree (cond b parts ((p - 1) ∷ parts)) + 1 ≡ degree (p ∷ parts)) [
      | true ↦ λ e. omega (arith, leb-true p 1 e, IsPartition-head p parts h, sum_by-cons (λ x. x) p parts)
      | false ↦ λ e. omega (arith, leb-false p 1 e, sum_by-cons (λ x. x) p parts, sum_by-cons (λ x. x) (p - 1) parts)
    ] refl
degree-shrink (suc k) (p ∷ parts) h c =
    omega (
      arith,
      sum_by-cons (λ x. x) p parts,
      sum_by-cons (λ x. x) p (shrink k parts),
      degree-shrink k parts (IsPartition-tail p parts h) (corner-tail p parts k c),
    )

-- a row of one node goes, and each other row stays
pub length-shrink : (k : ℕ) (parts : List ℕ) → IsPartition parts → Corner parts k →
    length (shrink k parts) ≡ length parts - cond (nat_eq (slice_index parts k - 1) 0) 1 0
unfolding shrink
length-shrink k [] h c = absurd (omega arith)
length-shrink zero (p ∷ parts) h c = grind (arith, nat_tests)
length-shrink (suc k) (p ∷ parts) h c =
    let few : k < length parts = index_short parts k (omega (arith, corner-tail p parts k c)) in
    let less : length (shrink k parts) ≡ length parts - cond (nat_eq (slice_index parts k - 1) 0) 1 0 =
    length-shrink k parts (IsPartition-tail p parts h) (corner-tail p parts k c) in
    grind (arith, nat_tests)
