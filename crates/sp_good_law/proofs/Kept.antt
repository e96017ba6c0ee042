-- What one node less or more does to regularity by rows, where each part that is not 0 is less than the part e - 1
-- rows above.
use Rattle.std.proofs.Common.{◌≡◌, ◌≢◌, ℕ, ◌+◌, ◌-◌, ◌<◌, ◌≤◌, List, sym, subst, arith, slice_index, ◌⊎◌, inl, inr}
use Rattle.sp_defs.specs.Partition.{IsPartition}
use Rattle.sp_defs.specs.Signature.{shrink, grow}
use Rattle.sp_lists.proofs.Elements.{le_or_lt}
use Rattle.sp_shapes.proofs.Grow.{Room, grow_other, grow_same, full_rows}
use Rattle.sp_shapes.proofs.RowRegular.{RowRegular}
use Rattle.sp_shapes.proofs.Shrink.{Corner, shrink_other, shrink_same}

-- a node less keeps regularity, unless the part e - 1 rows below is just one less
pub shrink_regular : (e : ℕ) (xs : List ℕ) (k : ℕ) → 2 ≤ e → IsPartition xs → RowRegular e xs → Corner xs k →
    (0 < slice_index xs (k + (e - 1)) → slice_index xs (k + (e - 1)) + 1 ≢ slice_index xs k) →
    RowRegular e (shrink k xs)
shrink_regular e xs k he h r c ne i w =
    settle (le_or_lt i k) (le_or_lt k i) (le_or_lt (i + (e - 1)) k) (le_or_lt k (i + (e - 1)))
  where
    far : ℕ
    far = i + (e - 1)

    other : (j : ℕ) → j ≢ k → slice_index (shrink k xs) j ≡ slice_index xs j
    other j n = shrink_other xs k j h c n

    same : slice_index (shrink k xs) k + 1 ≡ slice_index xs k
    same = shrink_same xs k h c

    untouched : i ≢ k → far ≢ k → slice_index (shrink k xs) far < slice_index (shrink k xs) i
    untouched ni nf = omega (arith, other far nf, other i ni, r i (omega (arith, other far nf, w)))

    settle : (i ≤ k) ⊎ (k < i) → (k ≤ i) ⊎ (i < k) → (far ≤ k) ⊎ (k < far) → (k ≤ far) ⊎ (far < k) →
        slice_index (shrink k xs) far < slice_index (shrink k xs) i
    settle (inl a) (inl b) p q =
        let s : i ≡ k = omega arith in
        let o : slice_index (shrink k xs) far ≡ slice_index xs far = other far (λ z. omega arith) in
        let w' : 0 < slice_index xs far = omega (arith, o, w) in
        let g : slice_index xs far < slice_index xs i = r i w' in
        let n : slice_index xs far + 1 ≢ slice_index xs i = subst
        (λ z. 0 < slice_index xs (z + (e - 1)) → slice_index xs (z + (e - 1)) + 1 ≢ slice_index xs z) (sym s) ne
        w' in
        let t : slice_index (shrink k xs) i + 1 ≡ slice_index xs i =
        subst (λ z. slice_index (shrink k xs) z + 1 ≡ slice_index xs z) (sym s) same in
        omega (arith, o, g, n, t)
    settle (inr a) b p q = untouched (λ z. omega arith) (λ z. omega arith)
    settle (inl a) (inr b) (inr p) q = untouched (λ z. omega arith) (λ z. omega arith)
    settle (inl a) (inr b) (inl p) (inr q) = untouched (λ z. omega arith) (λ z. omega arith)
    settle (inl a) (inr b) (inl p) (inl q) =
        let s : far ≡ k = omega arith in
        let t : slice_index (shrink k xs) far + 1 ≡ slice_index xs far =
        subst (λ z. slice_index (shrink k xs) z + 1 ≡ slice_index xs z) (sym s) same in
        omega (arith, t, other i (λ z. omega arith), r i (omega (arith, t)))

-- a node more keeps regularity, unless the part e - 1 rows above is just one greater
pub grow_regular : (e : ℕ) (xs : List ℕ) (k : ℕ) → 2 ≤ e → IsPartition xs → RowRegular e xs → Room xs k →
    ((i : ℕ) → i + (e - 1) ≡ k → slice_index xs i ≢ slice_index xs k + 1) → RowRegular e (grow k xs)
grow_regular e xs k he h r room ne i w =
    settle (le_or_lt i k) (le_or_lt k i) (le_or_lt (i + (e - 1)) k) (le_or_lt k (i + (e - 1)))
  where
    far : ℕ
    far = i + (e - 1)

    other : (j : ℕ) → j ≢ k → slice_index (grow k xs) j ≡ slice_index xs j
    other j n = grow_other xs k j n

    same : slice_index (grow k xs) k ≡ slice_index xs k + 1
    same = grow_same xs k room.there

    untouched : i ≢ k → far ≢ k → slice_index (grow k xs) far < slice_index (grow k xs) i
    untouched ni nf = omega (arith, other far nf, other i ni, r i (omega (arith, other far nf, w)))

    settle : (i ≤ k) ⊎ (k < i) → (k ≤ i) ⊎ (i < k) → (far ≤ k) ⊎ (k < far) → (k ≤ far) ⊎ (far < k) →
        slice_index (grow k xs) far < slice_index (grow k xs) i
    settle (inl a) (inl b) p q =
        let s : i ≡ k = omega arith in
        let o : slice_index (grow k xs) far ≡ slice_index xs far = other far (λ z. omega arith) in
        let g : slice_index xs far < slice_index xs i = r i (omega (arith, o, w)) in
        let t : slice_index (grow k xs) i ≡ slice_index xs i + 1 =
        subst (λ z. slice_index (grow k xs) z ≡ slice_index xs z + 1) (sym s) same in
        omega (arith, o, g, t)
    settle (inr a) b p q = untouched (λ z. omega arith) (λ z. omega arith)
    settle (inl a) (inr b) (inr p) q = untouched (λ z. omega arith) (λ z. omega arith)
    settle (inl a) (inr b) (inl p) (inr q) = untouched (λ z. omega arith) (λ z. omega arith)
    settle (inl a) (inr b) (inl p) (inl q) =
        let s : far ≡ k = omega arith in
        let t : slice_index (grow k xs) far ≡ slice_index xs far + 1 =
        subst (λ z. slice_index (grow k xs) z ≡ slice_index xs z + 1) (sym s) same in
        let n : slice_index xs i ≢ slice_index xs far + 1 = subst (λ z. slice_index xs i ≢ slice_index xs z + 1) (sym s)
        (ne i s) in
        finish t n (le_or_lt (slice_index xs far) 0)
      where
        finish : slice_index (grow k xs) far ≡ slice_index xs far + 1 → slice_index xs i ≢ slice_index xs far + 1 →
            (slice_index xs far ≤ 0) ⊎ (0 < slice_index xs far) →
            slice_index (grow k xs) far < slice_index (grow k xs) i
        finish t n (inr v) = omega (arith, t, n, other i (λ z. omega arith), r i v)
        finish t n (inl z) =
            omega (arith, t, n, z, other i (λ z. omega arith), full_rows xs i h (omega (arith, room.there, b)))
