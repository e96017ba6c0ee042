-- Lists of numbers that decrease weakly, without the zeros at their end; and lists that a function makes of a range.
use Rattle.std.proofs.Common.{◌≡◌, ℕ, zero, suc, ◌+◌, ◌<◌, ◌≤◌, Bool, true, false, cond, List, [], ◌∷◌, length, map}
use Rattle.std.proofs.Common.{filter, slice_index, slice_index_or, nat_lt, refl, ◌∙◌, ap, ap₂, arith, le_trans}
use Rattle.std.proofs.Common.{ltb-true, ltb-false, add-one}
use Rattle.std.specs.List.{range_with_len}
use Rattle.std.proofs.lemmas.List.Elements.{All-from_recursion}
use Rattle.sp_defs.specs.Partition.{IsPartition}
use Rattle.sp_lists.proofs.Elements.{all_filter, all_every}

-- the value at a place of a range
pub mapped_at : {X : Type 0} (f : ℕ → X) (d : X) (a n i : ℕ) → i < n →
    slice_index_or (map f (range_with_len a n)) i d ≡ f (a + i)
mapped_at f d a zero i lt = absurd (omega arith)
mapped_at f d a (suc n) zero lt = ap f (omega arith)
mapped_at f d a (suc n) (suc i) lt = mapped_at f d (a + 1) n i (omega arith) ∙ ap f (moved a i)
  where
    moved : (a i : ℕ) → a + 1 + i ≡ a + suc i
    moved a i = omega arith

-- behind the range
pub mapped_past : {X : Type 0} (f : ℕ → X) (d : X) (a n i : ℕ) → n ≤ i →
    slice_index_or (map f (range_with_len a n)) i d ≡ d
mapped_past f d a zero i h = refl
mapped_past f d a (suc n) zero h = absurd (omega arith)
mapped_past f d a (suc n) (suc i) h = mapped_past f d (a + 1) n i (omega arith)

-- a list is made of a range where its values are
pub mapped_is : {X : Type 0} (f : ℕ → X) (d : X) (a : ℕ) (xs : List X) →
    ((i : ℕ) → i < length xs → f (a + i) ≡ slice_index_or xs i d) → map f (range_with_len a (length xs)) ≡ xs
mapped_is f d a [] h = refl
mapped_is f d a (x ∷ xs) h =
    ap₂ (λ y ys. y ∷ ys) (ap f (omega arith) ∙ h 0 (omega arith))
    (mapped_is f d (a + 1) xs (λ i lt. ap f (moved a i) ∙ h (suc i) (omega arith)))
  where
    moved : (a i : ℕ) → a + 1 + i ≡ a + suc i
    moved a i = omega arith

-- behind the end of a list stands 0
pub past_end : (xs : List ℕ) (i : ℕ) → length xs ≤ i → slice_index xs i ≡ 0
past_end [] i h = refl
past_end (x ∷ xs) zero h = absurd (omega arith)
past_end (x ∷ xs) (suc i) h = past_end xs i (omega arith)

-- ---- lists that decrease weakly

-- each number is at least the next
abbrev pub Descends : List ℕ → Type 0
Descends xs = (i : ℕ) → slice_index xs (suc i) ≤ slice_index xs i

-- so the first is at least each
pub below_head : (xs : List ℕ) → Descends xs → (i : ℕ) → slice_index xs i ≤ slice_index xs 0
below_head xs d zero = omega arith
below_head xs d (suc i) = le_trans (d i) (below_head xs d i)

-- without the zeros it has the same numbers
pub trimmed_at : (xs : List ℕ) → Descends xs → (i : ℕ) → slice_index (filter (nat_lt 0) xs) i ≡ slice_index xs i
trimmed_at [] d i = refl
trimmed_at (x ∷ xs) d i = tested (nat_lt 0 x) refl i (trimmed_at xs (λ j. d (suc j)))
  where
    tested : (b : Bool) → nat_lt 0 x ≡ b → (i : ℕ) → ((j : ℕ) →
        slice_index (filter (nat_lt 0) xs) j ≡ slice_index xs j) →
        slice_index (cond b (x ∷ filter (nat_lt 0) xs) (filter (nat_lt 0) xs)) i ≡ slice_index (x ∷ xs) i
    tested true e zero ih = refl
    tested true e (suc i) ih = ih i
    tested false e i ih =
        let none : x ≤ 0 = ltb-false 0 x e in
        let here : slice_index (x ∷ xs) i ≤ x = below_head (x ∷ xs) d i in
        let next : slice_index (x ∷ xs) (suc i) ≤ x = below_head (x ∷ xs) d (suc i) in
        omega (arith, ih i)

-- and is a partition
pub trimmed_partition : (xs : List ℕ) → Descends xs → IsPartition (filter (nat_lt 0) xs)
trimmed_partition xs d = record {
  descending = λ k.
      omega (
        arith,
        ap (slice_index (filter (nat_lt 0) xs)) (add-one k),
        trimmed_at xs d (suc k),
        trimmed_at xs d k,
        d k,
      );
  positive =
      All-from_recursion (λ p. 0 < p) (filter (nat_lt 0) xs)
      (all_filter (λ p. 0 < p) (nat_lt 0) xs (all_every (λ x. nat_lt 0 x ≡ true → 0 < x) xs (λ x. ltb-true 0 x)));
}

-- the parts of a partition decrease
pub descends : (parts : List ℕ) → IsPartition parts → Descends parts
descends parts h i = omega (arith, h.descending i, ap (slice_index parts) (add-one i))
