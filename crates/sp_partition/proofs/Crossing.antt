-- The initial sums of two lists, read side by side.
use Rattle.std.proofs.Common.{◌≡◌, ℕ, ◌+◌, ◌<◌, ◌≤◌, min, List, take, sum, length, get_or, sym, ◌∙◌, ap, ap₂}
use Rattle.std.proofs.Common.{subst, arith, ◌⊎◌, inl, inr}
use Rattle.std.proofs.Common.{Option, Some, Bor, Iter}
use Rattle.std.proofs.iter.Yields.{fronts}
use Rattle.std.proofs.lemmas.Grind.{common_steps}
use Rattle.std.proofs.lemmas.Iterator.{zips}
use Rattle.std.proofs.lemmas.List.{take_all}
use Rattle.std.proofs.lemmas.Slice.Zip.{zip_turn}
use Rattle.std.specs.Iterator.{Yields}
use Rattle.std.specs.Iterator.Adapters.{zip_first, zip_second}
use Rattle.std.specs.Slice.Iter.{iter_rest}
use Rattle.std.specs.declared.iter.Zip.{Zip}
use Rattle.std.proofs.lemmas.List.Sums.{sum_by_more, sum_by-take-le}
use Rattle.sp_defs.specs.Partition.{Dominates}
use Rattle.sp_lists.proofs.Elements.{le_or_lt}

-- With the part that stands next, the sum is the next initial sum.
pub sum_next : (so_far part k : ℕ) (parts : List ℕ) → k < length parts → part ≡ get_or parts k 0 →
    so_far ≡ sum (take k parts) → so_far + part ≡ sum (take (k + 1) parts)
sum_next so_far part k parts h e s = ap₂ (λ a b. a + b) s e ∙ sym (sum_by_more (λ x. x) parts k 0 h)

-- No initial sum is past the whole.
pub sum_within : (k : ℕ) (parts : List ℕ) → sum (take k parts) ≤ sum parts
sum_within k parts = sum_by-take-le (λ x. x) parts k

-- The first k initial sums of the first list are at least those of the second.
abbrev pub StaysAbove : ℕ → List ℕ → List ℕ → Type 0
StaysAbove n upper lower = (k : ℕ) → k ≤ n → sum (take k lower) ≤ sum (take k upper)

-- One initial sum more.
pub above_next : (n : ℕ) (upper lower : List ℕ) → StaysAbove n upper lower →
    sum (take (n + 1) lower) ≤ sum (take (n + 1) upper) → StaysAbove (n + 1) upper lower
above_next n upper lower before next k h = at (le_or_lt k n)
  where
    at : (k ≤ n) ⊎ (n < k) → sum (take k lower) ≤ sum (take k upper)
    at (inl within) = before k within
    at (inr last) =
        let is : n + 1 ≡ k = omega arith in subst (λ j. sum (take j lower) ≤ sum (take j upper)) is next

take_less : (n k : ℕ) (parts : List ℕ) → n ≤ k → take n (take k parts) ≡ take n parts
take_less n k parts h = grind (arith, common_steps)

-- An initial sum is at most a longer one.
sum_grows : (n k : ℕ) (parts : List ℕ) → n ≤ k → sum (take n parts) ≤ sum (take k parts)
sum_grows n k parts h = subst (λ xs. sum xs ≤ sum (take k parts)) (take_less n k parts h) (sum_within n (take k parts))

-- Past the end of one of the lists the sums no longer cross: one of them is the whole.
pub above_all : (n : ℕ) (upper lower : List ℕ) → sum upper ≡ sum lower → n ≡ min (length upper) (length lower) →
    StaysAbove n upper lower → Dominates upper lower
above_all n upper lower one_sum is above = record { one_degree = one_sum; sums = λ k. at k (le_or_lt k n) }
  where
    at : (k : ℕ) → (k ≤ n) ⊎ (n < k) → sum (take k lower) ≤ sum (take k upper)
    at k (inl within) = above k within
    at k (inr past) = ends (le_or_lt (length upper) (length lower))
      where
        ends : (length upper ≤ length lower) ⊎ (length lower < length upper) →
            sum (take k lower) ≤ sum (take k upper)
        ends (inl shorter) =
            let whole : sum (take k upper) ≡ sum upper = ap sum (take_all k upper (omega arith)) in
            omega (arith, whole, one_sum, sum_within k lower)
        ends (inr longer) =
            let whole : sum (take n lower) ≡ sum lower = ap sum (take_all n lower (omega arith)) in
            omega (arith, whole, sum_within k lower, above n (omega arith), sum_grows n k upper (omega arith))

-- What one more part of each list makes of the sums of the first k.
pub record Turn (upper_sum lower_sum part other k : ℕ) (upper lower : List ℕ) : Type 0 where
  pub upper_next : upper_sum + part ≡ sum (take (k + 1) upper)
  pub lower_next : lower_sum + other ≡ sum (take (k + 1) lower)

-- The parts at one place add to the sums so far.
pub turn_of : (upper_sum lower_sum part other k : ℕ) (upper lower : List ℕ) →
    (k < length upper) × (k < length lower) × ((d : ℕ) → part ≡ get_or upper k d)
    × ((d : ℕ) → other ≡ get_or lower k d) →
    upper_sum ≡ sum (take k upper) → lower_sum ≡ sum (take k lower) →
    Turn upper_sum lower_sum part other k upper lower
turn_of upper_sum lower_sum part other k upper lower at u l = record {
  upper_next = sum_next upper_sum part k upper at.0 (at.2 0) u;
  lower_next = sum_next lower_sum other k lower at.1 (at.3 0) l;
}

-- The same, of the parts that a `zip` yields next.
pub turn_next : {upper_sum lower_sum : ℕ} {upper lower : List ℕ} {pair : Bor ℕ × Bor ℕ}
    {next : Option (Bor ℕ × Bor ℕ)} (read : List (Bor ℕ × Bor ℕ)) (start before after : Zip (Iter ℕ) (Iter ℕ)) →
    iter_rest (zip_first start) ≡ upper → iter_rest (zip_second start) ≡ lower →
    Yields (zips fronts fronts) start read before → next ≡ Some pair → zips fronts fronts before next after →
    upper_sum ≡ sum (take (length read) upper) → lower_sum ≡ sum (take (length read) lower) →
    Turn upper_sum lower_sum pair.0.now pair.1.now (length read) upper lower
turn_next read start before after first second yielded is steps u l =
    turn_of _ _ _ _ _ _ _ (zip_turn _ _ read start before after _ first second yielded _ is steps) u l
