-- A partition that dominates another is not before it in the lexicographic order.
use Rattle.std.proofs.Common.{◌≡◌, ◌≢◌, ℕ, suc, ◌+◌, ◌≤◌, Bool, true, false, cond, nat_eq, nat_lt, List, [], ◌∷◌}
use Rattle.std.proofs.Common.{take, sum, refl, arith, Less, Equal, Greater, ltb-true, eqb-true}
use Rattle.std.specs.Ordering.{ordering_then}
use Rattle.std.proofs.lemmas.List.Sums.{sum_by-cons}
use Rattle.sp_defs.specs.Partition.{IsPartition, Dominates, compare}
use Rattle.sp_shapes.proofs.Diagram.{IsPartition-tail, IsPartition-head}

sums_above : (upper lower : List ℕ) → IsPartition lower → ((k : ℕ) → sum (take k lower) ≤ sum (take k upper)) →
    compare upper lower ≡ Less → ⊥
sums_above [] [] h s e = cc
sums_above [] (y ∷ lower) h s e =
    let first : 0 + y ≤ 0 = s 1 in omega (arith, first, IsPartition-head y lower h)
sums_above (x ∷ upper) [] h s e = cc
sums_above (x ∷ upper) (y ∷ lower) h s e = decide (nat_lt x y) refl (nat_eq x y) refl
    (λ same. sums_above upper lower (IsPartition-tail y lower h) (behind same)) e
  where
    first : y ≤ x
    first = let least : 0 + y ≤ 0 + x = s 1 in omega arith

    behind : x ≡ y → (k : ℕ) → sum (take k lower) ≤ sum (take k upper)
    behind same k =
        omega (arith, s (suc k), sum_by-cons (λ z. z) x (take k upper), sum_by-cons (λ z. z) y (take k lower), same)

    decide : (less : Bool) → nat_lt x y ≡ less → (same : Bool) → nat_eq x y ≡ same →
        (x ≡ y → compare upper lower ≡ Less → ⊥) →
        ordering_then (cond less Less (cond same Equal Greater)) (compare upper lower) ≡ Less → ⊥
    decide true l same q later o = omega (arith, ltb-true x y l, first)
    decide false l true q later o = later (eqb-true x y q) o
    decide false l false q later o = cc

-- A partition that dominates another is not before it.
pub not_before : (upper lower : List ℕ) → IsPartition lower → Dominates upper lower → compare upper lower ≢ Less
not_before upper lower h d = sums_above upper lower h d.sums
