-- Regularity by rows: a partition is e-regular where each part that is not 0 is less than the part e - 1 rows above.
use Rattle.std.proofs.Common.{◌≡◌, ℕ, zero, suc, ◌+◌, ◌-◌, ◌<◌, ◌≤◌, Bool, true, false, cond, nat_eq}
use Rattle.std.proofs.Common.{nat_lt, List, [], ◌∷◌, refl, sym, ap, subst, arith, count_by, slice_index, ◌⊎◌, inl, inr}
use Rattle.std.proofs.Common.{eqb-true, ne_eqb, lt-ltb}
use Rattle.std.specs.List.{AllByRecursion}
use Rattle.sp_defs.specs.Partition.{IsPartition, is_regular}
use Rattle.sp_lists.proofs.Counts.{count-cons, at_most_one}
use Rattle.sp_lists.proofs.Elements.{le_or_lt, tests_all}
use Rattle.sp_shapes.proofs.Diagram.{IsPartition-tail, IsPartition-head}

-- a part below p at place k: at most k parts are p
few_equal : (xs : List ℕ) (p k : ℕ) → IsPartition xs → slice_index xs k < p → count_by (λ q. nat_eq q p) xs ≤ k
few_equal [] p k h lt = omega arith
few_equal (x ∷ xs) p zero h lt =
    let d : slice_index xs 0 ≤ x = h.descending 0 in
    let z : ◌≡◌ {A = ℕ} (cond (nat_eq x p) 1 0) 0 = ap (λ b. cond b 1 0) (ne_eqb x p (λ e. omega arith)) in
    omega (
      arith,
      z,
      count-cons (λ q. nat_eq q p) x xs,
      few_equal xs p 0 (IsPartition-tail x xs h) (omega (arith, d, lt)),
    )
few_equal (x ∷ xs) p (suc k) h lt =
    omega (
      arith,
      at_most_one (nat_eq x p),
      count-cons (λ q. nat_eq q p) x xs,
      few_equal xs p k (IsPartition-tail x xs h) lt,
    )

-- each part that is not 0 is less than the part e - 1 rows above
abbrev pub RowRegular : ℕ → List ℕ → Type 0
RowRegular e xs = (i : ℕ) → 0 < slice_index xs (i + (e - 1)) → slice_index xs (i + (e - 1)) < slice_index xs i

-- then fewer than e parts are p
few : (e : ℕ) (xs : List ℕ) (p : ℕ) → 2 ≤ e → IsPartition xs → 0 < p → RowRegular e xs →
    count_by (λ q. nat_eq q p) xs < e
few e [] p he h hp r = omega arith
few e (x ∷ xs) p he h hp r = settle (few e xs p he (IsPartition-tail x xs h) hp tail) (nat_eq x p) refl
  where
    tail : RowRegular e xs
    tail i w = subst (λ n. slice_index (x ∷ xs) n < slice_index xs i) (moved i)
        (r (suc i) (subst (λ n. 0 < slice_index (x ∷ xs) n) (sym (moved i)) w))
      where
        moved : (i : ℕ) → suc i + (e - 1) ≡ suc (i + (e - 1))
        moved i = omega arith

    settle : count_by (λ q. nat_eq q p) xs < e → (b : Bool) → nat_eq x p ≡ b → count_by (λ q. nat_eq q p) (x ∷ xs) < e
    settle ih false eq =
        let z : ◌≡◌ {A = ℕ} (cond (nat_eq x p) 1 0) 0 = ap (λ b. cond b 1 0) eq in
        omega (arith, ih, z, count-cons (λ q. nat_eq q p) x xs)
    settle ih true eq =
        let is : x ≡ p = eqb-true x p eq in
        let low : slice_index xs (e - 2) < p = below is (le_or_lt (slice_index xs (e - 2)) 0) in
        omega (
          arith,
          at_most_one (nat_eq x p),
          count-cons (λ q. nat_eq q p) x xs,
          few_equal xs p (e - 2) (IsPartition-tail x xs h) low,
        )
      where
        place : 0 + (e - 1) ≡ suc (e - 2)
        place = omega arith

        below : x ≡ p → (slice_index xs (e - 2) ≤ 0) ⊎ (0 < slice_index xs (e - 2)) → slice_index xs (e - 2) < p
        below is (inl z) = omega arith
        below is (inr w) =
            let g : slice_index (x ∷ xs) (suc (e - 2)) < x =
            subst (λ n. slice_index (x ∷ xs) n < x) place
            (r 0 (subst (λ n. 0 < slice_index (x ∷ xs) n) (sym place) w)) in
            omega (arith, g, is)

-- then the partition is e-regular
pub rows_regular : (e : ℕ) (xs : List ℕ) → 2 ≤ e → IsPartition xs → RowRegular e xs → is_regular e xs ≡ true
rows_regular e xs he h r = tests_all (λ p. nat_lt (count_by (λ q. nat_eq q p) xs) e) xs (each xs h)
  where
    each : (ys : List ℕ) → IsPartition ys → AllByRecursion (λ p. nat_lt (count_by (λ q. nat_eq q p) xs) e ≡ true) ys
    each [] k = tt
    each (y ∷ ys) k = (
      lt-ltb (count_by (λ q. nat_eq q y) xs) e (few e xs y he h (IsPartition-head y ys k) r),
      each ys (IsPartition-tail y ys k),
    )
