-- The setting of the laws of rows: the e-regular partitions of mu's degree, those before mu, and their ladder vectors.
-- By the ladder law these vectors are a triangle, since dominance implies the lexicographic order.
use Rattle.std.proofs.Common.{◌≡◌, ◌≢◌, ℕ, suc, ◌<◌, ◌≤◌, List, [], ◌∷◌, take, refl, sym, ◌∙◌, ap, arith, sum, ◌⊎◌}
use Rattle.std.proofs.Common.{inl}
use Rattle.std.proofs.Common.{inr, Ordering, Less, Equal, Greater, nat_cmp}
use Rattle.std.specs.List.{AllByRecursion}
use Rattle.std.specs.Ordering.{MatchOrdering, ordering_then}
use Rattle.std.specs.Cmp.{ranks}
use Rattle.std.proofs.lemmas.List.Sums.{sum_by-cons}
use Rattle.sp_defs.specs.Partition.{degree, IsPartition, compare, regulars, Ascending, IsRegularOf}
use Rattle.sp_defs.specs.Laurent.{times, IsLaurent}
use Rattle.sp_defs.specs.Ladder.{ladder_vector}
use Rattle.sp_defs.specs.Row.{Factors, combination, before, earlier, factors, regular_row}
use Rattle.sp_defs.specs.Statements.{IsLabel}
use Rattle.sp_lists.proofs.Elements.{all_both, nil_or_not}
use Rattle.sp_lists.proofs.Places.{all_weaken}
use Rattle.sp_algebra.proofs.Sums.{sum_over-alike}
use Rattle.sp_shapes.proofs.Before.{all_before, all_kept, Ascending-before, before_before, IsCut, about}
use Rattle.sp_shapes.proofs.Diagram.{IsPartition-tail, IsPartition-head}
use Rattle.sp_shapes.proofs.Listing.{all_regulars, each_regular, regulars_ascend}
use Rattle.sp_triangle.proofs.Triangle.{Triangle}
use Rattle.sp_triangle.proofs.Shares.{rows}
use Rattle.sp_ladder_law.proofs.Chains.{IsLaurent-chain_sum}
use Rattle.sp_ladder_law.proofs.LadderLaw.{ladder_law}

-- ---- dominance implies the lexicographic order

-- A partition with greater first sums is not earlier.
pub not_lower : (xs ys : List ℕ) → IsPartition ys → ((k : ℕ) → sum (take k ys) ≤ sum (take k xs)) →
    compare xs ys ≢ Less
not_lower [] [] py f e = cc
not_lower [] (y ∷ ys) py f e =
    absurd (let h : sum (y ∷ []) ≤ 0 = f 1 in omega (arith, h, sum_by-cons (λ x. x) y [], IsPartition-head y ys py))
not_lower (x ∷ xs) [] py f e = cc
not_lower (x ∷ xs) (y ∷ ys) py f e = settle (nat_cmp x y) (ranks x y) (not_lower xs ys (IsPartition-tail y ys py)) e
  where
    first : sum (y ∷ []) ≤ sum (x ∷ [])
    first = f 1

    rest : x ≡ y → (k : ℕ) → sum (take k ys) ≤ sum (take k xs)
    rest s k =
        let h : sum (y ∷ take k ys) ≤ sum (x ∷ take k xs) = f (suc k) in
        omega (arith, h, s, sum_by-cons (λ x. x) y (take k ys), sum_by-cons (λ x. x) x (take k xs))

    settle : (o : Ordering) → MatchOrdering o (x < y) (x ≡ y) (y < x) →
        (((k : ℕ) → sum (take k ys) ≤ sum (take k xs)) → compare xs ys ≢ Less) →
        ordering_then o (compare xs ys) ≡ Less → ⊥
    settle Less lt more e = omega (arith, first, sum_by-cons (λ x. x) y [], sum_by-cons (λ x. x) x [])
    settle Equal s more e = more (rest s) e
    settle Greater gt more e = cc

-- ---- the ladder vectors are a triangle

-- An e-regular partition is a label.
pub label : (e n : ℕ) (nu : List ℕ) → 2 ≤ e → IsRegularOf e n nu → IsLabel e nu
label e n nu he h = record { e_least = he; partition = h.partition; regular = h.regular }

-- Each ladder vector is 1 at its own partition, and 0 at the later e-regular ones.
pub ladder_triangle : (e n : ℕ) → 2 ≤ e → Triangle (IsRegularOf e n) (ladder_vector e)
ladder_triangle e n he = record {
  diagonal = λ nu g. (ladder_law e nu (label e n nu he g)).at_mu;
  later = λ nu lambda g h lt. settle nu lambda g h lt (nil_or_not (ladder_vector e nu lambda));
}
  where
    settle : (nu lambda : List ℕ) → IsRegularOf e n nu → IsRegularOf e n lambda → compare nu lambda ≡ Less →
        (ladder_vector e nu lambda ≡ []) ⊎ (ladder_vector e nu lambda ≢ []) → ladder_vector e nu lambda ≡ []
    settle nu lambda g h lt (inl z) = z
    settle nu lambda g h lt (inr ne) =
        absurd
        (not_lower nu lambda h.partition ((ladder_law e nu (label e n nu he g)).below lambda h.partition ne).sums
        lt)

-- A ladder vector's value is a Laurent polynomial.
pub IsLaurent-ladder_vector : (e : ℕ) (nu lambda : List ℕ) → IsLaurent (ladder_vector e nu lambda)
unfolding ladder_vector
IsLaurent-ladder_vector e nu lambda = IsLaurent-chain_sum e _ lambda

-- ---- mu among the e-regular partitions of its degree

-- An e-regular partition of mu's degree.
abbrev pub Good : ℕ → List ℕ → List ℕ → Type 0
Good e mu = IsRegularOf e (degree mu)

-- A good partition that is before mu.
abbrev pub IsBefore : ℕ → List ℕ → List ℕ → Type 0
IsBefore e mu nu = Good e mu nu × (compare nu mu ≡ Less)

-- A label is good for itself.
pub good : (e : ℕ) (mu : List ℕ) → IsLabel e mu → Good e mu mu
good e mu is = record { partition = is.partition; total = refl; regular = is.regular }

-- The list of the good ones is those before mu, mu, and those after it.
pub cut : (e : ℕ) (mu : List ℕ) → IsLabel e mu → IsCut mu (regulars e (degree mu))
cut e mu is = about mu (regulars e (degree mu)) (regulars_ascend e (degree mu))
    (each_regular e (degree mu) mu (good e mu is))

-- The earlier ones are good, and before mu.
pub good_earlier : (e : ℕ) (mu : List ℕ) → AllByRecursion (Good e mu) (earlier e mu)
good_earlier e mu = all_kept (Good e mu) mu (regulars e (degree mu)) (all_regulars e (degree mu))

-- And they are before mu.
pub earlier_before : (e : ℕ) (mu : List ℕ) → AllByRecursion (IsBefore e mu) (earlier e mu)
earlier_before e mu = all_both (Good e mu) (λ nu. compare nu mu ≡ Less) (earlier e mu) (good_earlier e mu)
    (all_before mu (regulars e (degree mu)))

-- They ascend.
pub earlier_ascends : (e : ℕ) (mu : List ℕ) → Ascending (earlier e mu)
earlier_ascends e mu = Ascending-before mu (regulars e (degree mu)) (regulars_ascend e (degree mu))

-- The ladder vectors of the good ones are a triangle.
pub triangle : (e : ℕ) (mu : List ℕ) → IsLabel e mu → Triangle (Good e mu) (ladder_vector e)
triangle e mu is = ladder_triangle e (degree mu) is.e_least

-- ---- the rows over the partitions before mu are the regular rows

-- One row.
pub row_same : (e : ℕ) (mu kappa lambda : List ℕ) → IsBefore e mu kappa →
    rows (ladder_vector e) (earlier e mu) kappa lambda ≡ regular_row e kappa lambda
unfolding regular_row
row_same e mu kappa lambda (g, lt) =
    ap (λ s. combination (ladder_vector e) (factors (ladder_vector e) kappa s) lambda)
    (before_before kappa mu (regulars e (degree mu)) lt ∙ ap (λ d. before kappa (regulars e d)) (sym g.total))

-- So factors at partitions before mu give the same with either.
pub rows_same : (e : ℕ) (mu : List ℕ) (fs : Factors) (lambda : List ℕ) →
    AllByRecursion (λ f. IsBefore e mu f.0) fs →
    combination (rows (ladder_vector e) (earlier e mu)) fs lambda ≡ combination (regular_row e) fs lambda
unfolding combination
rows_same e mu fs lambda h = sum_over-alike fs _ _
    (all_weaken (λ f. IsBefore e mu f.0)
    (λ f. times f.1 (rows (ladder_vector e) (earlier e mu) f.0 lambda) ≡ times f.1 (regular_row e f.0 lambda)) fs
    (λ f k. ap (times f.1) (row_same e mu f.0 lambda k)) h)
