-- The vector of the totals, with one term more.
use Rattle.std.proofs.Common.{◌≡◌, ℕ, suc, ◌+◌, ◌*◌, ◌≤◌, Bool, true, false, cond, List, [], ◌∷◌, ◌++◌, map, filter}
use Rattle.std.proofs.Common.{length}
use Rattle.std.proofs.Common.{refl, sym, ◌∙◌, ap, ap₂, arith, ℤ, pos, ◌+ℤ◌, mul-le-mul, take, get_or, ◌<◌, ◌^◌}
use Rattle.std.proofs.Common.{length-take}
use Rattle.std.proofs.lemmas.List.{take_more}
use Rattle.std.specs.Int.RustNames.{unsigned_abs}
use Rattle.std.specs.List.{AllByRecursion}
use Rattle.std.specs.Ordering.{is_eq}
use Rattle.std.proofs.lemmas.Int.{ints}
use Rattle.sp_defs.specs.Partition.{compare, degree, partitions, IsPartitionOf}
use Rattle.sp_defs.specs.Laurent.{IsLaurent, monomial, one, plus, times, size, int_sum, coefficient, collect}
use Rattle.sp_defs.specs.Laurent.{add_term}
use Rattle.sp_defs.specs.Power.{FockVector, fock_vector, unit, vector_of, entries}
use Rattle.sp_lists.proofs.Greatest.{greatest_within, map_within}
use Rattle.sp_lists.proofs.Places.{all_at, all_take, all_weaken}
use Rattle.sp_shapes.proofs.Listing.{all_partitions}
use Rattle.sp_algebra.proofs.Coefficients.{at, at-plus, coefficient-put, same_laurent, IsLaurent-collect}
use Rattle.sp_algebra.proofs.Laws.{plus_nought, IsLaurent-plus, coefficient-plus, times_one, times_nought}
use Rattle.sp_algebra.proofs.Sizes.{size-monomial}
use Rattle.sp_fock_law.specs.Addition.{plus_scaled, scaled_sum, scaled_sum_weight}
use Rattle.sp_fock_law.proofs.Vectors.{vector_of-entries, entries-alike}
use Rattle.sp_module_defs.specs.Jantzen.{Terms, total_at, constants}

-- ---- totals

total-cons : (kappa : List ℕ) (c : ℤ) (ts : Terms) (lambda : List ℕ) →
    total_at ((kappa, c) ∷ ts) lambda ≡ cond (is_eq (compare kappa lambda)) c (pos 0) +ℤ total_at ts lambda
unfolding total_at int_sum
total-cons kappa c ts lambda =
    tested (is_eq (compare kappa lambda)) (filter (λ t. is_eq (compare t.0 lambda)) ts)
  where
    tested : (v : Bool) (rest : Terms) →
        int_sum (map (λ t. t.1) (cond v ((kappa, c) ∷ rest) rest)) ≡ cond v c (pos 0) +ℤ int_sum (map (λ t. t.1) rest)
    tested true rest = refl
    tested false rest = omega (arith, ints)

-- The total with one term more.
pub total-snoc : (ts : Terms) (kappa : List ℕ) (c : ℤ) (lambda : List ℕ) →
    total_at (ts ++ (kappa, c) ∷ []) lambda ≡ total_at ts lambda +ℤ cond (is_eq (compare kappa lambda)) c (pos 0)
unfolding total_at int_sum
total-snoc [] kappa c lambda =
    total-cons kappa c [] lambda ∙ turned (cond (is_eq (compare kappa lambda)) c (pos 0))
  where
    turned : (x : ℤ) → x +ℤ pos 0 ≡ pos 0 +ℤ x
    turned x = omega (arith, ints)
total-snoc ((mu, d) ∷ ts) kappa c lambda =
    total-cons mu d (ts ++ (kappa, c) ∷ []) lambda
    ∙ ap (λ x. cond (is_eq (compare mu lambda)) d (pos 0) +ℤ x) (total-snoc ts kappa c lambda)
    ∙ regrouped (cond (is_eq (compare mu lambda)) d (pos 0)) (total_at ts lambda)
    (cond (is_eq (compare kappa lambda)) c (pos 0))
    ∙ ap (λ x. x +ℤ cond (is_eq (compare kappa lambda)) c (pos 0)) (sym (total-cons mu d ts lambda))
  where
    regrouped : (x y z : ℤ) → x +ℤ (y +ℤ z) ≡ (x +ℤ y) +ℤ z
    regrouped x y z = omega (arith, ints)

-- Units add up to no more than their number.
total_small : (ts : Terms) (lambda : List ℕ) → AllByRecursion (λ t. unsigned_abs t.1 ≤ 1) ts →
    unsigned_abs (total_at ts lambda) ≤ length ts
unfolding total_at int_sum
total_small [] lambda h = omega (arith, ints)
total_small ((kappa, c) ∷ ts) lambda (h, hs) =
    settle (is_eq (compare kappa lambda)) c (total_at ts lambda) (total_at ((kappa, c) ∷ ts) lambda) (length ts) h
    (total_small ts lambda hs) (total-cons kappa c ts lambda)
  where
    settle : (v : Bool) (c x y : ℤ) (n : ℕ) → unsigned_abs c ≤ 1 → unsigned_abs x ≤ n → y ≡ cond v c (pos 0) +ℤ x →
        unsigned_abs y ≤ suc n
    settle true c x y n h k e = omega (arith, ints)
    settle false c x y n h k e = omega (arith, ints)

-- ---- constants

laurent_constant : (c : ℤ) → IsLaurent (monomial (pos 0) c)
unfolding collect add_term
laurent_constant c = IsLaurent-collect ((pos 0, c) ∷ [])

plus_constants : (c d : ℤ) → plus (monomial (pos 0) c) (monomial (pos 0) d) ≡ monomial (pos 0) (c +ℤ d)
unfolding coefficient
plus_constants c d =
    same_laurent (plus (monomial (pos 0) c) (monomial (pos 0) d)) (monomial (pos 0) (c +ℤ d))
    (IsLaurent-plus (monomial (pos 0) c) (monomial (pos 0) d)) (laurent_constant (c +ℤ d))
    (λ j. coefficient-plus (monomial (pos 0) c) (monomial (pos 0) d) j
    ∙ settle (at (pos 0) c j) (at (pos 0) d j) (coefficient-put (pos 0) c [] j) (coefficient-put (pos 0) d [] j)
    (coefficient-put (pos 0) (c +ℤ d) [] j)
    (at-plus (pos 0) c d j))
  where
    settle : {x y z s : ℤ} (a b : ℤ) → x ≡ a +ℤ pos 0 → y ≡ b +ℤ pos 0 → z ≡ s +ℤ pos 0 → s ≡ a +ℤ b → x +ℤ y ≡ z
    settle a b p q r t = omega (arith, ints)

-- One more term at one partition.
constant_more : (x c : ℤ) (v : Bool) →
    plus (monomial (pos 0) x) (times (monomial (pos 0) c) (cond v one [])) ≡ monomial (pos 0) (x +ℤ cond v c (pos 0))
constant_more x c true =
    ap (plus (monomial (pos 0) x)) (times_one (monomial (pos 0) c) (laurent_constant c)) ∙ plus_constants x c
constant_more x c false =
    ap (plus (monomial (pos 0) x)) (times_nought (monomial (pos 0) c))
    ∙ plus_nought (monomial (pos 0) x) (laurent_constant x)
    ∙ ap (monomial (pos 0)) (plain x)
  where
    plain : (x : ℤ) → x ≡ x +ℤ pos 0
    plain x = omega (arith, ints)

-- One term more, added to the sum.
pub term_more : (n : ℕ) (ts : Terms) (kappa : List ℕ) (c : ℤ) → IsPartitionOf n kappa →
    scaled_sum (fock_vector n (constants ts)) (monomial (pos 0) c) (fock_vector n (unit kappa)) ≡
    fock_vector n (constants (ts ++ (kappa, c) ∷ []))
term_more n ts kappa c h =
    ap (λ es. record { degree = n; entries = es })
    (entries-alike n
    (plus_scaled (vector_of (entries n (constants ts))) (monomial (pos 0) c) (vector_of (entries n (unit kappa))))
    (constants (ts ++ (kappa, c) ∷ []))
    (λ lambda k.
    ap₂ (λ p q. plus p (times (monomial (pos 0) c) q)) (vector_of-entries n (constants ts) lambda k)
    (vector_of-entries n (unit kappa) lambda k)
    ∙ constant_more (total_at ts lambda) c (is_eq (compare kappa lambda))
    ∙ ap (monomial (pos 0)) (sym (total-snoc ts kappa c lambda))))

-- The sizes at a partition are at most the number of terms.
pub term_weight : (n : ℕ) (ts : Terms) (kappa : List ℕ) (c : ℤ) → AllByRecursion (λ t. unsigned_abs t.1 ≤ 1) ts →
    unsigned_abs c ≤ 1 →
    scaled_sum_weight (fock_vector n (constants ts)) (monomial (pos 0) c) (fock_vector n (unit kappa)) ≤ length ts + 1
term_weight n ts kappa c units small =
    greatest_within (length ts + 1) (map size_at (partitions n))
    (map_within size_at (length ts + 1) (partitions n)
    (all_weaken (IsPartitionOf n) (λ lambda. size_at lambda ≤ length ts + 1) (partitions n) here (all_partitions n)))
  where
    size_at : List ℕ → ℕ
    size_at lambda =
        size (vector_of (entries n (constants ts)) lambda)
        + size (monomial (pos 0) c) * size (vector_of (entries n (unit kappa)) lambda)

    of_unit : (v : Bool) → size (cond v one []) ≤ 1
    of_unit true = omega arith
    of_unit false = omega arith

    settle : {x : ℕ} (y m : ℕ) → x ≤ m → y ≤ 1 * 1 → x + y ≤ m + 1
    settle y m p q = omega arith

    here : (lambda : List ℕ) → IsPartitionOf n lambda → size_at lambda ≤ length ts + 1
    here lambda k =
        let first : size (vector_of (entries n (constants ts)) lambda) ≤ length ts =
        omega (
          arith,
          ap size (vector_of-entries n (constants ts) lambda k),
          size-monomial (pos 0) (total_at ts lambda),
          total_small ts lambda units,
        ) in
        let factor : size (monomial (pos 0) c) ≤ 1 = omega (arith, size-monomial (pos 0) c) in
        let second : size (vector_of (entries n (unit kappa)) lambda) ≤ 1 =
        omega (arith, ap size (vector_of-entries n (unit kappa) lambda k), of_unit (is_eq (compare kappa lambda))) in
        settle (size (monomial (pos 0) c) * size (vector_of (entries n (unit kappa)) lambda)) (length ts) first
        (mul-le-mul factor second)

-- ---- the loop over the terms

units_before : (ts : Terms) (i : ℕ) → AllByRecursion (λ t. unsigned_abs t.1 ≤ 1) ts →
    AllByRecursion (λ t. unsigned_abs t.1 ≤ 1) (take i ts)
units_before ts i h =
    all_take (λ t. unsigned_abs t.1 ≤ 1) ts i (λ k d lt within. all_at (λ t. unsigned_abs t.1 ≤ 1) ts k d h within)

-- So no sum is past its limit.
pub weight_within : (n : ℕ) (sum : FockVector) (ts : Terms) (i : ℕ) (kappa : List ℕ) (c : ℤ) →
    sum ≡ fock_vector n (constants (take i ts)) → AllByRecursion (λ t. unsigned_abs t.1 ≤ 1) ts → i < length ts →
    length ts < 2 ^ 64 → unsigned_abs c ≤ 1 → degree kappa ≡ n →
    scaled_sum_weight sum (monomial (pos 0) c) (fock_vector (degree kappa) (unit kappa)) < 2 ^ 64
weight_within n sum ts i kappa c is units lt few small same =
    let e : scaled_sum_weight sum (monomial (pos 0) c) (fock_vector (degree kappa) (unit kappa)) ≡
    scaled_sum_weight (fock_vector n (constants (take i ts))) (monomial (pos 0) c) (fock_vector n (unit kappa)) =
    ap₂ (λ v d. scaled_sum_weight v (monomial (pos 0) c) (fock_vector d (unit kappa))) is same in
    let within = term_weight n (take i ts) kappa c (units_before ts i units) small in
    settle (length-take-le i ts) e within lt few
  where
    length-take-le : (i : ℕ) (ts : Terms) → length (take i ts) ≤ i
    length-take-le i ts = omega (arith, length-take i ts)

    settle : {x y k i m : ℕ} → k ≤ i → x ≡ y → y ≤ k + 1 → i < m → m < 2 ^ 64 → x < 2 ^ 64
    settle p e q lt few = omega arith

-- The sum of the terms so far, and one more.
pub sum_more : (n : ℕ) (sum grown : FockVector) (ts : Terms) (i : ℕ) (item : List ℕ × ℤ) →
    sum ≡ fock_vector n (constants (take i ts)) → i < length ts → item ≡ get_or ts i item → IsPartitionOf n item.0 →
    grown ≡ scaled_sum sum (monomial (pos 0) item.1) (fock_vector (degree item.0) (unit item.0)) →
    grown ≡ fock_vector n (constants (take (i + 1) ts))
sum_more n sum grown ts i item is lt at h e =
    e
    ∙ ap₂ (λ v d. scaled_sum v (monomial (pos 0) item.1) (fock_vector d (unit item.0))) is h.total
    ∙ term_more n (take i ts) item.0 item.1 h
    ∙ ap (λ xs. fock_vector n (constants xs))
    (ap (λ t. take i ts ++ t ∷ []) at ∙ sym (take_more ts i item lt))
