-- A degree is that of the core and e times the weight.
use Rattle.std.proofs.Common.{◌≡◌, ℕ, ◌+◌, ◌*◌, ◌/◌, ◌%◌, ◌<◌, ◌≤◌, min, nat_eq, nat_lt, List}
use Rattle.std.proofs.Common.{filter, length, sym, ◌∙◌, ap, ap₂, subst, arith, sum, sum_by}
use Rattle.std.specs.List.{range_with_len}
use Rattle.std.proofs.lemmas.List.Sums.{length-filter, count_by-le-length}
use Rattle.std.proofs.lemmas.List.{length-map}
use native.Mathlib.Nat.{mod-lt}
use Rattle.sp_defs.specs.Partition.{degree, IsPartition}
use Rattle.sp_defs.specs.Abacus.{beta, shown, runner, slid, core, weight}
use Rattle.sp_lists.proofs.Elements.{range_all}
use Rattle.sp_lists.proofs.Counts.{sum-map}
use Rattle.sp_abacus_law.specs.Beads.{down, Falls}
use Rattle.sp_abacus_law.proofs.Falling.{length-down, down-falls, falls-filter}
use Rattle.sp_abacus_law.proofs.Numbers.{shown-beta, beta-falls}
use Rattle.sp_abacus_law.proofs.Shown.{degree-shown, shown-partition}
use Rattle.sp_lists.proofs.Sums.{sum-ones}
use Rattle.sp_abacus_law.proofs.Runners.{runner-falls, runner-sum, fallen, slid-under, runner-under}
use Rattle.sp_lists.proofs.Sums.{sum-alike, sum-plus, sum-times, sum-classes}

-- ---- numbers by their runners

abbrev height : ℕ → List ℕ → ℕ → ℕ
height e bs i = length (runner e bs i)

-- The sum of the numbers, runner by runner.
pub sum-runners : (e : ℕ) (bs : List ℕ) → 1 ≤ e →
    sum bs ≡ sum_by (λ i. i * length (runner e bs i) + e * sum (runner e bs i)) (range_with_len 0 e)
sum-runners e bs he =
    sum-classes e (λ b. b % e) (λ b. b) bs (λ b. mod-lt b he)
    ∙ sum-alike (λ i. sum_by (λ b. b) (filter (λ b. nat_eq (b % e) i) bs))
    (λ i. i * length (runner e bs i) + e * sum (runner e bs i)) (range_with_len 0 e)
    (range_all (λ i. sum_by (λ b. b) (filter (λ b. nat_eq (b % e) i) bs)
    ≡ i * length (runner e bs i) + e * sum (runner e bs i)) 0 e (λ i lo hi. runner-sum e i bs))

-- The number of beads, runner by runner.
pub length-runners : (e : ℕ) (bs : List ℕ) → 1 ≤ e →
    length bs ≡ sum_by (λ i. length (runner e bs i)) (range_with_len 0 e)
length-runners e bs he =
    sym (sum-ones bs)
    ∙ sum-classes e (λ b. b % e) (λ _. 1) bs (λ b. mod-lt b he)
    ∙ sum-alike (λ i. sum_by (λ _. 1) (filter (λ b. nat_eq (b % e) i) bs)) (λ i. length (runner e bs i))
    (range_with_len 0 e)
    (range_all (λ i. sum_by (λ _. 1) (filter (λ b. nat_eq (b % e) i) bs) ≡ length (runner e bs i)) 0 e
    (λ i lo hi. sum-ones (filter (λ b. nat_eq (b % e) i) bs)
    ∙ sym (length-map (filter (λ b. nat_eq (b % e) i) bs) (λ b. b / e))))

-- A runner has no more beads than there are.
pub runner-short : (e : ℕ) (bs : List ℕ) (i : ℕ) → length (runner e bs i) ≤ length bs
runner-short e bs i =
    omega (
      arith,
      length-map (filter (λ b. nat_eq (b % e) i) bs) (λ b. b / e),
      length-filter (λ b. nat_eq (b % e) i) bs,
      count_by-le-length (λ b. nat_eq (b % e) i) bs,
    )

-- ---- the beads slid down

-- A runner whose beads have slid down has them at its first places.
pub runner-fallen : (e : ℕ) (bs : List ℕ) (i : ℕ) → i < e → runner e (fallen e bs) i ≡ down (length (runner e bs i))
runner-fallen e bs i hi =
    runner-under e (height e bs) (length bs) i hi
    ∙ ap down (least (length bs) (height e bs i) (runner-short e bs i))
  where
    least : (k n : ℕ) → n ≤ k → min k n ≡ n
    least k n h = omega arith

-- The beads slid down fall,
pub fallen-falls : (e : ℕ) (bs : List ℕ) → Falls (fallen e bs)
fallen-falls e bs =
    falls-filter (λ b. nat_lt (b / e) (height e bs (b % e))) (down (length bs * e)) (down-falls (length bs * e))

-- and are as many as before.
pub length-fallen : (e : ℕ) (bs : List ℕ) → 1 ≤ e → length (fallen e bs) ≡ length bs
length-fallen e bs he =
    length-runners e (fallen e bs) he
    ∙ sum-alike (height e (fallen e bs)) (height e bs) (range_with_len 0 e)
    (range_all (λ i. height e (fallen e bs) i ≡ height e bs i) 0 e (λ i lo hi.
    ap length (runner-fallen e bs i (inside e i hi)) ∙ length-down (height e bs i)))
    ∙ sym (length-runners e bs he)
  where
    inside : (e i : ℕ) → i < 0 + e → i < e
    inside e i h = omega arith

-- So it is for the beads of a partition: a runner has its first places,
pub runner-slid : (e : ℕ) (parts : List ℕ) (i : ℕ) → i < e →
    runner e (slid e parts) i ≡ down (length (runner e (beta e parts) i))
runner-slid e parts i hi = ap (λ bs. runner e bs i) (slid-under e parts) ∙ runner-fallen e (beta e parts) i hi

-- the numbers fall,
pub slid-falls : (e : ℕ) (parts : List ℕ) → Falls (slid e parts)
slid-falls e parts = subst Falls (sym (slid-under e parts)) (fallen-falls e (beta e parts))

-- and they are as many as before.
pub length-slid : (e : ℕ) (parts : List ℕ) → 1 ≤ e → length (slid e parts) ≡ length (beta e parts)
length-slid e parts he = ap length (slid-under e parts) ∙ length-fallen e (beta e parts) he

-- The core is a partition.
pub core-partition : (e : ℕ) (parts : List ℕ) → IsPartition (core e parts)
core-partition e parts = shown-partition (slid e parts) (slid-falls e parts)

-- ---- the degree

-- The weight is the sum of the degrees that the runners show.
pub weight-runners : (e : ℕ) (parts : List ℕ) →
    weight e parts ≡ sum_by (λ i. degree (shown (runner e (beta e parts) i))) (range_with_len 0 e)
weight-runners e parts = sum-map degree (λ i. shown (runner e (beta e parts) i)) (range_with_len 0 e)

sum-slid : (e : ℕ) (parts : List ℕ) → 1 ≤ e → IsPartition parts →
    sum (beta e parts) ≡ sum (slid e parts) + e * weight e parts
sum-slid e parts he h =
    sum-runners e (beta e parts) he
    ∙ sum-alike (λ i. i * height e (beta e parts) i + e * sum (runner e (beta e parts) i))
    (λ i. (i * height e (slid e parts) i + e * sum (runner e (slid e parts) i))
    + e * degree (shown (runner e (beta e parts) i)))
    (range_with_len 0 e)
    (range_all (λ i. i * height e (beta e parts) i + e * sum (runner e (beta e parts) i)
    ≡ (i * height e (slid e parts) i + e * sum (runner e (slid e parts) i))
    + e * degree (shown (runner e (beta e parts) i))) 0 e (λ i lo hi. each i (omega arith)))
    ∙ sum-plus (λ i. i * height e (slid e parts) i + e * sum (runner e (slid e parts) i))
    (λ i. e * degree (shown (runner e (beta e parts) i))) (range_with_len 0 e)
    ∙ ap₂ (λ m n. m + n) (sym (sum-runners e (slid e parts) he))
    (sum-times e (λ i. degree (shown (runner e (beta e parts) i))) (range_with_len 0 e)
    ∙ ap (λ n. e * n) (sym (weight-runners e parts)))
  where
    joined : (i e l d t s l' t' : ℕ) → d + t ≡ s → l' ≡ l → t' ≡ t → i * l + e * s ≡ (i * l' + e * t') + e * d
    joined i e l d t s l' t' eq len same =
        ap (λ s. i * l + e * s) (sym eq)
        ∙ spread (i * l) e d t
        ∙ sym (ap₂ (λ l t. (i * l + e * t) + e * d) len same)
      where
        spread : (x e d t : ℕ) → x + e * (d + t) ≡ (x + e * t) + e * d
        spread x e d t = omega arith

    each : (i : ℕ) → i < e → i * height e (beta e parts) i + e * sum (runner e (beta e parts) i)
        ≡ (i * height e (slid e parts) i + e * sum (runner e (slid e parts) i))
        + e * degree (shown (runner e (beta e parts) i))
    each i hi =
        joined i e (height e (beta e parts) i) (degree (shown (runner e (beta e parts) i)))
        (sum (down (height e (beta e parts) i))) (sum (runner e (beta e parts) i)) (height e (slid e parts) i)
        (sum (runner e (slid e parts) i))
        (degree-shown (runner e (beta e parts) i) (runner-falls e (beta e parts) i he (beta-falls e parts h)))
        (ap length (runner-slid e parts i hi) ∙ length-down (height e (beta e parts) i))
        (ap sum (runner-slid e parts i hi))

-- The degree is that of the core, and e for each node of the quotient.
pub degree-core : (e : ℕ) (parts : List ℕ) → 1 ≤ e → IsPartition parts →
    degree parts ≡ degree (core e parts) + e * weight e parts
degree-core e parts he h =
    settle (degree parts) (sum (down (length (beta e parts)))) (sum (beta e parts)) (sum (slid e parts))
    (degree (core e parts)) (e * weight e parts)
    (ap (λ p. degree p + sum (down (length (beta e parts)))) (sym (shown-beta e parts he h))
    ∙ degree-shown (beta e parts) (beta-falls e parts h))
    (ap (λ n. degree (core e parts) + sum (down n)) (sym (length-slid e parts he))
    ∙ degree-shown (slid e parts) (slid-falls e parts))
    (sum-slid e parts he h)
  where
    settle : (n t s s' c w : ℕ) → n + t ≡ s → c + t ≡ s' → s ≡ s' + w → n ≡ c + w
    settle n t s s' c w p q r = omega arith
