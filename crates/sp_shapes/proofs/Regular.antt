-- What e-regularity says of the rows: a part that is not 0 is less than the part e - 1 rows above it. So a node stands
-- on an earlier ladder than the first place right of any higher row.
use Rattle.std.proofs.Common.{◌≡◌, ℕ, zero, suc, ◌+◌, ◌-◌, ◌*◌, ◌/◌, ◌%◌, ◌<◌, ◌≤◌, true, cond, List, [], ◌∷◌, length}
use Rattle.std.proofs.Common.{sym, ap, subst, arith, count_by, nat_eq, nat_lt, slice_index, ◌⊎◌, inl, inr, eq-eqb}
use Rattle.std.proofs.Common.{ltb-true, mul-le-mul_left, le_trans}
use native.Mathlib.Nat.{div-add-mod, mod-lt}
use Rattle.std.proofs.lemmas.List.Sums.{sum_by-cons, AllPass-from_list_all}
use Rattle.sp_defs.specs.Partition.{IsPartition, is_regular}
use Rattle.sp_lists.proofs.Elements.{le_or_lt}

-- n parts that are p, from place i on
equal_run : (xs : List ℕ) (p i n : ℕ) → 0 < p → ((j : ℕ) → j < n → slice_index xs (i + j) ≡ p) →
    n ≤ count_by (λ q. nat_eq q p) xs
equal_run xs p i zero hp f = omega arith
equal_run [] p i (suc n) hp f = absurd (let z : 0 ≡ p = f 0 (omega arith) in omega arith)
equal_run (x ∷ xs) p zero (suc n) hp f =
    let first : x ≡ p = f 0 (omega arith) in
    let ih : n ≤ count_by (λ q. nat_eq q p) xs = equal_run xs p 0 n hp
    (λ j h. subst (λ m. slice_index xs m ≡ p) (sym (plain j))
    (subst (λ m. slice_index (x ∷ xs) m ≡ p) (plain' j) (f (suc j) (omega arith)))) in
    let s : count_by (λ q. nat_eq q p) (x ∷ xs) ≡ cond (nat_eq x p) 1 0 + count_by (λ q. nat_eq q p) xs =
    sum_by-cons (λ q. cond (nat_eq q p) 1 0) x xs in
    let t : ◌≡◌ {A = ℕ} (cond (nat_eq x p) 1 0) 1 = ap (λ b. cond b 1 0) (eq-eqb x p first) in
    omega (arith, ih, s, t)
  where
    plain : (j : ℕ) → 0 + j ≡ j
    plain j = omega arith

    plain' : (j : ℕ) → 0 + suc j ≡ suc j
    plain' j = omega arith
equal_run (x ∷ xs) p (suc i) (suc n) hp f =
    let ih : suc n ≤ count_by (λ q. nat_eq q p) xs = equal_run xs p i (suc n) hp
    (λ j h. subst (λ m. slice_index (x ∷ xs) m ≡ p) (moved i j) (f j h)) in
    let s : count_by (λ q. nat_eq q p) (x ∷ xs) ≡ cond (nat_eq x p) 1 0 + count_by (λ q. nat_eq q p) xs =
    sum_by-cons (λ q. cond (nat_eq q p) 1 0) x xs in
    omega (arith, ih, s)
  where
    moved : (i j : ℕ) → suc i + j ≡ suc (i + j)
    moved i j = omega arith

-- ---- places

-- a part that is not 0 stands within the list
pub index_short : (xs : List ℕ) (k : ℕ) → 0 < slice_index xs k → k < length xs
index_short [] k h = absurd (omega arith)
index_short (x ∷ xs) zero h = omega arith
index_short (x ∷ xs) (suc k) h = let ih : k < length xs = index_short xs k h in omega arith

-- parts descend over any distance
pub descends : (mu : List ℕ) → IsPartition mu → (i d : ℕ) → slice_index mu (i + d) ≤ slice_index mu i
descends mu pm i zero = subst (λ n. slice_index mu n ≤ slice_index mu i) (plain i) (omega arith)
  where
    plain : (i : ℕ) → i ≡ i + 0
    plain i = omega arith
descends mu pm i (suc d) =
    le_trans (subst (λ n. slice_index mu n ≤ slice_index mu (i + d)) (moved i d) (pm.descending (i + d)))
    (descends mu pm i d)
  where
    moved : (i d : ℕ) → i + d + 1 ≡ i + suc d
    moved i d = omega arith

-- ---- gaps between rows

-- e rows further down, counted with the first, a part that is not 0 is less
pub regular_gap : (e : ℕ) (mu : List ℕ) → 1 ≤ e → IsPartition mu → is_regular e mu ≡ true → (i : ℕ) →
    0 < slice_index mu (i + (e - 1)) → slice_index mu (i + (e - 1)) < slice_index mu i
regular_gap e mu he pm reg i h = settle (le_or_lt (slice_index mu i) (slice_index mu (i + (e - 1))))
  where
    p : ℕ
    p = slice_index mu (i + (e - 1))

    few : count_by (λ q. nat_eq q p) mu < e
    few = ltb-true (count_by (λ q. nat_eq q p) mu) e
        (AllPass-from_list_all (λ p. nat_lt (count_by (λ q. nat_eq q p) mu) e) mu reg (i + (e - 1)) 0
        (index_short mu (i + (e - 1)) h))

    settle : (slice_index mu i ≤ p) ⊎ (p < slice_index mu i) → p < slice_index mu i
    settle (inr l) = l
    settle (inl l) =
        absurd (let many : e ≤ count_by (λ q. nat_eq q p) mu = equal_run mu p i e h same in omega (arith, few, many))
      where
        same : (j : ℕ) → j < e → slice_index mu (i + j) ≡ p
        same j hj =
            let a : slice_index mu (i + j) ≤ slice_index mu i = descends mu pm i j in
            let b : p ≤ slice_index mu (i + j) = subst (λ n. slice_index mu n ≤ slice_index mu (i + j))
            (moved (omega arith)) (descends mu pm (i + j) (e - 1 - j)) in
            omega (arith, a, b, l)
          where
            moved : j ≤ e - 1 → i + j + (e - 1 - j) ≡ i + (e - 1)
            moved h = omega arith

-- and d times as far down it is less by d
pub wide_gap : (e : ℕ) (mu : List ℕ) → 1 ≤ e → IsPartition mu → is_regular e mu ≡ true → (d i k : ℕ) →
    i + d * (e - 1) ≤ k → 0 < slice_index mu k → slice_index mu k + d ≤ slice_index mu i
wide_gap e mu he pm reg zero i k h w = subst (λ n. n ≤ slice_index mu i) (plain (slice_index mu k))
    (subst (λ n. slice_index mu n ≤ slice_index mu i) (back (omega arith)) (descends mu pm i (k - i)))
  where
    plain : (n : ℕ) → n ≡ n + 0
    plain n = omega arith

    back : i ≤ k → i + (k - i) ≡ k
    back h = omega arith
wide_gap e mu he pm reg (suc d) i k h w = finish (wide_gap e mu he pm reg d i (k - (e - 1)))
  where
    h' : i + d * (e - 1) + (e - 1) ≤ k
    h' = sides (e - 1) i d k h
      where
        sides : (f i d k : ℕ) → i + suc d * f ≤ k → i + d * f + f ≤ k
        sides f i d k h = omega arith

    back : k - (e - 1) + (e - 1) ≡ k
    back = omega arith

    w' : 0 < slice_index mu (k - (e - 1) + (e - 1))
    w' = subst (λ n. 0 < slice_index mu n) (sym back) w

    gap : slice_index mu (k - (e - 1) + (e - 1)) < slice_index mu (k - (e - 1))
    gap = regular_gap e mu he pm reg (k - (e - 1)) w'

    finish : (i + d * (e - 1) ≤ k - (e - 1) → 0 < slice_index mu (k - (e - 1)) →
        slice_index mu (k - (e - 1)) + d ≤ slice_index mu i) → slice_index mu k + suc d ≤ slice_index mu i
    finish ih =
        let a = ih (omega (arith, h')) (omega (arith, gap)) in
        let b : slice_index mu k < slice_index mu (k - (e - 1)) =
        subst (λ n. slice_index mu n < slice_index mu (k - (e - 1))) back gap in
        omega (arith, a, b)

-- a node of a lower row has an earlier ladder than the first place right of a higher row
pub lower_earlier : (e : ℕ) (mu : List ℕ) → 2 ≤ e → IsPartition mu → is_regular e mu ≡ true → (i k c : ℕ) → i < k →
    1 ≤ c → c ≤ slice_index mu k → 1 + k + (e - 1) * (c - 1) < 1 + i + (e - 1) * slice_index mu i
lower_earlier e mu he pm reg i k c hik hc w =
    finish (e - 1) ((k - i) / (e - 1)) ((k - i) % (e - 1)) (c - 1) (slice_index mu i) (div-add-mod (k - i) (e - 1))
    (mod-lt (k - i) (omega arith))
    (let g : slice_index mu k + (k - i) / (e - 1) ≤ slice_index mu i =
    wide_gap e mu (omega arith) pm reg ((k - i) / (e - 1)) i k
    (within (e - 1) ((k - i) / (e - 1)) ((k - i) % (e - 1)) (div-add-mod (k - i) (e - 1))) (omega arith) in
    omega arith)
  where
    within : (f d rest : ℕ) → f * d + rest ≡ k - i → i + d * f ≤ k
    within f d rest eq = omega arith

    finish : (f d rest x m : ℕ) → f * d + rest ≡ k - i → rest < f → x + d + 1 ≤ m → 1 + k + f * x < 1 + i + f * m
    finish f d rest x m eq lo h = let p : f * (x + d + 1) ≤ f * m = mul-le-mul_left f h in omega arith
