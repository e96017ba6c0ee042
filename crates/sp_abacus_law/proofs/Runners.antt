-- The runners: their beads, and those of the beads slid down.
use Rattle.std.proofs.Common.{◌≡◌, ℕ, zero, suc, ◌+◌, ◌*◌, ◌/◌, ◌%◌, ◌<◌, ◌≤◌, min, Bool, true, false, cond}
use Rattle.std.proofs.Common.{nat_eq, nat_lt, List, [], ◌∷◌, ◌&&◌, map, filter, length, reverse, refl, sym, ◌∙◌}
use Rattle.std.proofs.Common.{ap, ap₂, subst, arith, sum, sum_by, eq-eqb, eqb-true, lt-ltb, le-ltb}
use Rattle.std.proofs.Common.{◌⊎◌, inl, inr, eq-or-lt_of_le, mul-le-mul_left}
use Rattle.std.specs.List.{range_with_len}
use Rattle.std.proofs.lemmas.List.Sums.{sum_by-cons}
use Rattle.std.proofs.lemmas.List.Elements.{filter_agree}
use Rattle.std.proofs.lemmas.List.{reverse-append}
use Rattle.std.proofs.lemmas.Nat.{mod-mul-add, div-mul-add}
use native.Mathlib.Nat.{div-add-mod}
use Rattle.sp_defs.specs.Abacus.{beta, runner, slid}
use Rattle.sp_lists.proofs.Elements.{le_or_lt, all_map, all_filter, filter_twice, range_snoc}
use Rattle.sp_lists.proofs.Places.{all_weaken}
use Rattle.sp_abacus_law.specs.Beads.{down, Falls}
use Rattle.std.proofs.Common.{ne_eqb}
use Rattle.std.proofs.Math.Bool.{and-true, and-false}
use Rattle.sp_lists.proofs.Maps.{filter-map}

-- One bead more, in front.
pub runner-cons : (e b : ℕ) (bs : List ℕ) (i : ℕ) →
    runner e (b ∷ bs) i ≡ cond (nat_eq (b % e) i) ((b / e) ∷ runner e bs i) (runner e bs i)
runner-cons e b bs i = tested (nat_eq (b % e) i) (filter (λ b. nat_eq (b % e) i) bs)
  where
    tested : (v : Bool) (rest : List ℕ) →
        map (λ b. b / e) (cond v (b ∷ rest) rest) ≡ cond v ((b / e) ∷ map (λ b. b / e) rest) (map (λ b. b / e) rest)
    tested true rest = refl
    tested false rest = refl

-- Of two numbers on one runner the less stands lower.
place-lt : (e b c i : ℕ) → 1 ≤ e → b % e ≡ i → c < b → c % e ≡ i → c / e < b / e
place-lt e b c i he hb lt hc = settle (le_or_lt (b / e) (c / e))
  where
    settle : (b / e ≤ c / e) ⊎ (c / e < b / e) → c / e < b / e
    settle (inl h) =
        absurd (less e (b / e) (c / e) i h (omega (arith, div-add-mod b e)) (omega (arith, div-add-mod c e)))
      where
        less : (e m n i : ℕ) → m ≤ n → b ≡ e * m + i → c ≡ e * n + i → ⊥
        less e m n i h hb hc = absurd (let k : e * m ≤ e * n = mul-le-mul_left e h in omega arith)
    settle (inr h) = h

-- The places on a runner fall.
pub runner-falls : (e : ℕ) (bs : List ℕ) (i : ℕ) → 1 ≤ e → Falls bs → Falls (runner e bs i)
runner-falls e [] i he f = tt
runner-falls e (b ∷ bs) i he (low, f) =
    subst Falls (sym (runner-cons e b bs i)) (tested (nat_eq (b % e) i) refl (runner-falls e bs i he f))
  where
    tested : (v : Bool) → nat_eq (b % e) i ≡ v → Falls (runner e bs i) →
        Falls (cond v ((b / e) ∷ runner e bs i) (runner e bs i))
    tested false t rest = rest
    tested true t rest = (
      all_map (λ p. p < b / e) (λ b. b / e) (filter (λ b. nat_eq (b % e) i) bs)
          (all_filter (λ c. c / e < b / e) (λ b. nat_eq (b % e) i) bs
          (all_weaken (λ c. c < b) (λ c. nat_eq (c % e) i ≡ true → c / e < b / e) bs
          (λ c lt tc. place-lt e b c i he (eqb-true (b % e) i t) lt (eqb-true (c % e) i tc)) low)),
      rest,
    )

-- The sum of the numbers on a runner, by their places.
pub runner-sum : (e i : ℕ) (bs : List ℕ) →
    sum_by (λ b. b) (filter (λ b. nat_eq (b % e) i) bs) ≡ i * length (runner e bs i) + e * sum (runner e bs i)
runner-sum e i [] = omega arith
runner-sum e i (b ∷ bs) =
    tested (nat_eq (b % e) i) refl (filter (λ b. nat_eq (b % e) i) bs) (runner-sum e i bs)
  where
    places : List ℕ → List ℕ
    places rest = map (λ b. b / e) rest

    joined : (i e b s l r q : ℕ) → e * q + i ≡ b → s ≡ i * l + e * r → b + s ≡ i * suc l + e * (q + r)
    joined i e b s l r q eq h = omega arith

    tested : (v : Bool) → nat_eq (b % e) i ≡ v → (rest : List ℕ) →
        sum_by (λ b. b) rest ≡ i * length (map (λ b. b / e) rest) + e * sum (map (λ b. b / e) rest) →
        sum_by (λ b. b) (cond v (b ∷ rest) rest)
        ≡ i * length (map (λ b. b / e) (cond v (b ∷ rest) rest)) + e * sum (map (λ b. b / e) (cond v (b ∷ rest) rest))
    tested false t rest h = h
    tested true t rest h =
        sum_by-cons (λ b. b) b rest
        ∙ joined i e b (sum_by (λ b. b) rest) (length (map (λ b. b / e) rest)) (sum (map (λ b. b / e) rest)) (b / e)
        (ap (λ r. e * (b / e) + r) (sym (eqb-true (b % e) i t)) ∙ div-add-mod b e) h
        ∙ sym (ap (λ s. i * suc (length (map (λ b. b / e) rest)) + e * s)
        (sum_by-cons (λ x. x) (b / e) (map (λ b. b / e) rest)))

-- ---- all numbers below k * e: each place below k of each runner

part-down : (e i k : ℕ) → i < e → runner e (down (k * e)) i ≡ down k → (j : ℕ) → j ≤ e →
    runner e (down (k * e + j)) i ≡ cond (nat_lt i j) (k ∷ down k) (down k)
part-down e i k hi h zero hj =
    ap (λ n. runner e (down n) i) (plain (k * e))
    ∙ h
    ∙ sym (ap (λ v. cond v (k ∷ down k) (down k)) (le-ltb i 0 (omega arith)))
  where
    plain : (n : ℕ) → n + 0 ≡ n
    plain n = omega arith
part-down e i k hi h (suc j) hj =
    ap (λ n. runner e (down n) i) (one_more (k * e) j)
    ∙ runner-cons e (k * e + j) (down (k * e + j)) i
    ∙ ap₂ (λ m q. cond (nat_eq m i) (q ∷ runner e (down (k * e + j)) i) (runner e (down (k * e + j)) i))
    (mod-mul-add k e j hj) (div-mul-add k e j hj)
    ∙ ap (λ r. cond (nat_eq j i) (k ∷ r) r) (part-down e i k hi h j (omega arith))
    ∙ settle (le_or_lt j i)
  where
    one_more : (n j : ℕ) → n + suc j ≡ suc (n + j)
    one_more n j = omega arith

    row : Bool → List ℕ
    row v = cond v (k ∷ down k) (down k)

    settle : (j ≤ i) ⊎ (i < j) →
        cond (nat_eq j i) (k ∷ cond (nat_lt i j) (k ∷ down k) (down k)) (cond (nat_lt i j) (k ∷ down k) (down k))
        ≡ cond (nat_lt i (suc j)) (k ∷ down k) (down k)
    settle (inr lt) =
        ap₂ (λ v w. cond v (k ∷ cond w (k ∷ down k) (down k)) (cond w (k ∷ down k) (down k)))
        (ne_eqb j i (λ same. omega arith)) (lt-ltb i j lt)
        ∙ sym (ap (λ v. cond v (k ∷ down k) (down k)) (lt-ltb i (suc j) (omega arith)))
    settle (inl le) = exact (eq-or-lt_of_le le)
      where
        exact : (j ≡ i) ⊎ (j < i) →
            cond (nat_eq j i) (k ∷ cond (nat_lt i j) (k ∷ down k) (down k)) (cond (nat_lt i j) (k ∷ down k) (down k))
            ≡ cond (nat_lt i (suc j)) (k ∷ down k) (down k)
        exact (inl e) =
            ap₂ (λ v w. cond v (k ∷ cond w (k ∷ down k) (down k)) (cond w (k ∷ down k) (down k)))
            (eq-eqb j i e) (le-ltb i j (omega arith))
            ∙ sym (ap (λ v. cond v (k ∷ down k) (down k)) (lt-ltb i (suc j) (omega arith)))
        exact (inr lt) =
            ap₂ (λ v w. cond v (k ∷ cond w (k ∷ down k) (down k)) (cond w (k ∷ down k) (down k)))
            (ne_eqb j i (λ same. omega arith)) (le-ltb i j (omega arith))
            ∙ sym (ap (λ v. cond v (k ∷ down k) (down k)) (le-ltb i (suc j) (omega arith)))

-- Of the first k times e numbers each runner has its first k places.
pub runner-down : (e i k : ℕ) → i < e → runner e (down (k * e)) i ≡ down k
runner-down e i zero hi = ap (λ n. runner e (down n) i) (nought e)
  where
    nought : (e : ℕ) → 0 * e ≡ 0
    nought e = omega arith
runner-down e i (suc k) hi =
    ap (λ n. runner e (down n) i) (next k e)
    ∙ part-down e i k hi (runner-down e i k hi) e (omega arith)
    ∙ ap (λ v. cond v (k ∷ down k) (down k)) (lt-ltb i e hi)
  where
    next : (k e : ℕ) → suc k * e ≡ k * e + e
    next k e = omega arith

filter-down : (n k : ℕ) → filter (λ p. nat_lt p n) (down k) ≡ down (min k n)
filter-down n zero = ap down (least n)
  where
    least : (n : ℕ) → 0 ≡ min 0 n
    least n = omega arith
filter-down n (suc k) =
    ap (λ r. cond (nat_lt k n) (k ∷ r) r) (filter-down n k)
    ∙ settle (le_or_lt n k)
  where
    settle : (n ≤ k) ⊎ (k < n) → cond (nat_lt k n) (k ∷ down (min k n)) (down (min k n)) ≡ down (min (suc k) n)
    settle (inl h) =
        ap (λ v. cond v (k ∷ down (min k n)) (down (min k n))) (le-ltb k n h) ∙ ap down (omega arith)
    settle (inr h) =
        ap (λ v. cond v (k ∷ down (min k n)) (down (min k n))) (lt-ltb k n h)
        ∙ ap (λ m. k ∷ down m) (within h)
        ∙ ap down (whole h)
      where
        within : k < n → min k n ≡ k
        within h = omega arith

        whole : k < n → suc k ≡ min (suc k) n
        whole h = omega arith

-- ---- beads slid down

-- The numbers below n, from the greatest.
pub down-range : (n : ℕ) → reverse (range_with_len 0 n) ≡ down n
down-range zero = refl
down-range (suc n) =
    ap reverse (range_snoc 0 n)
    ∙ reverse-append (range_with_len 0 n) ((0 + n) ∷ [])
    ∙ ap₂ (λ x xs. x ∷ xs) (plain n) (down-range n)
  where
    plain : (n : ℕ) → 0 + n ≡ n
    plain n = omega arith

-- The numbers below n whose place is below a height of their runner.
abbrev pub under : ℕ → (ℕ → ℕ) → ℕ → List ℕ
under e height n = filter (λ b. nat_lt (b / e) (height (b % e))) (down n)

-- The beads of an abacus after all have slid down.
abbrev pub fallen : ℕ → List ℕ → List ℕ
fallen e bs = under e (λ i. length (runner e bs i)) (length bs * e)

-- The beads slid down stand below the heights of their runners.
pub slid-under : (e : ℕ) (parts : List ℕ) → slid e parts ≡ fallen e (beta e parts)
slid-under e parts =
    ap (λ bs. filter (λ b. nat_lt (b / e) (length (runner e (beta e parts) (b % e)))) bs)
    (down-range (length (beta e parts) * e))

abbrev on : ℕ → ℕ → ℕ → Bool
on e i b = nat_eq (b % e) i

kept_on : (e i : ℕ) (t : ℕ → ℕ → Bool) (b : ℕ) → (t (b / e) (b % e) && on e i b) ≡ (on e i b && t (b / e) i)
kept_on e i t b = tested (on e i b) refl
  where
    tested : (v : Bool) → on e i b ≡ v → (t (b / e) (b % e) && v) ≡ (v && t (b / e) i)
    tested true same = and-true (t (b / e) (b % e)) ∙ ap (t (b / e)) (eqb-true (b % e) i same)
    tested false same = and-false (t (b / e) (b % e))

-- Of beads kept by a test of place and runner, a runner has the places that pass the test.
pub runner-kept : (e i : ℕ) (t : ℕ → ℕ → Bool) (bs : List ℕ) →
    runner e (filter (λ b. t (b / e) (b % e)) bs) i ≡ filter (λ p. t p i) (runner e bs i)
runner-kept e i t bs =
    ap (map (λ b. b / e))
    (filter_twice (on e i) (λ b. t (b / e) (b % e)) bs
    ∙ filter_agree (λ b. t (b / e) (b % e) && on e i b) (λ b. on e i b && t (b / e) i) (kept_on e i t) bs
    ∙ sym (filter_twice (λ b. t (b / e) i) (on e i) bs))
    ∙ sym (filter-map (λ p. t p i) (λ b. b / e) (filter (on e i) bs))

-- Of the numbers below some heights a runner has the places below its own.
pub runner-under : (e : ℕ) (height : ℕ → ℕ) (k i : ℕ) → i < e →
    runner e (under e height (k * e)) i ≡ down (min k (height i))
runner-under e height k i hi =
    runner-kept e i (λ p j. nat_lt p (height j)) (down (k * e))
    ∙ ap (filter (λ p. nat_lt p (height i))) (runner-down e i k hi)
    ∙ filter-down (height i) k
