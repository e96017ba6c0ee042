-- How great the numbers are, and the quotient's degrees.
use Rattle.std.proofs.Common.{◌≡◌, ℕ, zero, suc, ◌+◌, ◌-◌, ◌*◌, ◌/◌, ◌%◌, ◌<◌, ◌≤◌, Bool, true, false, cond, nat_lt}
use Rattle.std.proofs.Common.{List, [], ◌∷◌, filter, length, refl, sym, ◌∙◌, ap, subst, arith}
use Rattle.std.proofs.Common.{le-ltb, mul-le-mul_left, mul-le-mul_right, ◌⊎◌, inl, inr}
use Rattle.std.specs.List.{AllByRecursion}
use Rattle.std.proofs.lemmas.List.Sums.{sum_by-cons}
use native.Mathlib.Nat.{div-add-mod, mod-lt}
use Rattle.sp_defs.specs.Partition.{degree, IsPartition}
use Rattle.sp_defs.specs.Abacus.{beta, shown, runner, slid, core, weight}
use Rattle.sp_lists.proofs.Elements.{le_or_lt, filter_all}
use Rattle.sp_lists.proofs.Places.{all_weaken}
use Rattle.sp_abacus_law.specs.Beads.{down, Falls}
use Rattle.sp_abacus_law.proofs.Numbers.{shown-more}
use Rattle.sp_abacus_law.proofs.Runners.{under, slid-under}
use Rattle.sp_abacus_law.proofs.Weight.{degree-core, weight-runners, runner-short, slid-falls, length-slid}
use Rattle.sp_lists.proofs.Sums.{term-le-sum}

-- Numbers are below their count and the degree of what they show.
pub falls-small : (bs : List ℕ) → Falls bs → AllByRecursion (λ c. c < degree (shown bs) + length bs) bs
falls-small [] f = tt
falls-small (b ∷ below) f = (
  first,
  all_weaken (λ c. c < b) (λ c. c < degree (shown (b ∷ below)) + suc (length below))
      below (λ c lt. omega (arith, first)) f.0,
)
  where
    settle : (b ≤ length below) ⊎ (length below < b) → b < degree (shown (b ∷ below)) + suc (length below)
    settle (inl h) = omega arith
    settle (inr h) =
        let one = ap degree (shown-more b below h) in
        let two = sum_by-cons (λ x. x) (b - length below) (shown below) in
        omega arith

    first : b < degree (shown (b ∷ below)) + suc (length below)
    first = settle (le_or_lt b (length below))

-- ---- degrees within the partition's own

-- The core has no more nodes than the partition,
pub degree-core-le : (e : ℕ) (parts : List ℕ) → 1 ≤ e → IsPartition parts → degree (core e parts) ≤ degree parts
degree-core-le e parts he h = omega (arith, degree-core e parts he h)

-- nor has an entry of the quotient.
pub degree-runner-le : (e : ℕ) (parts : List ℕ) (i : ℕ) → 1 ≤ e → i < e → IsPartition parts →
    degree (shown (runner e (beta e parts) i)) ≤ degree parts
degree-runner-le e parts i he hi h =
    settle (degree (shown (runner e (beta e parts) i))) (weight e parts) (degree (core e parts)) (degree parts)
    (omega (
      arith,
      weight-runners e parts,
      term-le-sum (λ i. degree (shown (runner e (beta e parts) i))) 0 e i (omega arith) (omega arith),
    ))
    (degree-core e parts he h)
  where
    settle : (d w c n : ℕ) → d ≤ w → n ≡ c + e * w → d ≤ n
    settle d w c n le eq = let more : 1 * w ≤ e * w = mul-le-mul_right w he in omega arith

-- ---- the numbers of the beads slid down

-- What holds of the numbers below n holds of each.
pub down-at : (P : ℕ → Type 0) (n b : ℕ) → AllByRecursion P (down n) → b < n → P b
down-at P zero b h lt = absurd (omega arith)
down-at P (suc n) b (h, hs) lt = settle (le_or_lt n b) (λ k. down-at P n b hs k)
  where
    settle : (n ≤ b) ⊎ (b < n) → (b < n → P b) → P b
    settle (inl le) more = subst P (same le lt) h
      where
        same : n ≤ b → b < suc n → n ≡ b
        same p q = omega arith
    settle (inr k) more = more k

-- More numbers that fail a test.
filter-more : (t : ℕ → Bool) (n d : ℕ) → ((b : ℕ) → n ≤ b → b < n + d → t b ≡ false) →
    filter t (down (n + d)) ≡ filter t (down n)
filter-more t n zero h = ap (λ m. filter t (down m)) (plain n)
  where
    plain : (n : ℕ) → n + 0 ≡ n
    plain n = omega arith
filter-more t n (suc d) h =
    ap (λ m. filter t (down m)) (next n d)
    ∙ ap (λ v. cond v ((n + d) ∷ filter t (down (n + d))) (filter t (down (n + d))))
    (h (n + d) (omega arith) (omega arith))
    ∙ filter-more t n d (λ b lo hi. h b lo (omega arith))
  where
    next : (n d : ℕ) → n + suc d ≡ suc (n + d)
    next n d = omega arith

-- Past all that pass the number of numbers does not matter.
pub filter-same : (t : ℕ → Bool) (m n : ℕ) → ((b : ℕ) → n ≤ b → b < m → t b ≡ false) →
    ((b : ℕ) → m ≤ b → b < n → t b ≡ false) → filter t (down m) ≡ filter t (down n)
filter-same t m n h k = settle (le_or_lt m n)
  where
    back : (m n : ℕ) → m ≤ n → n ≡ m + (n - m)
    back m n le = omega arith

    settle : (m ≤ n) ⊎ (n < m) → filter t (down m) ≡ filter t (down n)
    settle (inl le) =
        sym (filter-more t m (n - m) (λ b lo hi. k b lo (omega arith)))
        ∙ sym (ap (λ x. filter t (down x)) (back m n le))
    settle (inr lt) =
        ap (λ x. filter t (down x)) (back n m (omega arith)) ∙ filter-more t n (m - n) (λ b lo hi. h b lo (omega arith))

-- A bead slid down has its number below the degree and the number of beads.
pub slid-small : (e : ℕ) (parts : List ℕ) → 1 ≤ e → IsPartition parts → (n : ℕ) →
    degree parts + length (beta e parts) ≤ n → slid e parts ≡ under e (λ i. length (runner e (beta e parts) i)) n
slid-small e parts he h n le =
    slid-under e parts ∙ filter-same test (length (beta e parts) * e) n above past
  where
    test : ℕ → Bool
    test b = nat_lt (b / e) (length (runner e (beta e parts) (b % e)))

    small : AllByRecursion (λ c. c < degree parts + length (beta e parts)) (slid e parts)
    small =
        let within = degree-core-le e parts he h in
        let same = length-slid e parts he in
        all_weaken (λ c. c < degree (core e parts) + length (slid e parts))
        (λ c. c < degree parts + length (beta e parts)) (slid e parts) (λ c lt. omega arith)
        (falls-small (slid e parts) (slid-falls e parts))

    each : AllByRecursion (λ b. test b ≡ true → b < degree parts + length (beta e parts))
        (down (length (beta e parts) * e))
    each =
        filter_all (λ c. c < degree parts + length (beta e parts)) test (down (length (beta e parts) * e))
        (subst (AllByRecursion (λ c. c < degree parts + length (beta e parts))) (slid-under e parts) small)

    above : (b : ℕ) → n ≤ b → b < length (beta e parts) * e → test b ≡ false
    above b lo hi =
        tested (test b) refl
        (down-at (λ b. test b ≡ true → b < degree parts + length (beta e parts)) (length (beta e parts) * e) b each hi)
      where
        tested : (v : Bool) → test b ≡ v → (test b ≡ true → b < degree parts + length (beta e parts)) → test b ≡ false
        tested false t f = t
        tested true t f = absurd (let lt = f t in omega arith)

    past : (b : ℕ) → length (beta e parts) * e ≤ b → b < n → test b ≡ false
    past b lo hi =
        le-ltb (b / e) (length (runner e (beta e parts) (b % e)))
        (omega (arith, runner-short e (beta e parts) (b % e), high))
      where
        high : length (beta e parts) ≤ b / e
        high = settle (le_or_lt (length (beta e parts)) (b / e))
          where
            settle : (length (beta e parts) ≤ b / e) ⊎ (b / e < length (beta e parts)) → length (beta e parts) ≤ b / e
            settle (inl k) = k
            settle (inr k) =
                absurd (low (length (beta e parts)) (b / e) (b % e) k lo (div-add-mod b e) (mod-lt b he))
              where
                low : (k q r : ℕ) → q < k → k * e ≤ b → e * q + r ≡ b → r < e → ⊥
                low k q r lt le eq small =
                    let more : e * (q + 1) ≤ e * k = mul-le-mul_left e (omega arith) in omega arith
