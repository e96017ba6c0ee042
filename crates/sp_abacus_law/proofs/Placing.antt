-- Beads placed for a core and a quotient: how many, and how great their numbers are.
use Rattle.std.proofs.Common.{Bool, true, false, ◌<◌, refl}
use Rattle.std.proofs.Common.{◌≡◌, ℕ, zero, suc, ◌+◌, ◌-◌, ◌*◌, ◌/◌, ◌%◌, ◌≤◌, List, [], ◌∷◌}
use Rattle.std.proofs.Common.{length, sum_by, ◌∙◌, ap, arith, mul-le-mul_left}
use Rattle.std.specs.List.{AllByRecursion}
use Rattle.std.proofs.lemmas.List.Sums.{sum_by-cons}
use native.Mathlib.Nat.{div-add-mod, mod-lt}
use Rattle.sp_lists.proofs.Elements.{le_or_lt}
use Rattle.std.proofs.Common.{◌⊎◌, inl, inr}
use Rattle.sp_defs.specs.Partition.{degree, IsPartition}
use Rattle.sp_defs.specs.Abacus.{beads, core, weight}
use Rattle.sp_shapes.proofs.Degrees.{length-degree}
use Rattle.sp_abacus_law.specs.Combined.{beads_for, combined, combined_beads, places_for, placed, member}
use Rattle.sp_abacus_law.specs.Beads.{down}
use Rattle.sp_lists.proofs.Elements.{filter_all}
use Rattle.sp_lists.proofs.Places.{all_weaken}
use Rattle.sp_abacus_law.proofs.Members.{not_member}
use Rattle.sp_abacus_law.proofs.Bounds.{filter-same, falls-small, down-at}
use Rattle.sp_abacus_law.proofs.CoreQuotient.{places_low, set_total, set_falls}
use Rattle.sp_abacus_law.proofs.Weight.{degree-core}
use Rattle.sp_abacus_law.proofs.CoreQuotient.{combined_partition, combined_core, combined_quotient}

-- The quotient has no more parts than nodes.
pub lengths-degrees : (q : List (List ℕ)) → AllByRecursion IsPartition q → sum_by length q ≤ sum_by degree q
lengths-degrees [] h = omega arith
lengths-degrees (parts ∷ q) (h, hs) =
    omega (
      arith,
      sum_by-cons length parts q,
      sum_by-cons degree parts q,
      length-degree parts h,
      lengths-degrees q hs,
    )

-- So many rows in whole rounds: they are within the rows and one round more, and within 64.
rounds_few : (e n q r : ℕ) → e * q + r ≡ n + (e - 1) → 1 ≤ e → n ≤ 32 → e ≤ 64 →
    (q * e ≤ n + (e - 1)) × (q * e ≤ 64)
rounds_few e n q r eq he hn most = (omega arith, all q eq)
  where
    all : (q : ℕ) → e * q + r ≡ n + (e - 1) → q * e ≤ 64
    all zero eq = omega arith
    all (suc zero) eq = omega arith
    all (suc (suc q)) eq = omega arith

-- For a degree within 32 there are at most 64 beads: where the quotient has a part, e is at most 32, and the rows of
-- the core, the round that they begin and e beads for each part are within 63.
pub beads_for-few : (e : ℕ) (kappa : List ℕ) (q : List (List ℕ)) → 1 ≤ e → e ≤ 64 → IsPartition kappa →
    AllByRecursion IsPartition q → degree kappa + e * sum_by degree q ≤ 32 → beads_for e kappa q ≤ 64
beads_for-few e kappa q he most hk hq small =
    settle (sum_by length q) (sum_by degree q) (lengths-degrees q hq) small
  where
    rows : length kappa ≤ degree kappa
    rows = length-degree kappa hk

    own : (beads e kappa ≤ length kappa + (e - 1)) × (beads e kappa ≤ 64)
    own =
        rounds_few e (length kappa) ((length kappa + (e - 1)) / e) ((length kappa + (e - 1)) % e)
        (div-add-mod (length kappa + (e - 1)) e) he (omega (arith, rows)) most

    settle : (l d : ℕ) → l ≤ d → degree kappa + e * d ≤ 32 → beads e kappa + l * e ≤ 64
    settle zero d le small = omega (arith, own.1)
    settle (suc l) d le small =
        let times : e * suc l ≤ e * d = mul-le-mul_left e le in
        omega (arith, own.0, rows)

-- The degree is that of the core, and e for each node of the quotient.
pub degree-combined : (e : ℕ) (kappa : List ℕ) (q : List (List ℕ)) → 1 ≤ e → IsPartition kappa → length q ≡ e →
    AllByRecursion IsPartition q → core e kappa ≡ kappa →
    degree (combined e kappa q) ≡ degree kappa + e * sum_by degree q
degree-combined e kappa q he hk count hq own =
    degree-core e (combined e kappa q) he (combined_partition e he kappa q hk count hq)
    ∙ ap (λ c. degree c + e * weight e (combined e kappa q)) (combined_core e he kappa q hk count hq ∙ own)
    ∙ ap (λ qs. degree kappa + e * sum_by degree qs) (combined_quotient e he kappa q hk count hq)

-- ---- all numbers are below 96

member_past : (n p : ℕ) (xs : List ℕ) → AllByRecursion (λ c. c < n) xs → n ≤ p → member p xs ≡ false
member_past n p xs h le = not_member p xs (all_weaken (λ c. c < n) (λ c. c < p) xs (λ c lt. omega arith) h)

high_place : (e n b : ℕ) → 1 ≤ e → n * e ≤ b → n ≤ b / e
high_place e n b he le = settle (le_or_lt n (b / e))
  where
    settle : (n ≤ b / e) ⊎ (b / e < n) → n ≤ b / e
    settle (inl k) = k
    settle (inr k) = absurd (low (b / e) (b % e) k (div-add-mod b e) (mod-lt b he))
      where
        low : (q r : ℕ) → q < n → e * q + r ≡ b → r < e → ⊥
        low q r lt eq small = let more : e * (q + 1) ≤ e * n = mul-le-mul_left e (omega arith) in omega arith

-- So the walk down from 95 meets all beads.
pub beads-small : (e : ℕ) (kappa : List ℕ) (q : List (List ℕ)) → 1 ≤ e → e ≤ 64 → IsPartition kappa → length q ≡ e →
    AllByRecursion IsPartition q → core e kappa ≡ kappa → degree kappa + e * sum_by degree q ≤ 32 →
    placed e (places_for e kappa q) 96 ≡ combined_beads e kappa q
beads-small e kappa q he most hk count hq own small = filter-same test 96 (n * e) past above
  where
    n : ℕ
    n = sum_by degree q + beads_for e kappa q

    test : ℕ → Bool
    test b = member (b / e) (places_for e kappa q (b % e))

    past : (b : ℕ) → n * e ≤ b → b < 96 → test b ≡ false
    past b lo hi =
        member_past (sum_by degree q + beads_for e kappa q) (b / e) (places_for e kappa q (b % e))
        (places_low e he kappa q hk count hq (b % e) (mod-lt b he))
        (high_place e (sum_by degree q + beads_for e kappa q) b he lo)

    few : degree (combined e kappa q) + length (combined_beads e kappa q) ≤ 96
    few =
        omega (
          arith,
          degree-combined e kappa q he hk count hq own,
          beads_for-few e kappa q he most hk hq small,
          set_total e he kappa q hk count hq,
        )

    each : AllByRecursion (λ b. test b ≡ true → b < 96) (down (n * e))
    each =
        filter_all (λ c. c < 96) (λ b. member (b / e) (places_for e kappa q (b % e)))
        (down ((sum_by degree q + beads_for e kappa q) * e))
        (all_weaken (λ c. c < degree (combined e kappa q) + length (combined_beads e kappa q)) (λ c. c < 96)
        (combined_beads e kappa q) (λ c lt. omega (arith, few))
        (falls-small (combined_beads e kappa q) (set_falls e he kappa q hk count hq)))

    above : (b : ℕ) → 96 ≤ b → b < n * e → test b ≡ false
    above b lo hi = tested (test b) refl (down-at (λ b. test b ≡ true → b < 96) (n * e) b each hi)
      where
        tested : (v : Bool) → test b ≡ v → (test b ≡ true → b < 96) → test b ≡ false
        tested false t f = t
        tested true t f = absurd (let lt = f t in omega arith)
