-- The beads of a partition, and the sign of a term.
use Rattle.std.proofs.Common.{◌≡◌, ◌≢◌, ℕ, ◌%◌, ◌≤◌, true, false, cond, nat_eq, List}
use Rattle.std.proofs.Common.{length, sym, ◌∙◌, ap, subst, arith, ℤ, pos, negsuc, ◌*ℤ◌, neg_ℤ}
use Rattle.std.proofs.lemmas.Bool.Decides.{nat_tests}
use Rattle.std.proofs.lemmas.Int.{ints}
use Rattle.sp_defs.specs.Partition.{degree}
use Rattle.sp_defs.specs.Abacus.{beta}
use Rattle.sp_partition.specs.Held.{IsHeld}
use Rattle.sp_abacus_law.proofs.Numbers.{beta-falls, shown-beta}
use Rattle.sp_module_defs.specs.Jantzen.{inversions, sorting_sign}
use Rattle.sp_jantzen.specs.Beads.{AreBeads}

-- The beta numbers of a partition are beads.
pub beta_beads : (e : ℕ) (p : List ℕ) → 2 ≤ e → IsHeld p → length (beta e p) ≤ 64 → AreBeads (beta e p)
beta_beads e p he h few = record {
  falls = beta-falls e p h.partition;
  few = few;
  small = subst (λ q. degree q ≤ 32) (sym (shown-beta e p (omega arith) h.partition)) h.small;
}

-- ---- the sign

-- An even number of inversions keeps the value,
pub sign_even : (xs : List ℕ) (v : ℤ) → inversions xs % 2 ≡ 0 → sorting_sign xs *ℤ v ≡ v
unfolding sorting_sign
sign_even xs v h = ap (λ b. cond b (pos 1) (negsuc 0) *ℤ v) even ∙ plain v
  where
    even : nat_eq (inversions xs % 2) 0 ≡ true
    even = grind (arith, nat_tests)

    plain : (v : ℤ) → pos 1 *ℤ v ≡ v
    plain v = omega (arith, ints)

-- and an odd one turns it.
pub sign_odd : (xs : List ℕ) (v : ℤ) → inversions xs % 2 ≢ 0 → sorting_sign xs *ℤ v ≡ neg_ℤ v
unfolding sorting_sign
sign_odd xs v h = ap (λ b. cond b (pos 1) (negsuc 0) *ℤ v) odd ∙ turned v
  where
    odd : nat_eq (inversions xs % 2) 0 ≡ false
    odd = grind (arith, nat_tests)

    turned : (v : ℤ) → negsuc 0 *ℤ v ≡ neg_ℤ v
    turned v = omega (arith, ints)
