-- The test of initial sums is dominance, for partitions of one degree.
use Rattle.std.proofs.Common.{◌≡◌, ℕ, zero, suc, Bool, true, false, nat_le, List, take, sum, length, min}
use Rattle.std.proofs.Common.{refl, sym, ◌∙◌, arith, leb-true, le-leb}
use Rattle.std.specs.Prelude.{IsTrue, ◌↔◌}
use Rattle.sp_defs.specs.Partition.{Dominates, from_one_to}
use Rattle.sp_lists.proofs.Elements.{all_tests, tests_all, range_all, range_at}
use Rattle.sp_partition.proofs.Crossing.{StaysAbove, above_all}
use Rattle.sp_replies.specs.Orders.{does_dominate}

stays_above : (upper lower : List ℕ) → does_dominate upper lower ≡ true →
    StaysAbove (min (length upper) (length lower)) upper lower
stays_above upper lower test zero within = omega arith
stays_above upper lower test (suc k) within =
    leb-true (sum (take (suc k) lower)) (sum (take (suc k) upper))
    (range_at (λ j. nat_le (sum (take j lower)) (sum (take j upper)) ≡ true) 1 (length lower)
    (all_tests (λ j. nat_le (sum (take j lower)) (sum (take j upper))) (from_one_to (length lower)) test) (suc k)
    (omega arith) (omega arith))

-- what passes the test dominates, where the degrees agree
pub dominance_meant : (upper lower : List ℕ) → sum upper ≡ sum lower → does_dominate upper lower ≡ true →
    Dominates upper lower
dominance_meant upper lower one_sum test =
    above_all (min (length upper) (length lower)) upper lower one_sum refl (stays_above upper lower test)

-- what dominates passes the test
pub dominance_tested : (upper lower : List ℕ) → Dominates upper lower → does_dominate upper lower ≡ true
dominance_tested upper lower d =
    tests_all (λ k. nat_le (sum (take k lower)) (sum (take k upper))) (from_one_to (length lower))
    (range_all (λ k. nat_le (sum (take k lower)) (sum (take k upper)) ≡ true) 1 (length lower)
    (λ k least most. le-leb (sum (take k lower)) (sum (take k upper)) (d.sums k)))

-- An answer that says dominance is the test's.
pub same_answer : (b : Bool) (upper lower : List ℕ) → sum upper ≡ sum lower → IsTrue b ↔ Dominates upper lower →
    b ≡ does_dominate upper lower
same_answer true upper lower one_sum (meant, told) = sym (dominance_tested upper lower (meant refl))
same_answer false upper lower one_sum (meant, told) = by_test (does_dominate upper lower) refl
  where
    by_test : (t : Bool) → does_dominate upper lower ≡ t → false ≡ does_dominate upper lower
    by_test true is = told (dominance_meant upper lower one_sum is) ∙ sym is
    by_test false is = sym is
