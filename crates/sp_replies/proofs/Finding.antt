-- The partition with a core and a quotient is found, where there is one.
use Rattle.std.proofs.Common.{◌≡◌, ℕ, ◌+◌, ◌*◌, ◌≤◌, Bool, true, false, nat_eq, List, [], ◌∷◌, refl, ◌∙◌}
use Rattle.std.proofs.Common.{ap₂}
use Rattle.std.proofs.Common.{arith, subst}
use Rattle.std.proofs.Common.{◌<◌, nat_lt, length, ◌↔◌, eq-eqb, eqb-true, lt-ltb, ltb-true, ltb-false}
use Rattle.std.specs.Prelude.{Some, Result, Ok, Err, find, sum_by}
use Rattle.std.specs.Cmp.Lexicographic.{pointwise, bytes_decides}
use Rattle.sp_defs.specs.Partition.{IsPartition, IsPartitionOf, degree, partitions}
use Rattle.sp_defs.specs.Abacus.{core, quotient}
use Rattle.sp_abacus_law.proofs.Weight.{degree-core}
use Rattle.sp_lists.proofs.Elements.{and_split, and_join}
use Rattle.sp_lists.proofs.Finding.{find_only}
use Rattle.sp_shapes.proofs.Listing.{all_partitions, each_partition}
use Rattle.sp_abacus.specs.declared.combining.CombineFault.{CombineFault}
use Rattle.sp_abacus.specs.declared.combining.CombineFault.TheVariants.{NotCore, WrongCount, PastDegree}
use Rattle.sp_partition.specs.declared.TheConstants.{DEGREE_LIMIT}
use Rattle.sp_replies.specs.Abacuses.{is_partition, is_made_of, size_of, combined_text}
use Rattle.sp_replies.specs.Orders.{partition_line}
use Rattle.sp_replies.specs.Refusals.{by_combining, refusal_line}
use Rattle.sp_replies.specs.declared.refusals.Refusal.TheVariants as refusal

-- ---- lists of partitions that are equal by the test

same_lists : (ps qs : List (List ℕ)) → pointwise is_partition ps qs ≡ true → ps ≡ qs
same_lists [] [] h = refl
same_lists [] (q ∷ qs) h = cc
same_lists (p ∷ ps) [] h = cc
same_lists (p ∷ ps) (q ∷ qs) h =
    let both = and_split (is_partition p q) (pointwise is_partition ps qs) h in
    ap₂ (λ x xs. x ∷ xs) ((bytes_decides p q).0 both.0) (same_lists ps qs both.1)

lists_same : (ps : List (List ℕ)) → pointwise is_partition ps ps ≡ true
lists_same [] = refl
lists_same (p ∷ ps) = and_join (is_partition p p) (pointwise is_partition ps ps) ((bytes_decides p p).1 refl)
    (lists_same ps)

-- a partition with this core and this quotient passes the test
pub made : (e : ℕ) (kappa : List ℕ) (quotients : List (List ℕ)) (p : List ℕ) → core e p ≡ kappa →
    quotient e p ≡ quotients → is_made_of e kappa quotients p ≡ true
made e kappa quotients p core_is quotient_is =
    and_join (is_partition (core e p) kappa) (pointwise is_partition (quotient e p) quotients)
    ((bytes_decides (core e p) kappa).1 core_is)
    (subst (λ qs. pointwise is_partition (quotient e p) qs ≡ true) quotient_is (lists_same (quotient e p)))

-- what passes it has them
pub parts_of : (e : ℕ) (kappa : List ℕ) (quotients : List (List ℕ)) (p : List ℕ) →
    is_made_of e kappa quotients p ≡ true → (core e p ≡ kappa) × (quotient e p ≡ quotients)
parts_of e kappa quotients p h =
    let both = and_split (is_partition (core e p) kappa) (pointwise is_partition (quotient e p) quotients) h in
    ((bytes_decides (core e p) kappa).0 both.0, same_lists (quotient e p) quotients both.1)

-- The only one of its size is the one that is found.
pub found : (e : ℕ) (kappa : List ℕ) (quotients : List (List ℕ)) (p : List ℕ) → 2 ≤ e → IsPartition p →
    core e p ≡ kappa → quotient e p ≡ quotients →
    ((q : List ℕ) → IsPartitionOf (size_of e kappa quotients) q → core e q ≡ kappa → quotient e q ≡ quotients → q ≡ p) →
    find (is_made_of e kappa quotients) (partitions (size_of e kappa quotients)) ≡ Some p
found e kappa quotients p e_least is_p core_is quotient_is only =
    find_only (IsPartitionOf (size_of e kappa quotients)) (is_made_of e kappa quotients) p
    (partitions (size_of e kappa quotients)) (all_partitions (size_of e kappa quotients))
    (each_partition (size_of e kappa quotients) p is_p
    (degree-core e p (omega arith) is_p
    ∙ ap₂ (λ x qs. degree x + e * sum_by degree qs) core_is quotient_is))
    (made e kappa quotients p core_is quotient_is)
    (λ q is_q passes. let parts = parts_of e kappa quotients q passes in only q is_q parts.0 parts.1)

-- ---- the four answers

module _ (e : ℕ) (kappa : List ℕ) (quotients : List (List ℕ)) where
  core_tested : core e kappa ≡ kappa → is_partition (core e kappa) kappa ≡ true
  core_tested own = (bytes_decides (core e kappa) kappa).1 own

  past_text : core e kappa ≡ kappa → length quotients ≡ e → DEGREE_LIMIT < size_of e kappa quotients →
      combined_text e kappa quotients ≡ refusal_line refusal.PastDegree
  past_text own count past =
      let own_is = core_tested own in
      let count_is = eq-eqb (length quotients) e count in
      let past_is = lt-ltb DEGREE_LIMIT (size_of e kappa quotients) past in
      rw (own_is, count_is, past_is) refl

  -- Where an answer refuses just so, the line says why.
  pub refused_text : (r : Result (List ℕ) CombineFault) (fault : CombineFault) → r ≡ Err fault →
      (r ≡ Err NotCore) ↔ ¬ (core e kappa ≡ kappa) →
      (r ≡ Err WrongCount) ↔ ((core e kappa ≡ kappa) × ¬ (length quotients ≡ e)) →
      (r ≡ Err PastDegree) ↔ ((core e kappa ≡ kappa) × (length quotients ≡ e)
      × (DEGREE_LIMIT < size_of e kappa quotients)) →
      combined_text e kappa quotients ≡ refusal_line (by_combining fault)
  refused_text r NotCore is not_core wrong_count past_degree = by_core (is_partition (core e kappa) kappa) refl
    where
      by_core : (b : Bool) → is_partition (core e kappa) kappa ≡ b →
          combined_text e kappa quotients ≡ refusal_line refusal.NotCore
      by_core true own = absurd (not_core.0 is ((bytes_decides (core e kappa) kappa).0 own))
      by_core false other = rw other refl
  refused_text r WrongCount is not_core wrong_count past_degree = by_count (nat_eq (length quotients) e) refl
    where
      by_count : (b : Bool) → nat_eq (length quotients) e ≡ b →
          combined_text e kappa quotients ≡ refusal_line refusal.WrongCount
      by_count true count = absurd ((wrong_count.0 is).1 (eqb-true (length quotients) e count))
      by_count false count =
          let own_is = core_tested (wrong_count.0 is).0 in
          rw (own_is, count) refl
  refused_text r PastDegree is not_core wrong_count past_degree =
      let past = past_degree.0 is in past_text past.0 past.1 past.2

  -- What an answer says that refuses just so.
  pub made_text : (r : Result (List ℕ) CombineFault) (p : List ℕ) → r ≡ Ok p →
      (r ≡ Err NotCore) ↔ ¬ (core e kappa ≡ kappa) →
      (r ≡ Err WrongCount) ↔ ((core e kappa ≡ kappa) × ¬ (length quotients ≡ e)) →
      (r ≡ Err PastDegree) ↔ ((core e kappa ≡ kappa) × (length quotients ≡ e)
      × (DEGREE_LIMIT < size_of e kappa quotients)) →
      (size_of e kappa quotients ≤ DEGREE_LIMIT →
      find (is_made_of e kappa quotients) (partitions (size_of e kappa quotients)) ≡ Some p) →
      combined_text e kappa quotients ≡ partition_line p
  made_text r p is not_core wrong_count past_degree finds = by_core (is_partition (core e kappa) kappa) refl
    where
      by_size : core e kappa ≡ kappa → length quotients ≡ e →
          (b : Bool) → nat_lt DEGREE_LIMIT (size_of e kappa quotients) ≡ b →
          combined_text e kappa quotients ≡ partition_line p
      by_size own count true past_is =
          absurd (let no : r ≡ Err PastDegree =
          past_degree.1 (own, count, ltb-true DEGREE_LIMIT (size_of e kappa quotients) past_is) in cc)
      by_size own count false past_is =
          let own_is = core_tested own in
          let count_is = eq-eqb (length quotients) e count in
          let found_is = finds (ltb-false DEGREE_LIMIT (size_of e kappa quotients) past_is) in
          rw (own_is, count_is, past_is, found_is) refl

      by_count : core e kappa ≡ kappa → (b : Bool) → nat_eq (length quotients) e ≡ b →
          combined_text e kappa quotients ≡ partition_line p
      by_count own true count =
          by_size own (eqb-true (length quotients) e count) (nat_lt DEGREE_LIMIT (size_of e kappa quotients)) refl
      by_count own false count =
          absurd (let no : r ≡ Err WrongCount = wrong_count.1 (
            own,
            λ same.
                let other = eq-eqb (length quotients) e same in cc,
          ) in cc)

      by_core : (b : Bool) → is_partition (core e kappa) kappa ≡ b →
          combined_text e kappa quotients ≡ partition_line p
      by_core true own =
          by_count ((bytes_decides (core e kappa) kappa).0 own) (nat_eq (length quotients) e) refl
      by_core false own =
          absurd (let no : r ≡ Err NotCore = not_core.1 (λ same. let other = core_tested same in cc) in cc)
