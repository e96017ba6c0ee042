-- Single terms, and what is true of all terms of a Jantzen sum.
use Rattle.std.proofs.Common.{◌≡◌, ◌≢◌, ℕ, ◌+◌, ◌-◌, ◌%◌, ◌<◌, ◌≤◌, Bool, true, false, cond, ◌&&◌, not, nat_eq}
use Rattle.std.proofs.Common.{List, [], ◌∷◌, length, slice_index, refl, ◌∙◌, ap, ap₂, subst, arith, ℤ, pos, negsuc}
use Rattle.std.proofs.Common.{◌-ℤ◌, ◌*ℤ◌}
use Rattle.std.specs.Int.RustNames.{unsigned_abs}
use Rattle.std.specs.List.{AllByRecursion, range_with_len}
use Rattle.std.specs.Ordering.{int_eq}
use Rattle.sp_defs.specs.Partition.{degree, IsPartition, IsPartitionOf}
use Rattle.sp_defs.specs.Abacus.{shown, beta}
use Rattle.sp_lists.proofs.Elements.{all_flat, range_all}
use Rattle.sp_abacus_law.proofs.Shown.{shown-partition}
use Rattle.sp_abacus_law.proofs.Numbers.{shown-beta}
use Rattle.sp_algebra.proofs.Coefficients.{by_eq}
use Rattle.sp_module_defs.specs.Jantzen.{moved, is_distinct, descending, inversions, sorting_sign, step_value}
use Rattle.sp_module_defs.specs.Jantzen.{term, terms_of_pair, terms_of_bead, jantzen_terms}
use Rattle.sp_jantzen.specs.Beads.{AreBeads, IsStep}
use Rattle.sp_jantzen.proofs.Sorted.{descending-falls}
use Rattle.sp_jantzen.proofs.Moves.{degree-sorted}
use Rattle.std.proofs.Math.Bool.{and-false}

-- ---- one term

-- A step whose value is 0 has no term,
pub term-nought : (e : ℕ) (xs : List ℕ) (a b h : ℕ) → step_value e xs a b h ≡ pos 0 → term e xs a b h ≡ []
unfolding term
term-nought e xs a b h z =
    let after = moved xs a b h in
    let one : List (List ℕ × ℤ) =
    (shown (descending after), sorting_sign after *ℤ step_value e xs a b h) ∷ [] in
    ap (λ v. cond (is_distinct after && not (int_eq v (pos 0))) one []) z
    ∙ ap (λ v. cond v one []) (and-false (is_distinct after))

-- nor has one where two beads meet.
pub term-meets : (e : ℕ) (xs : List ℕ) (a b h : ℕ) → is_distinct (moved xs a b h) ≡ false → term e xs a b h ≡ []
unfolding term
term-meets e xs a b h d =
    let after = moved xs a b h in
    let value = step_value e xs a b h in
    let one : List (List ℕ × ℤ) = (shown (descending after), sorting_sign after *ℤ value) ∷ [] in
    ap (λ v. cond (v && not (int_eq value (pos 0))) one []) d

-- Another step has one.
pub term-found : (e : ℕ) (xs : List ℕ) (a b h : ℕ) → is_distinct (moved xs a b h) ≡ true →
    step_value e xs a b h ≢ pos 0 → term e xs a b h ≡
    (shown (descending (moved xs a b h)), sorting_sign (moved xs a b h) *ℤ step_value e xs a b h) ∷ []
unfolding term
term-found e xs a b h d nonzero =
    let after = moved xs a b h in
    let value = step_value e xs a b h in
    let one : List (List ℕ × ℤ) = (shown (descending after), sorting_sign after *ℤ value) ∷ [] in
    ap₂ (λ v w. cond (v && not w) one []) d
    (by_eq value (pos 0) (λ v. v ≡ false) (λ z. absurd (nonzero z)) (λ _. refl))

-- ---- all terms

unit_cases : (s v w : Bool) →
    unsigned_abs (cond s (pos 1) (negsuc 0) *ℤ (cond v (pos 1) (pos 0) -ℤ cond w (pos 1) (pos 0))) ≤ 1
unit_cases true true true = omega arith
unit_cases true true false = omega arith
unit_cases true false true = omega arith
unit_cases true false false = omega arith
unit_cases false true true = omega arith
unit_cases false true false = omega arith
unit_cases false false true = omega arith
unit_cases false false false = omega arith

-- A coefficient is 1, 0 or -1.
pub unit_term : (e : ℕ) (xs : List ℕ) (a b h : ℕ) (after : List ℕ) →
    unsigned_abs (sorting_sign after *ℤ step_value e xs a b h) ≤ 1
unfolding sorting_sign
unit_term e xs a b h after =
    unit_cases (nat_eq (inversions after % 2) 0) (nat_eq ((slice_index xs a - slice_index xs b + h) % e) 0)
    (nat_eq (h % e) 0)

-- A partition of n, with 1, 0 or -1.
abbrev pub IsUnit : ℕ → List ℕ × ℤ → Type 0
IsUnit n t = IsPartitionOf n t.0 × (unsigned_abs t.1 ≤ 1)

term_units : (e : ℕ) (xs : List ℕ) (a b h : ℕ) → AreBeads xs → IsStep xs a b h →
    AllByRecursion (IsUnit (degree (shown xs))) (term e xs a b h)
unfolding term
term_units e xs a b h beads s =
    tested (is_distinct (moved xs a b h)) (not (int_eq (step_value e xs a b h) (pos 0))) refl
  where
    found : List ℕ × ℤ
    found = (shown (descending (moved xs a b h)), sorting_sign (moved xs a b h) *ℤ step_value e xs a b h)

    sorted : is_distinct (moved xs a b h) ≡ true → IsPartitionOf (degree (shown xs)) found.0
    sorted d = record {
      partition = shown-partition (descending (moved xs a b h)) (descending-falls (moved xs a b h));
      total = degree-sorted xs a b h beads.falls s d;
    }

    tested : (v w : Bool) → is_distinct (moved xs a b h) ≡ v →
        AllByRecursion (IsUnit (degree (shown xs))) (cond (v && w) (found ∷ []) [])
    tested true true d = ((sorted d, unit_term e xs a b h (moved xs a b h)), tt)
    tested true false d = tt
    tested false w d = tt

-- Each term has the coefficient 1 or -1, and a partition of the degree.
pub jantzen_units : (e : ℕ) (p : List ℕ) → 1 ≤ e → IsPartition p → AreBeads (beta e p) →
    AllByRecursion (IsUnit (degree p)) (jantzen_terms e p)
unfolding jantzen_terms terms_of_bead terms_of_pair
jantzen_units e p he h beads =
    subst (λ q. AllByRecursion (IsUnit (degree q)) (jantzen_terms e p)) (shown-beta e p he h)
    (all_flat unit (terms_of_bead e xs) (range_with_len 0 (length xs))
    (range_all (λ b. AllByRecursion unit (terms_of_bead e xs b)) 0 (length xs) (λ b _ within. of_bead b within)))
  where
    xs : List ℕ
    xs = beta e p

    unit : List ℕ × ℤ → Type 0
    unit = IsUnit (degree (shown xs))

    of_pair : (b a : ℕ) → b < 0 + length xs → a < 0 + b → AllByRecursion unit (terms_of_pair e xs b a)
    of_pair b a within earlier =
        all_flat unit (term e xs a b) (range_with_len 1 (slice_index xs b))
        (range_all (λ k. AllByRecursion unit (term e xs a b k)) 1 (slice_index xs b)
        (λ k least most. term_units e xs a b k beads (record {
          earlier = omega arith;
          within = omega arith;
          least = least;
          steps = omega arith;
        })))

    of_bead : (b : ℕ) → b < 0 + length xs → AllByRecursion unit (terms_of_bead e xs b)
    of_bead b within =
        all_flat unit (terms_of_pair e xs b) (range_with_len 0 b)
        (range_all (λ a. AllByRecursion unit (terms_of_pair e xs b a)) 0 b (λ a _ earlier. of_pair b a within earlier))
