-- The canonical form of the lift, as code computes it from the terms of powers up to 0.
use Rattle.std.proofs.Common.{◌≡◌, ℕ, ◌+◌, ◌≤◌, Bool, true, false, cond, [], ◌∷◌, ◌++◌, reverse, filter, refl, sym}
use Rattle.std.proofs.Common.{◌∙◌, ap, ap₂, subst, append_assoc, arith, ℤ, pos, ◌+ℤ◌, ◌<ℤ◌, ◌≤ℤ◌}
use Rattle.std.proofs.Common.{int_le, int_lt}
use Rattle.std.proofs.lemmas.Int.{ints}
use Rattle.std.proofs.lemmas.List.{append-nil}
use Rattle.std.proofs.lemmas.List.Sorted.{IsPermutation-reverse, sum_by-IsPermutation}
use Rattle.std.specs.List.{AllByRecursion}
use Rattle.std.specs.Int.RustNames.{unsigned_abs}
use Rattle.sp_defs.specs.Laurent.{Laurent, Term, coefficient, collect, lift, monomial, size}
use Rattle.sp_defs.specs.Within.{PowersWithin}
use Rattle.sp_lists.proofs.Elements.{all_append, filter_append}
use Rattle.sp_lists.proofs.Places.{all_weaken}
use Rattle.sp_algebra.proofs.Coefficients.{Above, Canonical, by_eq, coefficient-append, same_collection}
use Rattle.sp_algebra.proofs.Coefficients.{IsLaurent-canonical}
use Rattle.sp_algebra.proofs.Sizes.{powers_monomial, size-append, size-monomial, size-mirrored, within-mirrored}
use Rattle.sp_algebra.proofs.Mirrored.{mirrored, descending_mirrored, canonical_reverse, all_reverse}
use Rattle.sp_algebra.proofs.Mirrored.{coefficient-reverse}

filter_kept : (t : Term → Bool) (p : Laurent) → AllByRecursion (λ x. t x ≡ true) p → filter t p ≡ p
filter_kept t [] h = refl
filter_kept t (x ∷ p) (h, hs) = ap₂ (λ b q. cond b (x ∷ q) q) h (filter_kept t p hs)

filter_dropped : (t : Term → Bool) (p : Laurent) → AllByRecursion (λ x. t x ≡ false) p → filter t p ≡ []
filter_dropped t [] h = refl
filter_dropped t (x ∷ p) (h, hs) = ap₂ (λ b q. cond b (x ∷ q) q) h (filter_dropped t p hs)

above_lower : (k : ℤ) (p : Laurent) → k <ℤ pos 0 → AllByRecursion (λ t. pos 0 ≤ℤ t.0) p → Above k p
above_lower k [] lt h = tt
above_lower k ((j, c) ∷ p) lt (le, h) = (omega (arith, ints), above_lower k p lt h)

above_zero : (p : Laurent) → AllByRecursion (λ t. pos 0 <ℤ t.0) p → Above (pos 0) p
above_zero [] h = tt
above_zero ((j, c) ∷ p) (lt, h) = (lt, above_zero p h)

above_append : (k : ℤ) (p q : Laurent) → Above k p → Above k q → Above k (p ++ q)
above_append k [] q a b = b
above_append k ((j, c) ∷ p) q (lt, a) b = (lt, above_append k p q a b)

canonical_left : (p q : Laurent) → Canonical (p ++ q) → Canonical p
canonical_left [] q h = tt
canonical_left ((k, c) ∷ p) q (ne, (a, h)) = (ne, (above_left k p q a, canonical_left p q h))
  where
    above_left : (k : ℤ) (p q : Laurent) → Above k (p ++ q) → Above k p
    above_left k [] q a = tt
    above_left k ((j, c) ∷ p) q (lt, a) = (lt, above_left k p q a)

canonical_negative : (p q : Laurent) → Canonical p → AllByRecursion (λ t. t.0 <ℤ pos 0) p → Canonical q
    → AllByRecursion (λ t. pos 0 ≤ℤ t.0) q → Canonical (p ++ q)
canonical_negative [] q hp low hq high = hq
canonical_negative ((k, c) ∷ p) q (ne, (a, hp)) (lt, low) hq high =
    (ne, (above_append k p q a (above_lower k q lt high), canonical_negative p q hp low hq high))

canonical_at_zero : (c : ℤ) (q : Laurent) → Canonical q → AllByRecursion (λ t. pos 0 <ℤ t.0) q
    → Canonical (monomial (pos 0) c ++ q)
canonical_at_zero c q hq high =
    by_eq c (pos 0) (λ b. Canonical (cond {A = Laurent} b [] ((pos 0, c) ∷ []) ++ q)) (λ _. hq)
    (λ ne. (ne, (above_zero q high, hq)))

mirrored_high : (p : Laurent) → AllByRecursion (λ t. t.0 <ℤ pos 0) p → AllByRecursion (λ t. pos 0 <ℤ t.0) (mirrored p)
mirrored_high [] h = tt
mirrored_high ((k, c) ∷ p) (lt, h) = (omega (arith, ints), mirrored_high p h)

-- a polynomial by its terms of negative powers, the coefficient at 0, and the terms of positive powers
pub record IsSplitAtZero (p below : Laurent) (c : ℤ) (above : Laurent) : Type 0 where
  pub parts : below ++ (monomial (pos 0) c ++ above) ≡ p
  pub low : AllByRecursion (λ t. t.0 <ℤ pos 0) below
  pub high : AllByRecursion (λ t. pos 0 <ℤ t.0) above

-- the lower half, the middle, and the lower half mirrored
abbrev pub lifted : Laurent → ℤ → Laurent
lifted below c = (below ++ monomial (pos 0) c) ++ reverse (mirrored below)

module _ (p below : Laurent) (c : ℤ) (above : Laurent) (h : IsSplitAtZero p below c above) where
  filtered : (t : Term → Bool) → filter t p ≡ filter t below ++ (filter t (monomial (pos 0) c) ++ filter t above)
  filtered t =
      ap (filter t) (sym h.parts) ∙ filter_append t below (monomial (pos 0) c ++ above)
      ∙ ap (λ q. filter t below ++ q) (filter_append t (monomial (pos 0) c) above)

  up_to_zero : filter (λ t. int_le t.0 (pos 0)) p ≡ below ++ monomial (pos 0) c
  up_to_zero =
      let test : Term → Bool = λ t. int_le t.0 (pos 0) in
      filtered test
      ∙ ap₂ (λ a b. a ++ b) (filter_kept test below
      (all_weaken (λ t. t.0 <ℤ pos 0) (λ t. test t ≡ true) below (λ t lt. yes_below t.0 lt) h.low))
      (ap₂ (λ a b. a ++ b) (filter_kept test (monomial (pos 0) c)
      (powers_monomial (λ k. int_le k (pos 0) ≡ true) (pos 0) c refl))
      (filter_dropped test above (all_weaken (λ t. pos 0 <ℤ t.0) (λ t. test t ≡ false) above
      (λ t lt. not_above t.0 lt) h.high))
      ∙ append-nil (monomial (pos 0) c))
    where
      yes_below : (k : ℤ) → k <ℤ pos 0 → int_le k (pos 0) ≡ true
      yes_below k lt = grind (arith, ints)

      not_above : (k : ℤ) → pos 0 <ℤ k → int_le k (pos 0) ≡ false
      not_above k lt = grind (arith, ints)

  below_zero : filter (λ t. int_lt t.0 (pos 0)) p ≡ below
  below_zero =
      let test : Term → Bool = λ t. int_lt t.0 (pos 0) in
      filtered test
      ∙ ap₂ (λ a b. a ++ b) (filter_kept test below
      (all_weaken (λ t. t.0 <ℤ pos 0) (λ t. test t ≡ true) below (λ t lt. yes_below t.0 lt) h.low))
      (ap₂ (λ a b. a ++ b) (filter_dropped test (monomial (pos 0) c)
      (powers_monomial (λ k. int_lt k (pos 0) ≡ false) (pos 0) c refl))
      (filter_dropped test above (all_weaken (λ t. pos 0 <ℤ t.0) (λ t. test t ≡ false) above
      (λ t lt. not_above t.0 lt) h.high)))
      ∙ append-nil below
    where
      yes_below : (k : ℤ) → k <ℤ pos 0 → int_lt k (pos 0) ≡ true
      yes_below k lt = grind (arith, ints)

      not_above : (k : ℤ) → pos 0 <ℤ k → int_lt k (pos 0) ≡ false
      not_above k lt = grind (arith, ints)

  canonical_lifted : Canonical p → Canonical (lifted below c)
  canonical_lifted canonical =
      let lower = canonical_left below (monomial (pos 0) c ++ above) (subst Canonical (sym h.parts) canonical) in
      let upper = all_reverse (λ t. pos 0 <ℤ t.0) (mirrored below) (mirrored_high below h.low) in
      let turned = canonical_reverse (mirrored below) (descending_mirrored below lower) in
      let le : (t : Term) → pos 0 <ℤ t.0 → pos 0 ≤ℤ t.0 = λ t lt. omega (arith, ints) in
      let high = all_append (λ t. pos 0 ≤ℤ t.0) (monomial (pos 0) c) (reverse (mirrored below))
      (powers_monomial (λ k. pos 0 ≤ℤ k) (pos 0) c (omega (arith, ints)))
      (all_weaken (λ t. pos 0 <ℤ t.0) (λ t. pos 0 ≤ℤ t.0) (reverse (mirrored below)) le upper) in
      subst Canonical (sym (append_assoc below (monomial (pos 0) c) (reverse (mirrored below))))
      (canonical_negative below (monomial (pos 0) c ++ reverse (mirrored below)) lower h.low
      (canonical_at_zero c (reverse (mirrored below)) turned upper) high)

  -- the lift of the polynomial
  pub lift_is : Canonical p → lift p ≡ lifted below c
  unfolding lift
  lift_is canonical =
      ap₂ (λ a b. collect (a ++ mirrored b)) up_to_zero below_zero
      ∙ same_collection ((below ++ monomial (pos 0) c) ++ mirrored below) (lifted below c) (λ j.
      coefficient-append (below ++ monomial (pos 0) c) (mirrored below) j
      ∙ ap (λ x. coefficient (below ++ monomial (pos 0) c) j +ℤ x) (sym (coefficient-reverse (mirrored below) j))
      ∙ sym (coefficient-append (below ++ monomial (pos 0) c) (reverse (mirrored below)) j))
      ∙ IsLaurent-canonical (lifted below c) (canonical_lifted canonical)

size-reverse : (p : Laurent) → size (reverse p) ≡ size p
size-reverse p = sum_by-IsPermutation (λ t. unsigned_abs t.1) p (reverse p) (IsPermutation-reverse p)

-- the size of the lift: the lower half twice, and the middle
pub size-lifted : (below : Laurent) (c : ℤ) → size (lifted below c) ≡ size below + unsigned_abs c + size below
size-lifted below c =
    omega (
      arith,
      size-append (below ++ monomial (pos 0) c) (reverse (mirrored below)),
      size-append below
          (monomial (pos 0) c),
      size-monomial (pos 0) c,
      size-reverse (mirrored below),
      size-mirrored below,
    )

-- the lift's powers are no further from 0 than those of the lower half
pub within-lifted : (d : ℕ) (below : Laurent) (c : ℤ) → PowersWithin d below → PowersWithin d (lifted below c)
within-lifted d below c h =
    let P : Term → Type 0 = λ t. unsigned_abs t.0 ≤ d in
    all_append P (below ++ monomial (pos 0) c) (reverse (mirrored below))
    (all_append P below (monomial (pos 0) c) h (powers_monomial (λ k. unsigned_abs k ≤ d) (pos 0) c (omega arith)))
    (all_reverse P (mirrored below) (within-mirrored d below h))
