-- One term that is added to an ascending list of terms at the place of its power.
use Rattle.std.proofs.Common.{◌≡◌, ◌≢◌, ℕ, suc, ◌+◌, ◌-◌, ◌<◌, ◌≤◌, [], ◌∷◌, ◌++◌, take, drop, length, set, get_or}
use Rattle.std.proofs.Common.{append_assoc, inl, inr, refl, sym, ◌∙◌, ap, subst, arith, ℤ, pos, ◌+ℤ◌, ◌<ℤ◌, ◌≤ℤ◌, cond}
use Rattle.std.proofs.lemmas.Int.{ints}
use Rattle.std.proofs.lemmas.List.{take-append-drop, take_at, take_more, length-take-le, set_split, drop-drop}
use Rattle.std.proofs.lemmas.List.{length-append, get_or_default, take_rest}
use Rattle.std.specs.Int.RustNames.{unsigned_abs}
use Rattle.std.proofs.lemmas.Bool.{cases_lt}
use Rattle.std.specs.List.{AllByRecursion, insert, remove}
use Rattle.sp_defs.specs.Laurent.{Laurent, Term, IsLaurent, add_term, monomial, size}
use Rattle.sp_lists.proofs.Places.{all_weaken, all_drop}
use Rattle.sp_lists.proofs.Elements.{all_append}
use Rattle.sp_algebra.proofs.Canonical.{canonical-from}
use Rattle.sp_algebra.proofs.Coefficients.{Canonical, IsLaurent-canonical, by_eq}
use Rattle.sp_algebra.proofs.Places.{powers_ascend}
use Rattle.sp_algebra.proofs.Steps.{put-nonzero}
use Rattle.sp_laurent.proofs.Merging.{merged, canonical_right, there_small}

-- a monomial without a coefficient has no term
pub monomial-nought : (k c : ℤ) → c ≡ pos 0 → monomial k c ≡ []
monomial-nought k c e = by_eq c (pos 0) (λ b. cond {A = Laurent} b [] ((k, c) ∷ []) ≡ []) (λ _. refl)
    (λ ne. absurd (ne e))

-- what stands behind the first of the elements from a place on
drop_next : (p q : Laurent) (i : ℕ) (t : Term) → drop i p ≡ t ∷ q → drop (suc i) p ≡ q
drop_next p q i t e = ap (λ n. drop n p) (next i) ∙ sym (drop-drop 1 i p) ∙ ap (drop 1) e
  where
    next : (i : ℕ) → suc i ≡ i + 1
    next i = omega arith

-- The place parts the terms of lower powers from the others, which begin with the coefficient `there` at the power k.
pub record IsParted (terms above : Laurent) (place : ℕ) (k there : ℤ) : Type 0 where
  pub within : place ≤ length terms
  pub low : AllByRecursion (λ t. t.0 <ℤ k) (take place terms)
  pub joined : monomial k there ++ above ≡ drop place terms
  pub high : AllByRecursion (λ t. k <ℤ t.0) above

module _ (terms above : Laurent) (place : ℕ) (k c there : ℤ) (h : IsParted terms above place k there) where
  -- the term joins what stands at its power
  pub parted_sum : add_term k c terms ≡ take place terms ++ (monomial k (c +ℤ there) ++ above)
  parted_sum =
      ap (add_term k c) (sym (ap (λ q. take place terms ++ q) h.joined ∙ take-append-drop place terms))
      ∙ merged k c there (take place terms) above h.low h.high

  -- the place of a term that is there is one of the list
  pub parted_inside : there ≢ pos 0 → place < length terms
  parted_inside ne =
      let joined = ap length (sym (ap (λ m. m ++ above) (put-nonzero k there [] ne)) ∙ h.joined) in
      let whole = ap length (take-append-drop place terms) in
      omega (
        arith,
        joined,
        whole,
        length-append (take place terms) (drop place terms),
        length-take-le place terms h.within,
      )

  -- the sum of two terms that cancel: the one that is there goes
  pub parted_gone : c +ℤ there ≡ pos 0 → there ≢ pos 0 → remove terms place ≡ add_term k c terms
  parted_gone none ne =
      ap (λ q. take place terms ++ q) (drop_next terms above place (k, there)
      (sym h.joined ∙ ap (λ m. m ++ above) (put-nonzero k there [] ne)))
      ∙ sym (parted_sum ∙ ap (λ m. take place terms ++ (m ++ above)) (monomial-nought k (c +ℤ there) none))

  -- nothing is added where nothing is there
  pub parted_none : c +ℤ there ≡ pos 0 → there ≡ pos 0 → terms ≡ add_term k c terms
  parted_none none nothing =
      sym (parted_sum ∙ ap (λ m. take place terms ++ (m ++ above)) (monomial-nought k (c +ℤ there) none
      ∙ sym (monomial-nought k there nothing))
      ∙ ap (λ q. take place terms ++ q) h.joined ∙ take-append-drop place terms)

  -- a term of a new power goes in between
  pub parted_new : c +ℤ there ≢ pos 0 → there ≡ pos 0 → insert terms place (k, c +ℤ there) ≡ add_term k c terms
  parted_new ne nothing =
      ap (λ q. take place terms ++ (k, c +ℤ there) ∷ q) (sym h.joined
      ∙ ap (λ m. m ++ above) (monomial-nought k there nothing))
      ∙ sym (parted_sum ∙ ap (λ m. take place terms ++ (m ++ above)) (put-nonzero k (c +ℤ there) [] ne))

  -- the sum stands where the term was
  pub parted_set : c +ℤ there ≢ pos 0 → there ≢ pos 0 → set terms place (k, c +ℤ there) ≡ add_term k c terms
  parted_set ne some =
      set_split terms place (k, c +ℤ there) (parted_inside some)
      ∙ ap (λ q. take place terms ++ (k, c +ℤ there) ∷ q) (drop_next terms above place (k, there)
      (sym h.joined ∙ ap (λ m. m ++ above) (put-nonzero k there [] some)))
      ∙ sym (parted_sum ∙ ap (λ m. take place terms ++ (m ++ above)) (put-nonzero k (c +ℤ there) [] ne))

  not_above : (p : Laurent) → AllByRecursion (λ t. t.0 <ℤ k) p → AllByRecursion (λ t. t.0 ≤ℤ k) p
  not_above p low = all_weaken (λ t. t.0 <ℤ k) (λ t. t.0 ≤ℤ k) p (λ t lt. omega (arith, ints)) low

  -- no power in front of the place is above the term's
  pub parted_low : (new : Laurent) → new ≡ add_term k c terms → AllByRecursion (λ t. t.0 ≤ℤ k) (take place new)
  parted_low new e =
      subst (λ q. AllByRecursion (λ t. t.0 ≤ℤ k) q) (sym (ap (take place) (e ∙ parted_sum)
      ∙ take_at (take place terms) (monomial k (c +ℤ there) ++ above) place (length-take-le place terms h.within)))
      (not_above (take place terms) h.low)

  -- the terms in front, and the sum
  abbrev front : Laurent
  front = take place terms ++ ((k, c +ℤ there) ∷ [])

  front_long : length front ≡ place + 1
  front_long =
      omega (arith, length-append (take place terms) ((k, c +ℤ there) ∷ []), length-take-le place terms h.within)

  front_is : (new : Laurent) → c +ℤ there ≢ pos 0 → new ≡ add_term k c terms → new ≡ front ++ above
  front_is new ne e =
      e ∙ parted_sum ∙ ap (λ m. take place terms ++ (m ++ above)) (put-nonzero k (c +ℤ there) [] ne)
      ∙ sym (append_assoc (take place terms) ((k, c +ℤ there) ∷ []) above)

  -- nor is the sum's
  pub parted_low_next : (new : Laurent) → c +ℤ there ≢ pos 0 → new ≡ add_term k c terms
      → AllByRecursion (λ t. t.0 ≤ℤ k) (take (place + 1) new)
  parted_low_next new ne e =
      subst (λ q. AllByRecursion (λ t. t.0 ≤ℤ k) q) (sym (ap (take (place + 1)) (front_is new ne e)
      ∙ take_at front above (place + 1) front_long))
      (all_append (λ t. t.0 ≤ℤ k) (take place terms) ((k, c +ℤ there) ∷ []) (not_above (take place terms) h.low)
      (omega (arith, ints), tt))

  -- behind the sum is a place of the list, or its end
  pub parted_behind : (new : Laurent) → c +ℤ there ≢ pos 0 → new ≡ add_term k c terms → place + 1 ≤ length new
  parted_behind new ne e = omega (arith, ap length (front_is new ne e), length-append front above, front_long)

-- ---- the way to the place

-- one more term of a lower power
pub low_more : (p : Laurent) (i : ℕ) (d : Term) (k : ℤ) → i < length p → AllByRecursion (λ t. t.0 <ℤ k) (take i p)
    → (get_or p i d).0 <ℤ k → AllByRecursion (λ t. t.0 <ℤ k) (take (i + 1) p)
low_more p i d k lt low below =
    subst (λ q. AllByRecursion (λ t. t.0 <ℤ k) q) (sym (take_more p i d lt))
    (all_append (λ t. t.0 <ℤ k) (take i p) (get_or p i d ∷ []) low (below, tt))

-- no power is below that of the term at the place
pub high_from : (p : Laurent) (i : ℕ) (d : Term) (k : ℤ) → Canonical p → i < length p → k ≤ℤ (get_or p i d).0
    → AllByRecursion (λ t. k ≤ℤ t.0) (drop i p)
high_from p i d k h lt reached = all_drop (λ t. k ≤ℤ t.0) p i (λ j e le in_range.
    elim (cases_lt i j) [
      | inl after ↦ omega (
        arith,
        ints,
        reached,
        powers_ascend p h i j d after in_range,
        ap (λ (t : Term). t.0) (get_or_default p j d e in_range),
      )
      | inr there ↦
          let same : i ≡ j = omega arith in
          omega (
            arith,
            ints,
            reached,
            ap (λ n. (get_or p n d).0) same,
            ap (λ (t : Term). t.0) (get_or_default p j d e in_range),
          )
    ])

-- ---- what the code has at the place

module _ (terms slice above : Laurent) (place : ℕ) (k k' there : ℤ) (same : slice ≡ terms) (back : k' ≡ k)
    (within : place ≤ length terms) where
  from_place : take (length slice - place) (drop place slice) ≡ drop place terms
  from_place = take_rest slice place ∙ ap (drop place) same

  -- the terms from the place on are a polynomial
  pub from_place_laurent : IsLaurent terms → IsLaurent (take (length slice - place) (drop place slice))
  from_place_laurent h =
      subst IsLaurent (sym from_place) (IsLaurent-canonical (drop place terms)
      (canonical_right (take place terms) (drop place terms)
      (subst Canonical (sym (take-append-drop place terms)) (canonical-from terms h))))

  -- the terms from the place on are not below the power
  pub from_place_high : AllByRecursion (λ t. k ≤ℤ t.0) (drop place terms)
      → AllByRecursion (λ t. k' ≤ℤ t.0) (take (length slice - place) (drop place slice))
  from_place_high high =
      subst (λ q. AllByRecursion (λ t. k' ≤ℤ t.0) q) (sym from_place)
      (subst (λ j. AllByRecursion (λ t. j ≤ℤ t.0) (drop place terms)) (sym back) high)

  -- the coefficient that is found there, and the terms above, part the list at the place
  pub from_place_parted : AllByRecursion (λ t. t.0 <ℤ k) (take place terms)
      → monomial k' there ++ above ≡ take (length slice - place) (drop place slice)
      → AllByRecursion (λ t. k' <ℤ t.0) above → IsParted terms above place k there
  from_place_parted low joined high = record {
    within = within;
    low = low;
    joined = ap (λ j. monomial j there ++ above) (sym back) ∙ joined ∙ from_place;
    high = subst (λ j. AllByRecursion (λ t. j <ℤ t.0) above) back high;
  }

  -- the coefficient that is found there is at most the size
  pub from_place_small : monomial k' there ++ above ≡ take (length slice - place) (drop place slice)
      → unsigned_abs there ≤ size terms
  from_place_small joined = there_small k' there (take place terms) (drop place terms) above terms
      (take-append-drop place terms) (joined ∙ from_place)
