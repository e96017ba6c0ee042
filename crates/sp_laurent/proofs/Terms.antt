-- The terms of a canonical text, read one by one, and what makes them a polynomial that is read.
use Rattle.std.proofs.Common.{◌≡◌, ◌≢◌, ℕ, suc, ◌+◌, ◌-◌, ◌<◌, ◌≤◌, ◌^◌, inl, inr, List, [], ◌∷◌, ◌++◌, length}
use Rattle.std.proofs.Common.{flat_map, cond, codes, refl, sym, ◌∙◌, ap, subst, arith, append_assoc, append-nil}
use Rattle.std.proofs.Common.{pos, ◌<ℤ◌, Bool, true, false}
use Rattle.std.specs.Prelude.{slice_index_or}
use Rattle.std.specs.List.{AllByRecursion}
use Rattle.std.specs.Int.RustNames.{unsigned_abs}
use Rattle.std.proofs.lemmas.Fmt.{decimal_digit}
use Rattle.std.proofs.lemmas.List.Sums.{sum_by-cons}
use Rattle.std.proofs.lemmas.List.Concat.{flat_map-cons}
use Rattle.sp_defs.specs.Laurent.{Laurent, Term, IsLaurent, size, monomial}
use Rattle.sp_defs.specs.Text.{is_negative, term_text, signed_term_text, polynomial_text}
use Rattle.sp_lists.proofs.Elements.{all_right, all_both}
use Rattle.sp_lists.proofs.Places.{all_weaken}
use Rattle.sp_algebra.proofs.Canonical.{canonical-from}
use Rattle.sp_algebra.proofs.Coefficients.{Above-lower, Canonical, IsLaurent-canonical}
use Rattle.sp_algebra.proofs.Places.{powers_ascend}
use Rattle.sp_algebra.proofs.Steps.{put-nonzero}
use Rattle.sp_laurent.specs.Held.{IsHeld, power_limit}
use Rattle.sp_laurent.specs.Readable.{IsReadable, read_limit}
use Rattle.sp_laurent.specs.Pieces.{IsSigned, IsSmall, IsGood, Begins, Ascends}
use Rattle.sp_laurent.proofs.Merging.{canonical_right}

-- ---- the terms of a polynomial that is read

-- no coefficient is greater than the size
pub size_terms : (p : Laurent) (most : ℕ) → size p ≤ most → AllByRecursion (λ t. unsigned_abs t.1 ≤ most) p
size_terms [] most h = tt
size_terms (t ∷ p) most h =
    let first : size (t ∷ p) ≡ unsigned_abs t.1 + size p = sum_by-cons (λ (u : Term). unsigned_abs u.1) t p in
    (omega arith, size_terms p most (omega arith))

all_small : (p : Laurent) → IsReadable p → AllByRecursion IsSmall p
all_small p h =
    all_weaken (λ t. (unsigned_abs t.0 ≤ read_limit) × (unsigned_abs t.1 ≤ size p)) IsSmall p
    (λ t b. record { power = b.0; coefficient = omega (arith, b.1, h.small) })
    (all_both (λ t. unsigned_abs t.0 ≤ read_limit) (λ t. unsigned_abs t.1 ≤ size p) p h.powers
    (size_terms p (size p) (omega arith)))

-- The terms so far, and those whose text is left.
pub record Left (p done : Laurent) (rest : List ℕ) : Type 0 where
  pub left : Laurent
  pub whole : done ++ left ≡ p
  pub text : rest ≡ flat_map signed_term_text left

-- The term whose text is next. It is 0 where the text is that of 0.
pub record Next (p done : Laurent) (text : List ℕ) : Type 0 where
  pub term : Term
  pub others : Laurent
  pub begins : Begins term (flat_map signed_term_text others) text
  pub whole : done ++ (monomial term.0 term.1 ++ others) ≡ p

later_signed : (ts : Laurent) → IsSigned (flat_map signed_term_text ts)
later_signed [] = tt
later_signed (t ∷ ts) = subst IsSigned (sym (flat_map-cons signed_term_text t ts)) (by_sign (is_negative t))
  where
    by_sign : (b : Bool) → IsSigned ((cond b (codes "-") (codes "+") ++ term_text t) ++ flat_map signed_term_text ts)
    by_sign true = inr refl
    by_sign false = inl refl

own : (t : Term) (ts : Laurent) → t.1 ≢ pos 0 → t ∷ ts ≡ monomial t.0 t.1 ++ ts
own t ts ne = ap (λ q. q ++ ts) (sym (put-nonzero t.0 t.1 [] ne))

-- a text that is a polynomial's begins with its first term
pub first_next : (p : Laurent) (text : List ℕ) → IsReadable p → polynomial_text p ≡ text → Next p [] text
unfolding polynomial_text term_text
first_next [] text h is = record {
  term = (pos 0, pos 0);
  others = [];
  begins = record {
    small = record { power = omega arith; coefficient = omega arith };
    signed = tt;
    is = inl (sym is ∙ sym (ap (λ d. d ++ []) (decimal_digit 0 (omega arith))));
  };
  whole = refl;
}
first_next (t ∷ ts) text h is = record {
  term = t;
  others = ts;
  begins = record {
    small = (all_small (t ∷ ts) h).0;
    signed = later_signed ts;
    is = inl (sym is);
  };
  whole = sym (own t ts (canonical-from (t ∷ ts) h.laurent).0);
}

-- where text is left, it begins with the next term
pub later_next : (p done : Laurent) (rest : List ℕ) → IsReadable p → rest ≢ [] → Left p done rest → Next p done rest
later_next p done rest h some l = at l.left l.whole l.text
  where
    at : (left : Laurent) → done ++ left ≡ p → rest ≡ flat_map signed_term_text left → Next p done rest
    at [] whole text = absurd (some text)
    at (t ∷ ts) whole text = record {
      term = t;
      others = ts;
      begins = record {
        small = (all_right IsSmall done (t ∷ ts) (subst (AllByRecursion IsSmall) (sym whole) (all_small p h))).0;
        signed = later_signed ts;
        is = inr (text ∙ flat_map-cons signed_term_text t ts);
      };
      whole = ap (λ q. done ++ q) (sym (own t ts (canonical_right done (t ∷ ts)
          (subst Canonical (sym whole) (canonical-from p h.laurent))).0)) ∙ whole;
    }

-- what is left after the next term was read
pub left_after : (p done now : Laurent) (text rest : List ℕ) (n : Next p done text) →
    rest ≡ flat_map signed_term_text n.others → now ≡ done ++ monomial n.term.0 n.term.1 → Left p now rest
left_after p done now text rest n is_rest is_now = record {
  left = n.others;
  whole = ap (λ q. q ++ n.others) is_now ∙ append_assoc done (monomial n.term.0 n.term.1) n.others ∙ n.whole;
  text = is_rest;
}

-- where no text is left, all terms were read
pub left_none : (p done : Laurent) (rest : List ℕ) → length rest ≡ 0 → Left p done rest → done ≡ p
left_none p done rest none l = at l.left l.whole (sym (empty rest none) ∙ l.text)
  where
    empty : (xs : List ℕ) → length xs ≡ 0 → xs ≡ []
    empty [] e = refl
    empty (x ∷ xs) e = absurd (omega arith)

    at : (left : Laurent) → done ++ left ≡ p → [] ≡ flat_map signed_term_text left → done ≡ p
    at [] whole text = sym (append-nil done) ∙ whole
    at (t ∷ ts) whole text = absurd (by_sign (is_negative t) (text ∙ flat_map-cons signed_term_text t ts))
      where
        by_sign : (b : Bool) → [] ≡ (cond b (codes "-") (codes "+") ++ term_text t) ++ flat_map signed_term_text ts → ⊥
        by_sign true e = cc
        by_sign false e = cc

-- ---- the tests

ascends_from : (p : Laurent) → IsLaurent p → Ascends p
ascends_from p h i least lt = powers_ascend p (canonical-from p h) (i - 1) i (pos 0, pos 0) (omega arith) lt

ascends_tail : (t : Term) (p : Laurent) → Ascends (t ∷ p) → Ascends p
ascends_tail t p h i least under =
    subst (λ n. (slice_index_or (t ∷ p) n (pos 0, pos 0)).0 <ℤ (slice_index_or p i (pos 0, pos 0)).0) (before least)
    (h (suc i) (omega arith) (omega arith))
  where
    before : 1 ≤ i → suc i - 1 ≡ suc (i - 1)
    before k = omega arith

canonical_ascending : (p : Laurent) → AllByRecursion IsGood p → Ascends p → Canonical p
canonical_ascending [] good h = tt
canonical_ascending ((k, c) ∷ []) good h = (good.0.0, (tt, tt))
canonical_ascending ((k, c) ∷ (j, b) ∷ p) good h =
    let lt : k <ℤ j = h 1 (omega arith) (omega arith) in
    let rest = canonical_ascending ((j, b) ∷ p) good.1 (ascends_tail (k, c) ((j, b) ∷ p) h) in
    (good.0.0, ((lt, Above-lower k j p lt rest.1.0), rest))

-- good terms with ascending powers and a small size are a polynomial that is read
pub readable_from : (p : Laurent) → AllByRecursion IsGood p → Ascends p → size p < 2 ^ 127 → IsReadable p
readable_from p good ascends small = record {
  laurent = IsLaurent-canonical p (canonical_ascending p good ascends);
  small = small;
  powers = all_weaken IsGood (λ t. unsigned_abs t.0 ≤ read_limit) p (λ t g. g.1) good;
}

-- a polynomial that is read has ascending powers and a small size
pub readable_test : (p : Laurent) → IsReadable p → Ascends p × size p < 2 ^ 127
readable_test p h = (ascends_from p h.laurent, h.small)

-- a polynomial that is read may be held
pub readable_held : (p : Laurent) → IsReadable p → IsHeld p
readable_held p h = record {
  laurent = h.laurent;
  small = h.small;
  powers = all_weaken (λ t. unsigned_abs t.0 ≤ read_limit) (λ t. unsigned_abs t.0 ≤ power_limit) p
      (λ t w. omega (arith, w)) h.powers;
}
