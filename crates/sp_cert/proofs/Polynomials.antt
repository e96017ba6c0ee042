-- The canonical texts of Laurent polynomials are read as these polynomials, and no other text is read as one.
use Rattle.std.proofs.Common.{◌≡◌, ℕ, zero, suc, ◌<◌, ◌≤◌, ◌^◌, ◌⊎◌, inl, inr, Bool, true, false, cond, ◌&&◌}
use Rattle.std.proofs.Common.{nat_eq, nat_le, nat_lt, List, [], ◌∷◌, ◌++◌, codes, flat_map, length, Option, Some, None}
use Rattle.std.proofs.Common.{ℤ, pos, refl, sym, ◌∙◌, ap, ap₂, subst, arith, append_assoc, append-nil}
use Rattle.std.specs.Cmp.Lexicographic.{pointwise, bytes_decides}
use Rattle.std.specs.Fmt.{decimal, signed_decimal}
use Rattle.std.specs.Int.RustNames.{unsigned_abs}
use Rattle.std.specs.List.{list_all}
use Rattle.std.specs.Ordering.{int_eq}
use Rattle.std.specs.Str.Parse.{AllDigits, digits_value}
use Rattle.std.specs.Bool.{Decides}
use Rattle.std.proofs.lemmas.Bool.Decides.{nat_tests, Decides-int_eq}
use Rattle.std.proofs.lemmas.Slice.Eq.{slice_eq-Decides}
use Rattle.sp_defs.specs.Laurent.{Laurent, Term, collect, monomial, size}
use Rattle.sp_defs.specs.Text.{is_negative, power_text, term_text, signed_term_text, polynomial_text}
use Rattle.sp_lists.proofs.Elements.{and_split, and_join, all_tests, tests_all}
use Rattle.sp_lists.proofs.Places.{all_weaken}
use Rattle.sp_algebra.proofs.Coefficients.{by_eq}
use Rattle.sp_laurent.specs.Readable.{IsReadable, read_limit}
use Rattle.sp_laurent.specs.Pieces.{IsPlain, IsSigned, behind_mark, power_part, IsSmall, Begins}
use Rattle.sp_laurent.proofs.Fronts.{digit_test, numeral, sign_plain}
use Rattle.sp_laurent.proofs.Reading.{Minus, Number, whole_read, signed_is, factor_one, factor_counted}
use Rattle.sp_laurent.proofs.Reading.{power_plain, sign_plus, sign_other, rest_shorter, some_none, some_same}
use Rattle.sp_laurent.proofs.Terms.{Left, Next, first_next, later_next, left_after, left_none}
use Rattle.sp_cert.specs.Polynomials.{digits_in, behind_digits, number_in, marked, minus_in, with_sign, integer_in}
use Rattle.sp_cert.specs.Polynomials.{sign_in, factor_in, exponent_in, power_in, unsigned_in, term_in, terms_in}
use Rattle.sp_cert.specs.Polynomials.{same_term, is_readable, where_written, polynomial_of}

-- ---- numbers in front

-- The digits in front of a text, and what stands behind them.
record Digits (text digits rest : List ℕ) : Type 0 where
  pub front : digits_in text ≡ digits
  pub behind : behind_digits text ≡ rest

digits_read : (ds rest : List ℕ) → AllDigits 10 ds → IsPlain rest → Digits (ds ++ rest) ds rest
digits_read [] [] h plain = record { front = refl; behind = refl }
digits_read [] (c ∷ rest) h plain = record {
  front = ap (λ b. cond b (c ∷ digits_in rest) []) plain;
  behind = ap (λ b. cond b (behind_digits rest) (c ∷ rest)) plain;
}
digits_read (d ∷ ds) rest (h, hs) plain =
    let more = digits_read ds rest hs plain in
    let digit = digit_test d h in record {
      front = ap (λ b. cond b (d ∷ digits_in (ds ++ rest)) []) digit ∙ ap (λ xs. d ∷ xs) more.front;
      behind = ap (λ b. cond b (behind_digits (ds ++ rest)) (d ∷ (ds ++ rest))) digit ∙ more.behind;
    }

number_read : (text : List ℕ) → Number text (number_in text).0 (number_in text).1
number_read text = record { reads = reads }
  where
    reads : (n : ℕ) (rest : List ℕ) → n < 2 ^ 128 → IsPlain rest → text ≡ decimal n ++ rest →
        ((number_in text).0 ≡ n) × ((number_in text).1 ≡ rest)
    reads n rest small plain is =
        let own = numeral n small in
        let found = digits_read (decimal n) rest own.0.1 plain in (
          ap (λ t. digits_value 10 (digits_in t)) is ∙ ap (digits_value 10) found.front ∙ own.1,
          ap behind_digits is ∙ found.behind,
        )

minus_read : (text : List ℕ) → Minus text (minus_in text).0 (minus_in text).1
minus_read text = record {
  minus = λ rest is. (ap (λ t. (minus_in t).0) is, ap (λ t. (minus_in t).1) is);
  none = λ none. (ap (λ o. (marked text o).0) none, ap (λ o. (marked text o).1) none);
}

integer_read : (k : ℤ) (rest text : List ℕ) → unsigned_abs k < 2 ^ 128 → IsPlain rest →
    text ≡ signed_decimal k ++ rest → integer_in text ≡ (k, rest)
integer_read k rest text small plain is =
    let whole = whole_read k rest text (minus_in text).1 (number_in (minus_in text).1).1 (minus_in text).0
    (number_in (minus_in text).1).0 small plain is (minus_read text) (number_read (minus_in text).1) in
    ap₂ (λ (z : ℤ) (xs : List ℕ). (z, xs)) (ap₂ with_sign whole.sign whole.size ∙ signed_is k) whole.behind

-- ---- terms in front

no_mark : (mark : ℕ) (rest : List ℕ) → 45 < mark → IsSigned rest → behind_mark mark rest ≡ None
no_mark mark [] far h = refl
no_mark mark (c ∷ rest) far h = ap (λ b. cond b (Some rest) None) (other h)
  where
    other : (c ≡ 43) ⊎ (c ≡ 45) → nat_eq c mark ≡ false
    other (inl e) = grind (arith, nat_tests)
    other (inr e) = grind (arith, nat_tests)

factor_read : (k c : ℤ) (rest text : List ℕ) → IsSmall (k, c) → IsSigned rest → text ≡ term_text (k, c) ++ rest →
    factor_in text (behind_mark 118 text) ≡ (unsigned_abs c, power_part k ++ rest)
factor_read k c rest text small signed is = at (behind_mark 118 text) refl
  where
    at : (o : Option (List ℕ)) → behind_mark 118 text ≡ o →
        factor_in text o ≡ (unsigned_abs c, power_part k ++ rest)
    at (Some behind) some =
        let found = factor_one k c rest text behind small.coefficient is some in
        ap₂ (λ (n : ℕ) (xs : List ℕ). (n, xs)) found.0 found.1
    at None none =
        let found = (number_read text).reads (unsigned_abs c) (power_part k ++ rest) (omega (arith, small.coefficient))
        (power_plain k rest signed) (factor_counted k c rest text is none) in
        ap₂ (λ (n : ℕ) (xs : List ℕ). (n, xs)) found.0 found.1

power_read : (k : ℤ) (rest text : List ℕ) → unsigned_abs k ≤ read_limit → IsSigned rest →
    text ≡ power_part k ++ rest → power_in text (behind_mark 118 text) ≡ (k, rest)
power_read k rest text small signed =
    by_eq k (pos 0) (λ b. text ≡ cond b [] (power_text k) ++ rest → power_in text (behind_mark 118 text) ≡ (k, rest))
    (λ nought is.
    ap (λ t. power_in t (behind_mark 118 t)) is
    ∙ ap (power_in rest) (no_mark 118 rest (omega arith) signed)
    ∙ ap (λ z. (z, rest)) (sym nought))
    (λ ne. by_eq k (pos 1) (λ b. text ≡ cond b (codes "v") (codes "v^" ++ signed_decimal k) ++ rest →
    power_in text (behind_mark 118 text) ≡ (k, rest))
    (λ one is.
    ap (λ t. power_in t (behind_mark 118 t)) is
    ∙ ap (exponent_in rest) (no_mark 94 rest (omega arith) signed)
    ∙ ap (λ z. (z, rest)) (sym one))
    (λ ne_one is.
    ap (λ t. power_in t (behind_mark 118 t)) is
    ∙ integer_read k rest (signed_decimal k ++ rest) (omega (arith, small)) (sign_plain rest signed) refl))

unsigned_read : (t : Term) (rest text : List ℕ) (minus : Bool) → IsSmall t → IsSigned rest →
    minus ≡ is_negative t → text ≡ term_text t ++ rest → unsigned_in minus text ≡ (t, rest)
unsigned_read (k, c) rest text minus small signed sign is =
    ap₂ joined (factor_read k c rest text small signed is) sign
    ∙ ap₂ (λ (p : ℤ × List ℕ) (z : ℤ). ((p.0, z), p.1))
    (power_read k rest (power_part k ++ rest) small.power signed refl) (signed_is c)
  where
    joined : ℕ × List ℕ → Bool → Term × List ℕ
    joined factor b =
        let power = power_in factor.1 (behind_mark 118 factor.1) in ((power.0, with_sign b factor.0), power.1)

-- the term in front of a text is read, and what stands behind it
term_read : (t : Term) (rest text : List ℕ) → Begins t rest text → term_in text ≡ (t, rest)
term_read t rest text h = at (behind_mark 43 text) refl
  where
    reads : (s : Bool × List ℕ) → (s.0 ≡ is_negative t) × (s.1 ≡ term_text t ++ rest) → unsigned_in s.0 s.1 ≡ (t, rest)
    reads s found = unsigned_read t rest s.1 s.0 h.small h.signed found.0 found.1

    at : (o : Option (List ℕ)) → behind_mark 43 text ≡ o →
        unsigned_in (sign_in text o).0 (sign_in text o).1 ≡ (t, rest)
    at (Some behind) some = reads (false, behind) (sign_plus t rest text behind h some)
    at None none =
        reads (minus_in text)
        (sign_other t rest text (minus_in text).1 (minus_in text).0 h none (minus_read text))

-- ---- all terms

terms_none : (n : ℕ) → terms_in n [] ≡ []
unfolding terms_in
terms_none zero = refl
terms_none (suc n) = refl

-- where a text begins with the next term of a polynomial, the terms of the text are the ones left
terms_read : (n : ℕ) (p done : Laurent) (text : List ℕ) → IsReadable p → Next p done text → length text ≤ n →
    done ++ terms_in n text ≡ p
unfolding terms_in
terms_read zero p done text h next le =
    absurd (omega (arith, le, rest_shorter next.term (flat_map signed_term_text next.others) text next.begins))
terms_read (suc n) p done [] h next le =
    absurd (omega (arith, rest_shorter next.term (flat_map signed_term_text next.others) [] next.begins))
terms_read (suc n) p done (c ∷ text) h next le =
    sym (append_assoc done first (terms_in n behind))
    ∙ onward behind refl (λ b rest later short. terms_read n p (done ++ first) (b ∷ rest) h later short)
  where
    found : term_in (c ∷ text) ≡ (next.term, flat_map signed_term_text next.others)
    found = term_read next.term (flat_map signed_term_text next.others) (c ∷ text) next.begins

    first : Laurent
    first = monomial (term_in (c ∷ text)).0.0 (term_in (c ∷ text)).0.1

    behind : List ℕ
    behind = (term_in (c ∷ text)).1

    left : Left p (done ++ first) behind
    left =
        left_after p done (done ++ first) (c ∷ text) behind next (ap (λ f. f.1) found)
        (ap (λ (f : Term × List ℕ). done ++ monomial f.0.0 f.0.1) found)

    shorter : length behind ≤ n
    shorter =
        omega (
          arith,
          le,
          ap (λ (f : Term × List ℕ). length f.1) found,
          rest_shorter next.term (flat_map signed_term_text next.others) (c ∷ text) next.begins,
        )

    onward : (rest : List ℕ) → behind ≡ rest →
        ((b : ℕ) (bs : List ℕ) → Next p (done ++ first) (b ∷ bs) → length (b ∷ bs) ≤ n →
        (done ++ first) ++ terms_in n (b ∷ bs) ≡ p) →
        (done ++ first) ++ terms_in n rest ≡ p
    onward [] is read =
        ap (λ ts. (done ++ first) ++ ts) (terms_none n)
        ∙ append-nil (done ++ first)
        ∙ left_none p (done ++ first) behind (ap length is) left
    onward (b ∷ rest) is read =
        read b rest
        (later_next p (done ++ first) (b ∷ rest) h (λ e. cc) (subst (Left p (done ++ first)) is left))
        (omega (arith, shorter, ap length is))

-- the terms of the text of a polynomial that is read are its terms
pub terms_written : (p : Laurent) → IsReadable p → terms_in (length (polynomial_text p)) (polynomial_text p) ≡ p
terms_written p h =
    terms_read (length (polynomial_text p)) p [] (polynomial_text p) h (first_next p (polynomial_text p) h refl)
    (omega arith)

-- ---- the test

-- two terms are equal exactly by the test
pub same_decides : (s t : Term) → Decides (same_term s t) (s ≡ t)
same_decides (k, c) (j, d) = (
  λ h.
      let both = and_split (int_eq k j) (int_eq c d) h in
      ap₂ (λ (x y : ℤ). (x, y)) ((Decides-int_eq k j).0 both.0) ((Decides-int_eq c d).0 both.1),
  λ e.
      and_join (int_eq k j) (int_eq c d) ((Decides-int_eq k j).1 (ap (λ (t : Term). t.0) e))
      ((Decides-int_eq c d).1 (ap (λ (t : Term). t.1) e)),
)

-- the test says which polynomials are read
pub readable_decides : (p : Laurent) → Decides (is_readable p) (IsReadable p)
readable_decides p = (one_way, other_way)
  where
    polynomial : Decides (pointwise same_term (collect p) p) (collect p ≡ p)
    polynomial = slice_eq-Decides same_decides (collect p) p (pointwise same_term (collect p) p) refl

    size_test : Bool
    size_test = nat_lt (size p) (2 ^ 127)

    power_test : Term → Bool
    power_test t = nat_le (unsigned_abs t.0) read_limit

    one_way : is_readable p ≡ true → IsReadable p
    one_way h =
        let whole = and_split (pointwise same_term (collect p) p) (size_test && list_all power_test p) h in
        let limits = and_split size_test (list_all power_test p) whole.1 in
        record {
          laurent = polynomial.0 whole.0;
          small = (let small : size_test ≡ true = limits.0 in grind (arith, nat_tests));
          powers = all_weaken (λ t. power_test t ≡ true) (λ t. unsigned_abs t.0 ≤ read_limit) p
              (λ t e. (let test : power_test t ≡ true = e in grind (arith, nat_tests)))
              (all_tests power_test p limits.1);
        }

    other_way : IsReadable p → is_readable p ≡ true
    other_way h =
        and_join (pointwise same_term (collect p) p) (size_test && list_all power_test p) (polynomial.1 h.laurent)
        (and_join size_test (list_all power_test p)
        (let small : size p < 2 ^ 127 = h.small in grind (arith, nat_tests))
        (tests_all power_test p
        (all_weaken (λ t. unsigned_abs t.0 ≤ read_limit) (λ t. power_test t ≡ true) p
        (λ t le. grind (arith, nat_tests)) h.powers)))

-- ---- polynomials

-- What a text is that is read as a polynomial.
pub record IsTextOf (p : Laurent) (text : List ℕ) : Type 0 where
  pub readable : IsReadable p
  pub is : polynomial_text p ≡ text

-- a text that is read as a polynomial is its canonical text
pub polynomial_read : (text : List ℕ) (p : Laurent) → polynomial_of text ≡ Some p → IsTextOf p text
unfolding polynomial_of
polynomial_read text p = settle (terms_in (length text) text)
  where
    settle : (q : Laurent) → where_written text q ≡ Some p → IsTextOf p text
    settle q h = at (is_readable q && pointwise nat_eq (polynomial_text q) text) refl h
      where
        at : (b : Bool) → (is_readable q && pointwise nat_eq (polynomial_text q) text) ≡ b →
            cond b (Some q) None ≡ Some p → IsTextOf p text
        at true test same =
            let both = and_split (is_readable q) (pointwise nat_eq (polynomial_text q) text) test in
            let own : q ≡ p = some_same same in
            record {
              readable = subst IsReadable own ((readable_decides q).0 both.0);
              is = subst (λ r. polynomial_text r ≡ text) own ((bytes_decides (polynomial_text q) text).0 both.1);
            }
        at false test same = absurd (cc)

-- the canonical text of a polynomial that is read is read as it
pub polynomial_reads : (p : Laurent) → IsReadable p → polynomial_of (polynomial_text p) ≡ Some p
unfolding polynomial_of
polynomial_reads p h =
    ap (where_written (polynomial_text p)) (terms_written p h)
    ∙ ap (λ b. cond b (Some p) None)
    (and_join (is_readable p) (pointwise nat_eq (polynomial_text p) (polynomial_text p)) ((readable_decides p).1 h)
    ((bytes_decides (polynomial_text p) (polynomial_text p)).1 refl))

-- a polynomial that is read is the one of each text that is its canonical one
pub polynomial_found : (text : List ℕ) (p : Laurent) → IsReadable p → polynomial_text p ≡ text →
    polynomial_of text ≡ Some p
polynomial_found text p h is = ap polynomial_of (sym is) ∙ polynomial_reads p h

-- where no polynomial that is read has this text, none is read
pub no_polynomial : (text : List ℕ) → ((p : Laurent) → IsReadable p → ¬ (polynomial_text p ≡ text)) →
    polynomial_of text ≡ None
no_polynomial text none = at (polynomial_of text) refl
  where
    at : (o : Option Laurent) → polynomial_of text ≡ o → o ≡ None
    at None e = refl
    at (Some p) e = let read = polynomial_read text p e in absurd (none p read.readable read.is)

-- where none is read, no polynomial that is read has this text
pub none_written : (text : List ℕ) → polynomial_of text ≡ None → (p : Laurent) → IsReadable p →
    ¬ (polynomial_text p ≡ text)
none_written text none p h is = some_none (sym (polynomial_found text p h is) ∙ none)
