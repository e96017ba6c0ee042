-- Terms in front of a text, as they are read.
use Rattle.std.proofs.Common.{◌≡◌, ℕ, suc, ◌<◌, ◌^◌, ◌==◌, ◌⊎◌, inl, inr, Bool, true, false, cond}
use Rattle.std.proofs.Common.{int_lt, neg_ℤ, List, [], ◌∷◌, ◌++◌, codes, length, Some, None, ℤ, pos, negsuc, refl}
use Rattle.std.proofs.Common.{sym, ◌∙◌, ap}
use Rattle.std.proofs.Common.{arith, append_assoc, length-append}
use Rattle.std.specs.Int.RustNames.{unsigned_abs}
use Rattle.std.specs.Ordering.{int_eq}
use Rattle.std.specs.Fmt.{decimal, signed_decimal}
use Rattle.std.proofs.lemmas.Bool.Decides.{nat_tests}
use Rattle.std.proofs.lemmas.Int.{ints}
use Rattle.sp_defs.specs.Laurent.{Term}
use Rattle.sp_defs.specs.Text.{is_negative, power_text, term_text, signed_term_text}
use Rattle.sp_algebra.proofs.Coefficients.{by_eq}
use Rattle.sp_laurent.specs.Pieces.{IsPlain, IsSigned, behind_mark, power_part, first_term_text, Begins}
use Rattle.sp_laurent.proofs.Fronts.{StartsWithin, other_mark, decimal_starts, sign_plain}

-- what is there is not nothing
pub some_none : {X : Type 0} {x : X} → Some x ≡ None → ⊥
some_none e = cc

-- what is there is told by what holds it
pub some_same : {X : Type 0} {x y : X} → Some x ≡ Some y → x ≡ y
some_same e = cc

-- ---- powers

power_starts : (k : ℤ) → StartsWithin 118 118 (power_text k)
power_starts k =
    elim (int_eq k (pos 1)) as (λ b. StartsWithin 118 118 (cond b (codes "v") (codes "v^" ++ signed_decimal k))) [
      | true ↦ record { first = 118; others = []; is = refl; above = omega arith; below = omega arith }
      | false ↦
          record { first = 118; others = 94 ∷ signed_decimal k; is = refl; above = omega arith; below = omega arith }
    ]

-- no digit stands in front of a power and the rest
pub power_plain : (k : ℤ) (rest : List ℕ) → IsSigned rest → IsPlain (power_part k ++ rest)
power_plain k rest h =
    elim (int_eq k (pos 0)) as (λ b. IsPlain (cond b [] (power_text k) ++ rest)) [
      | true ↦ sign_plain rest h
      | false ↦ elim (int_eq k (pos 1)) as (λ b. IsPlain (cond b (codes "v") (codes "v^"
          ++ signed_decimal k) ++ rest)) [
            | true ↦ refl
            | false ↦ refl
          ]
    ]

-- ---- coefficients

-- How the text of a term begins: with a number n, unless it is 1 in front of a power.
pub data TermText (n : ℕ) (k : ℤ) (part rest text : List ℕ) : Type 0 where
  bare : n ≡ 1 → part ≡ power_text k → text ≡ part ++ rest → TermText n k part rest text
  counted : text ≡ decimal n ++ (part ++ rest) → TermText n k part rest text

by_one : (n : ℕ) (P : Bool → Type 0) → (n ≡ 1 → P true) → P false → P (n == 1)
by_one n P one other = elim (n == 1) as (λ b. (n == 1) ≡ b → P b) [
  | true ↦ λ e. one (let same : n ≡ 1 = grind (arith, nat_tests) in same)
  | false ↦ λ e. other
] refl

-- the text of a term begins in one of the two ways
pub term_cases : (k c : ℤ) (rest text : List ℕ) → text ≡ term_text (k, c) ++ rest →
    TermText (unsigned_abs c) k (power_part k) rest text
unfolding term_text
term_cases k c rest text =
    by_eq k (pos 0) (λ b. text ≡ cond b (decimal n) (cond (n == 1) [] (decimal n) ++ power_text k) ++ rest →
    TermText n k (cond b [] (power_text k)) rest text)
    (λ e is. counted is)
    (λ ne. by_one n (λ b. text ≡ (cond b [] (decimal n) ++ power_text k) ++ rest →
    TermText n k (power_text k) rest text)
    (λ one is. bare one refl is)
    (λ is. counted (is ∙ append_assoc (decimal n) (power_text k) rest)))
  where
    n : ℕ
    n = unsigned_abs c

widened : (text : List ℕ) → StartsWithin 48 57 text → StartsWithin 48 118 text
widened text s = record {
  first = s.first;
  others = s.others;
  is = s.is;
  above = s.above;
  below = omega (arith, s.below);
}

onward : (text more : List ℕ) (low high : ℕ) → StartsWithin low high text → StartsWithin low high (text ++ more)
onward text more low high s = record {
  first = s.first;
  others = s.others ++ more;
  is = ap (λ xs. xs ++ more) s.is;
  above = s.above;
  below = s.below;
}

-- the text of a term begins with a digit or with v
pub term_starts : (k c : ℤ) → unsigned_abs c < 2 ^ 127 → StartsWithin 48 118 (term_text (k, c))
unfolding term_text
term_starts k c small =
    elim (int_eq k (pos 0)) as (λ b. StartsWithin 48 118 (cond b (decimal n) (cond (n == 1) [] (decimal n)
    ++ power_text k))) [
      | true ↦ number
      | false ↦ elim (n == 1) as (λ b. StartsWithin 48 118 (cond b [] (decimal n) ++ power_text k)) [
        | true ↦ let s = power_starts k in record {
          first = s.first;
          others = s.others;
          is = s.is;
          above = omega (arith, s.above);
          below = s.below;
        }
        | false ↦ onward (decimal n) (power_text k) 48 118 number
      ]
    ]
  where
    n : ℕ
    n = unsigned_abs c

    number : StartsWithin 48 118 (decimal n)
    number = widened (decimal n) (decimal_starts n (omega arith))

-- ---- signs

-- How a text that begins with a term begins.
pub data SignText (t : Term) (rest text : List ℕ) : Type 0 where
  plus : is_negative t ≡ false → text ≡ 43 ∷ (term_text t ++ rest) → SignText t rest text
  minus : is_negative t ≡ true → text ≡ 45 ∷ (term_text t ++ rest) → SignText t rest text
  unmarked : is_negative t ≡ false → text ≡ term_text t ++ rest → SignText t rest text

-- a text that begins with a term begins in one of the three ways
pub sign_cases : (t : Term) (rest text : List ℕ) → Begins t rest text → SignText t rest text
sign_cases t rest text h = split h.is
  where
    first : (b : Bool) → is_negative t ≡ b → text ≡ (cond b (codes "-") [] ++ term_text t) ++ rest →
        SignText t rest text
    first true e is = minus e is
    first false e is = unmarked e is

    later : (b : Bool) → is_negative t ≡ b → text ≡ (cond b (codes "-") (codes "+") ++ term_text t) ++ rest →
        SignText t rest text
    later true e is = minus e is
    later false e is = plus e is

    split : (text ≡ first_term_text t ++ rest) ⊎ (text ≡ signed_term_text t ++ rest) → SignText t rest text
    split (inl is) = first (is_negative t) refl is
    split (inr is) = later (is_negative t) refl is

-- what stands behind a term is shorter than the text
pub rest_shorter : (t : Term) (rest text : List ℕ) → Begins t rest text → length rest < length text
rest_shorter (k, c) rest text h = by_sign (sign_cases (k, c) rest text h)
  where
    s : StartsWithin 48 118 (term_text (k, c))
    s = term_starts k c h.small.coefficient

    longer : length rest < length (term_text (k, c) ++ rest)
    longer = omega (arith, length-append s.others rest, ap (λ xs. length (xs ++ rest)) s.is)

    by_sign : SignText (k, c) rest text → length rest < length text
    by_sign (plus e is) = omega (arith, longer, ap length is)
    by_sign (minus e is) = omega (arith, longer, ap length is)
    by_sign (unmarked e is) = omega (arith, longer, ap length is)

-- ---- what the reader finds

-- a number is its absolute value with its sign
pub signed_is : (z : ℤ) → cond (int_lt z (pos 0)) (neg_ℤ (pos (unsigned_abs z))) (pos (unsigned_abs z)) ≡ z
signed_is (pos n) = grind (arith, ints)
signed_is (negsuc n) = grind (arith, ints)

-- The sign in front of a text, and what stands behind it.
pub record Minus (text : List ℕ) (negative : Bool) (behind : List ℕ) : Type 0 where
  pub minus : (rest : List ℕ) → text ≡ codes "-" ++ rest → (negative ≡ true) × (behind ≡ rest)
  pub none : behind_mark 45 text ≡ None → (negative ≡ false) × (behind ≡ text)

-- The number in front of a text, and what stands behind it.
pub record Number (text : List ℕ) (number : ℕ) (behind : List ℕ) : Type 0 where
  pub reads : (n : ℕ) (rest : List ℕ) → n < 2 ^ 128 → IsPlain rest → text ≡ decimal n ++ rest →
      (number ≡ n) × (behind ≡ rest)

-- A whole number is read: its sign, its absolute value, and what stands behind it.
pub record Whole (z : ℤ) (rest : List ℕ) (negative : Bool) (number : ℕ) (left : List ℕ) : Type 0 where
  pub sign : negative ≡ int_lt z (pos 0)
  pub size : number ≡ unsigned_abs z
  pub behind : left ≡ rest

-- a whole number in front is read by its sign and its absolute value
pub whole_read : (z : ℤ) (rest text digits left : List ℕ) (negative : Bool) (number : ℕ) → unsigned_abs z < 2 ^ 128 →
    IsPlain rest → text ≡ signed_decimal z ++ rest → Minus text negative digits → Number digits number left →
    Whole z rest negative number left
whole_read (pos n) rest text digits left negative number small plain is m h =
    let free : behind_mark 45 text ≡ None = ap (behind_mark 45) is ∙ other_mark 45 48 57 (decimal n) rest
    (inl (omega arith)) (decimal_starts n small) in
    let sign = m.none free in
    let found = h.reads n rest small plain (sign.1 ∙ is) in
    record { sign = sign.0 ∙ not_below n; size = found.0; behind = found.1 }
  where
    not_below : (n : ℕ) → false ≡ int_lt (pos n) (pos 0)
    not_below n = grind (arith, ints)
whole_read (negsuc n) rest text digits left negative number small plain is m h =
    let sign = m.minus (decimal (suc n) ++ rest) is in
    let found = h.reads (suc n) rest small plain sign.1 in
    record { sign = sign.0 ∙ below n; size = found.0; behind = found.1 }
  where
    below : (n : ℕ) → true ≡ int_lt (negsuc n) (pos 0)
    below n = grind (arith, ints)

-- where the text of a term begins with v, its coefficient is 1 or -1
pub factor_one : (k c : ℤ) (rest text behind : List ℕ) → unsigned_abs c < 2 ^ 127 → text ≡ term_text (k, c) ++ rest →
    behind_mark 118 text ≡ Some behind → (1 ≡ unsigned_abs c) × (text ≡ power_part k ++ rest)
factor_one k c rest text behind small is some = by_term (term_cases k c rest text is)
  where
    by_term : TermText (unsigned_abs c) k (power_part k) rest text →
        (1 ≡ unsigned_abs c) × (text ≡ power_part k ++ rest)
    by_term (bare one part i) = (sym one, i)
    by_term (counted i) =
        absurd (some_none (sym some ∙ ap (behind_mark 118) i
        ∙ other_mark 118 48 57 (decimal (unsigned_abs c)) (power_part k ++ rest) (inr (omega arith))
        (decimal_starts (unsigned_abs c) (omega arith))))

-- where the text of a term does not begin with v, it begins with the coefficient's absolute value
pub factor_counted : (k c : ℤ) (rest text : List ℕ) → text ≡ term_text (k, c) ++ rest → behind_mark 118 text ≡ None →
    text ≡ decimal (unsigned_abs c) ++ (power_part k ++ rest)
factor_counted k c rest text is none = by_term (term_cases k c rest text is)
  where
    v_first : (xs : List ℕ) (s : StartsWithin 118 118 xs) → behind_mark 118 (xs ++ rest) ≡ Some (s.others ++ rest)
    v_first xs s =
        let v : s.first ≡ 118 = omega (arith, s.above, s.below) in
        ap (λ ys. behind_mark 118 (ys ++ rest)) (s.is ∙ ap (λ x. x ∷ s.others) v)

    by_term : TermText (unsigned_abs c) k (power_part k) rest text →
        text ≡ decimal (unsigned_abs c) ++ (power_part k ++ rest)
    by_term (bare one part i) =
        absurd (some_none (sym (ap (behind_mark 118) (i ∙ ap (λ p. p ++ rest) part)
        ∙ v_first (power_text k) (power_starts k)) ∙ none))
    by_term (counted i) = i

-- a term behind a plus is not negative
pub sign_plus : (t : Term) (rest text behind : List ℕ) → Begins t rest text → behind_mark 43 text ≡ Some behind →
    (false ≡ is_negative t) × (behind ≡ term_text t ++ rest)
sign_plus (k, c) rest text behind h some = by_sign (sign_cases (k, c) rest text h)
  where
    by_sign : SignText (k, c) rest text → (false ≡ is_negative (k, c)) × (behind ≡ term_text (k, c) ++ rest)
    by_sign (plus e i) = (sym e, some_same (sym some ∙ ap (behind_mark 43) i))
    by_sign (minus e i) = absurd (some_none (sym some ∙ ap (behind_mark 43) i))
    by_sign (unmarked e i) =
        absurd (some_none (sym some ∙ ap (behind_mark 43) i
        ∙ other_mark 43 48 118 (term_text (k, c)) rest (inl (omega arith)) (term_starts k c h.small.coefficient)))

-- a term with no plus in front is negative where a minus stands there, and only then
pub sign_other : (t : Term) (rest text behind : List ℕ) (negative : Bool) → Begins t rest text →
    behind_mark 43 text ≡ None → Minus text negative behind →
    (negative ≡ is_negative t) × (behind ≡ term_text t ++ rest)
sign_other (k, c) rest text behind negative h no_plus m = by_sign (sign_cases (k, c) rest text h)
  where
    by_sign : SignText (k, c) rest text → (negative ≡ is_negative (k, c)) × (behind ≡ term_text (k, c) ++ rest)
    by_sign (plus e i) = absurd (some_none (sym (ap (behind_mark 43) i) ∙ no_plus))
    by_sign (minus e i) = let found = m.minus (term_text (k, c) ++ rest) i in (found.0 ∙ sym e, found.1)
    by_sign (unmarked e i) =
        let found = m.none (ap (behind_mark 45) i
        ∙ other_mark 45 48 118 (term_text (k, c)) rest (inl (omega arith)) (term_starts k c h.small.coefficient)) in
        (found.0 ∙ sym e, found.1 ∙ i)
