-- What a text is read as: a Laurent polynomial. Texts are lists of ASCII codes.
use Rattle.std.specs.Prelude.{ℕ, zero, suc, ◌^◌, Bool, true, false, ◌&&◌, nat_eq, nat_le, nat_lt, cond, List, []}
use Rattle.std.specs.Prelude.{◌∷◌, ◌++◌, Option, Some, None, length, ℤ, pos, neg_ℤ, unsigned_abs}
use Rattle.std.specs.Char.{is_ascii_digit}
use Rattle.std.specs.Cmp.Lexicographic.{pointwise}
use Rattle.std.specs.List.{list_all}
use Rattle.std.specs.Ordering.{int_eq}
use Rattle.std.specs.Str.Parse.{digits_value}
use Rattle.sp_defs.specs.Laurent.{Laurent, Term, collect, monomial, size}
use Rattle.sp_defs.specs.Text.{polynomial_text}
use Rattle.sp_laurent.specs.Readable.{read_limit}
use Rattle.sp_laurent.specs.Pieces.{behind_mark}

-- ---- numbers in front of a text, with what stands behind them

-- The digits in front (this project's own).
abbrev pub digits_in : List ℕ → List ℕ
digits_in [] = []
digits_in (c ∷ text) = cond (is_ascii_digit c) (c ∷ digits_in text) []

-- What stands behind them (this project's own).
abbrev pub behind_digits : List ℕ → List ℕ
behind_digits [] = []
behind_digits (c ∷ text) = cond (is_ascii_digit c) (behind_digits text) (c ∷ text)

-- The number that they write (this project's own).
abbrev pub number_in : List ℕ → ℕ × List ℕ
number_in text = (digits_value 10 (digits_in text), behind_digits text)

-- Whether the mark stands in front (this project's own).
abbrev pub marked : List ℕ → Option (List ℕ) → Bool × List ℕ
marked text None = (false, text)
marked text (Some behind) = (true, behind)

-- Whether a minus stands in front (this project's own).
abbrev pub minus_in : List ℕ → Bool × List ℕ
minus_in text = marked text (behind_mark 45 text)

-- A number, negated where a minus stands before it (this project's own).
abbrev pub with_sign : Bool → ℕ → ℤ
with_sign minus n = cond minus (neg_ℤ (pos n)) (pos n)

-- A whole number: a minus where it is negative, and the digits (this project's own).
abbrev pub integer_in : List ℕ → ℤ × List ℕ
integer_in text =
    (with_sign (minus_in text).0 (number_in (minus_in text).1).0, (number_in (minus_in text).1).1)

-- ---- terms in front of a text, with what stands behind them

-- The sign of a term: a minus, a plus, or none (this project's own).
abbrev pub sign_in : List ℕ → Option (List ℕ) → Bool × List ℕ
sign_in text None = minus_in text
sign_in text (Some behind) = (false, behind)

-- The number before a power of v, or 1 where v stands in front (this project's own).
abbrev pub factor_in : List ℕ → Option (List ℕ) → ℕ × List ℕ
factor_in text None = number_in text
factor_in text (Some behind) = (1, text)

-- The exponent behind v, or 1 (this project's own).
abbrev pub exponent_in : List ℕ → Option (List ℕ) → ℤ × List ℕ
exponent_in text None = (pos 1, text)
exponent_in text (Some behind) = integer_in behind

-- The power: of v with its exponent, or 0 where v doesn't stand in front (this project's own).
abbrev pub power_in : List ℕ → Option (List ℕ) → ℤ × List ℕ
power_in text None = (pos 0, text)
power_in text (Some behind) = exponent_in behind (behind_mark 94 behind)

-- A term without its sign, which is known: its number, and its power (this project's own).
abbrev pub unsigned_in : Bool → List ℕ → Term × List ℕ
unsigned_in minus text =
    let factor = factor_in text (behind_mark 118 text) in
    let power = power_in factor.1 (behind_mark 118 factor.1) in
    ((power.0, with_sign minus factor.0), power.1)

-- A term: its sign, its number, and its power (this project's own).
abbrev pub term_in : List ℕ → Term × List ℕ
term_in text = let sign = sign_in text (behind_mark 43 text) in unsigned_in sign.0 sign.1

-- The terms of a text, at most this many. A term 0 is none (this project's own).
unfoldable pub terms_in : ℕ → List ℕ → Laurent
terms_in zero text = []
terms_in (suc n) [] = []
terms_in (suc n) (c ∷ text) =
    monomial (term_in (c ∷ text)).0.0 (term_in (c ∷ text)).0.1 ++ terms_in n (term_in (c ∷ text)).1

-- ---- polynomials

abbrev pub same_term : Term → Term → Bool
same_term s t = int_eq s.0 t.0 && int_eq s.1 t.1

-- The polynomials whose texts are read, as a test: the list of terms is one, and its size and powers have limits.
abbrev pub is_readable : Laurent → Bool
is_readable p =
    pointwise same_term (collect p) p && (nat_lt (size p) (2 ^ 127) &&
    list_all (λ t. nat_le (unsigned_abs t.0) read_limit) p)

-- A polynomial, where this is its canonical text (this project's own).
abbrev pub where_written : List ℕ → Laurent → Option Laurent
where_written text p = cond (is_readable p && pointwise nat_eq (polynomial_text p) text) (Some p) None

-- The Laurent polynomial whose canonical text this is, if it is one that is read (this project's own).
unfoldable pub polynomial_of : List ℕ → Option Laurent
polynomial_of text = where_written text (terms_in (length text) text)
