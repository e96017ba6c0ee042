-- The pieces of a canonical text, as they are read from the front.
use Rattle.std.specs.Prelude.{ℕ, ◌≡◌, ◌^◌, ◌<◌, ◌≤◌, ◌⊎◌, true, false, cond, nat_eq, List, [], ◌∷◌, ◌++◌, codes}
use Rattle.std.specs.Prelude.{◌-◌, ◌≢◌, ◌<ℤ◌, length, slice_index, slice_index_or, Option, Some, None, ℤ, pos}
use Rattle.std.specs.Prelude.{unsigned_abs}
use Rattle.std.specs.Ordering.{int_eq}
use Rattle.std.specs.Char.{is_ascii_digit}
use Rattle.sp_defs.specs.Laurent.{Laurent, Term}
use Rattle.sp_defs.specs.Text.{is_negative, power_text, term_text, signed_term_text}
use Rattle.sp_laurent.specs.Readable.{read_limit}

-- No digit stands in front.
abbrev pub IsPlain : List ℕ → Type 0
IsPlain [] = Unit {0}
IsPlain (c ∷ text) = is_ascii_digit c ≡ false

-- A sign stands in front, or nothing.
abbrev pub IsSigned : List ℕ → Type 0
IsSigned [] = Unit {0}
IsSigned (c ∷ text) = (c ≡ 43) ⊎ (c ≡ 45)

-- The digits in front end here.
pub record EndsDigits (text : List ℕ) (end : ℕ) : Type 0 where
  pub within : end ≤ length text
  pub before : (k : ℕ) → k < end → is_ascii_digit (slice_index text k) ≡ true
  pub there : end < length text → is_ascii_digit (slice_index text end) ≡ false

-- What stands behind the mark in front.
abbrev pub behind_mark : ℕ → List ℕ → Option (List ℕ)
behind_mark mark [] = None
behind_mark mark (c ∷ text) = cond (nat_eq c mark) (Some text) None

-- What is written of a power behind its coefficient.
abbrev pub power_part : ℤ → List ℕ
power_part k = cond (int_eq k (pos 0)) [] (power_text k)

-- The first term, with its sign where it is negative.
abbrev pub first_term_text : Term → List ℕ
first_term_text t = cond (is_negative t) (codes "-") [] ++ term_text t

-- The powers ascend.
abbrev pub Ascends : Laurent → Type 0
Ascends p =
    (i : ℕ) → 1 ≤ i → i < length p →
    (slice_index_or p (i - 1) (pos 0, pos 0)).0 <ℤ (slice_index_or p i (pos 0, pos 0)).0

-- A term of a polynomial, of a power that is read.
abbrev pub IsGood : Term → Type 0
IsGood t = (t.1 ≢ pos 0) × (unsigned_abs t.0 ≤ read_limit)

-- The term fits.
pub record IsSmall (t : Term) : Type 0 where
  pub power : unsigned_abs t.0 ≤ read_limit
  pub coefficient : unsigned_abs t.1 < 2 ^ 127

-- The text of the term stands in front, and this behind it.
pub record Begins (t : Term) (rest text : List ℕ) : Type 0 where
  pub small : IsSmall t
  pub signed : IsSigned rest
  pub is : (text ≡ first_term_text t ++ rest) ⊎ (text ≡ signed_term_text t ++ rest)
