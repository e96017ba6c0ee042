-- Texts of partitions and polynomials that differ from the canonical ones by how they write powers.
use Rattle.std.specs.Prelude.{ℕ, ◌==◌, cond, nat_lt, nat_eq, List, [], ◌∷◌, ◌++◌, map, flat_map, count_by, codes}
use Rattle.std.specs.Prelude.{ℤ, pos, unsigned_abs}
use Rattle.std.specs.Ordering.{int_eq}
use Rattle.std.specs.Fmt.{decimal, signed_decimal}
use Rattle.sp_defs.specs.Laurent.{Laurent, Term}
use Rattle.sp_defs.specs.Text.{is_negative, distinct, joined_by}
use Rattle.sp_paint.specs.declared.notation.Notation.{Notation}
use Rattle.sp_paint.specs.declared.notation.Notation.TheVariants.{Braced, Starred}

-- An exponent with its caret (this project's own).
abbrev pub exponent_text : Notation → List ℕ → List ℕ
exponent_text Braced number = codes "^{" ++ number ++ codes "}"
exponent_text Starred number = codes "^" ++ number

-- What stands between a coefficient that is written and v (this project's own).
abbrev pub times_text : Notation → List ℕ
times_text Braced = []
times_text Starred = codes "*"

-- ---- polynomials

-- A coefficient in front of v. 1 isn't written (this project's own).
unfoldable pub factor_text : Notation → ℕ → List ℕ
factor_text notation c = cond (c == 1) [] (decimal c ++ times_text notation)

-- v to the power k, where k isn't 0 (this project's own).
unfoldable pub power_text : Notation → ℤ → List ℕ
power_text notation k = codes "v" ++ cond (int_eq k (pos 1)) [] (exponent_text notation (signed_decimal k))

-- A term without its sign (this project's own).
unfoldable pub term_text : Notation → Term → List ℕ
term_text notation (k, c) =
    cond (int_eq k (pos 0)) (decimal (unsigned_abs c))
    (factor_text notation (unsigned_abs c) ++ power_text notation k)

-- A first term has a sign only where it is negative (this project's own).
abbrev pub first_term_text : Notation → Term → List ℕ
first_term_text notation t = cond (is_negative t) (codes "-") [] ++ term_text notation t

abbrev pub later_term_text : Notation → Term → List ℕ
later_term_text notation t = cond (is_negative t) (codes "-") (codes "+") ++ term_text notation t

-- Terms in ascending order of powers (this project's own).
unfoldable pub polynomial_text : Notation → Laurent → List ℕ
polynomial_text notation [] = codes "0"
polynomial_text notation (t ∷ ts) = first_term_text notation t ++ flat_map (later_term_text notation) ts

-- ---- partitions

-- A part that occurs m times (this project's own).
abbrev pub part_text : Notation → ℕ → ℕ → List ℕ
part_text notation p m = decimal p ++ cond (nat_lt 1 m) (exponent_text notation (decimal m)) []

-- The distinct parts from greatest to least, separated by commas; the empty partition is a dash (this project's own).
unfoldable pub partition_text : Notation → List ℕ → List ℕ
partition_text notation [] = codes "-"
partition_text notation (p ∷ parts) =
    joined_by (codes ",") (map (λ q. part_text notation q (count_by (nat_eq q) (p ∷ parts))) (distinct (p ∷ parts)))
