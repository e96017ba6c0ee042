-- The canonical texts of partitions, Laurent polynomials and vectors, as lists of ASCII codes.
use Rattle.std.specs.Prelude.{ℕ, ◌==◌, Bool, false, cond, ◌&&◌, nat_lt, nat_eq, not, List, [], ◌∷◌, ◌++◌, map, reverse}
use Rattle.std.specs.Prelude.{count_by, filter, flat_map, codes, ℤ, pos, int_lt, unsigned_abs}
use Rattle.std.specs.Ordering.{int_eq}
use Rattle.std.specs.Fmt.{decimal, signed_decimal}
use Rattle.sp_defs.specs.Laurent.{Laurent, Term}
use Rattle.sp_defs.specs.Power.{Entries}

-- These texts, with the separator between each two (this project's own).
abbrev pub joined_by : List ℕ → List (List ℕ) → List ℕ
joined_by separator [] = []
joined_by separator (text ∷ []) = text
joined_by separator (text ∷ next ∷ texts) = text ++ separator ++ joined_by separator (next ∷ texts)

-- ---- partitions

-- The distinct parts, in order (this project's own).
abbrev pub distinct : List ℕ → List ℕ
distinct [] = []
distinct (p ∷ parts) = p ∷ filter (λ q. not (nat_eq q p)) (distinct parts)

-- A part that occurs m times (this project's own).
abbrev pub part_text : ℕ → ℕ → List ℕ
part_text p m = decimal p ++ cond (nat_lt 1 m) (codes "^" ++ decimal m) []

-- The distinct parts from greatest to least, separated by commas; the empty partition is a dash (this project's own).
unfoldable pub partition_text : List ℕ → List ℕ
partition_text [] = codes "-"
partition_text (p ∷ parts) =
    joined_by (codes ",") (map (λ q. part_text q (count_by (nat_eq q) (p ∷ parts))) (distinct (p ∷ parts)))

-- ---- Laurent polynomials

-- The coefficient is below 0 (this project's own).
abbrev pub is_negative : Term → Bool
is_negative (k, c) = int_lt c (pos 0)

-- v to the power k, where k isn't 0 (this project's own)
abbrev pub power_text : ℤ → List ℕ
power_text k = cond (int_eq k (pos 1)) (codes "v") (codes "v^" ++ signed_decimal k)

-- A term without its sign. A coefficient 1 is written at the power 0 alone (this project's own).
unfoldable pub term_text : Term → List ℕ
term_text (k, c) =
    cond (int_eq k (pos 0)) (decimal (unsigned_abs c))
    (cond (unsigned_abs c == 1) [] (decimal (unsigned_abs c)) ++ power_text k)

-- A later term has its sign in front (this project's own).
abbrev pub signed_term_text : Term → List ℕ
signed_term_text t = cond (is_negative t) (codes "-") (codes "+") ++ term_text t

-- Terms in ascending order of powers. A first term has a sign only where it is negative (this project's own).
unfoldable pub polynomial_text : Laurent → List ℕ
polynomial_text [] = codes "0"
polynomial_text (t ∷ ts) = cond (is_negative t) (codes "-") [] ++ term_text t ++ flat_map signed_term_text ts

-- ---- vectors

-- A single negative term has its sign in front of the entry (this project's own).
abbrev pub has_minus : Laurent → Bool
has_minus [] = false
has_minus (t ∷ []) = is_negative t
has_minus (t ∷ u ∷ ts) = false

-- A single term is written without its sign, and not at all where it is 1 or -1. More terms stand in parentheses.
-- (this project's own)
abbrev pub factor_text : Laurent → List ℕ
factor_text [] = []
factor_text ((k, c) ∷ []) = cond (int_eq k (pos 0) && nat_eq (unsigned_abs c) 1) [] (term_text (k, c))
factor_text (t ∷ u ∷ ts) = codes "(" ++ polynomial_text (t ∷ u ∷ ts) ++ codes ")"

-- The factor, and the partition in brackets (this project's own).
abbrev pub entry_text : List ℕ × Laurent → List ℕ
entry_text (lambda, p) = factor_text p ++ codes "[" ++ partition_text lambda ++ codes "]"

-- A later entry, with its sign between (this project's own).
abbrev pub next_entry_text : List ℕ × Laurent → List ℕ
next_entry_text (lambda, p) = cond (has_minus p) (codes " - ") (codes " + ") ++ entry_text (lambda, p)

-- Entries in the order in which they are written (this project's own).
abbrev pub written : Entries → List ℕ
written [] = codes "0"
written ((lambda, p) ∷ others) =
    cond (has_minus p) (codes "-") [] ++ entry_text (lambda, p) ++ flat_map next_entry_text others

-- Entries stand in descending order of partitions. The zero vector is 0 (this project's own).
unfoldable pub vector_text : Entries → List ℕ
vector_text es = written (reverse es)
