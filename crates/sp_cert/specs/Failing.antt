-- The first column of a certificate that fails, as a function: the test of each column computes.
use Rattle.std.specs.Prelude.{ℕ, Bool, ◌&&◌, ◌||◌, nat_eq, nat_lt, cond, List, [], ◌∷◌, Option, Some, None}
use Rattle.std.specs.Cmp.Lexicographic.{pointwise}
use Rattle.std.specs.List.{list_all}
use Rattle.sp_defs.specs.Partition.{degree, partitions}
use Rattle.sp_defs.specs.Laurent.{Laurent, one, plus, bar, collect}
use Rattle.sp_defs.specs.Power.{Vector, vector_of}
use Rattle.sp_defs.specs.Ladder.{ladder_vector}
use Rattle.sp_defs.specs.Row.{Factors, combination, is_positive}
use Rattle.sp_column_law.specs.Column.{column_weight}
use Rattle.sp_core.specs.declared.piece.Key.{Key}
use Rattle.sp_llt.specs.Adopting.{factors_at}
use Rattle.sp_cert.specs.declared.certificate.Column.{Column}
use Rattle.sp_cert.specs.Polynomials.{same_term}
use Rattle.sp_cert.specs.Verdict.{listed_in}

-- The same terms.
abbrev pub same_polynomial : Laurent → Laurent → Bool
same_polynomial p q = pointwise same_term p q

-- A column is right, as a test: `IsRight` of columns, over the list of all partitions of its degree.
-- (after Lascoux, Leclerc and Thibon, Comm. Math. Phys. 181, 1996, section 6; certificates: this project's own)
abbrev pub is_right : ℕ → (List ℕ → Vector) → List ℕ → Factors → Vector → Bool
is_right e listed mu shares w =
    let elsewhere : List ℕ → Bool = λ lambda. pointwise nat_eq lambda mu || is_positive (collect (w lambda)) in
    let is_sum : List ℕ → Bool = λ lambda.
    same_polynomial (ladder_vector e mu lambda) (plus (w lambda) (combination listed shares lambda)) in
    same_polynomial (w mu) one &&
    (list_all elsewhere (partitions (degree mu)) &&
    (list_all (λ a. same_polynomial (bar a.1) a.1) shares && list_all is_sum (partitions (degree mu))))

-- A column of these is too large, as a test.
abbrev pub is_large : Key → List Column → Column → Bool
is_large key columns c =
    nat_lt key.limit (column_weight key.e (listed_in columns) c.mu (factors_at key c.shares))

-- A column of these is right, as a test.
abbrev pub is_right_column : Key → List Column → Column → Bool
is_right_column key columns c =
    is_right key.e (listed_in columns) c.mu (factors_at key c.shares) (vector_of c.entries.entries)

-- A column that fails, by its partition: it is too large, or it is not but isn't right (this project's own).
pub data Failing : Type 0 where
  LargeAt : List ℕ → Failing
  WrongAt : List ℕ → Failing

-- The first of some columns that fails among all columns, if one does (this project's own).
abbrev pub first_failing_of : Key → List Column → List Column → Option Failing
first_failing_of key columns [] = None
first_failing_of key columns (c ∷ cs) =
    cond (is_large key columns c) (Some (LargeAt c.mu))
    (cond (is_right_column key columns c) (first_failing_of key columns cs) (Some (WrongAt c.mu)))

-- The first column that fails, if one does (this project's own).
unfoldable pub first_failing : Key → List Column → Option Failing
first_failing key columns = first_failing_of key columns columns
