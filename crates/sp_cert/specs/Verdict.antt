-- What the test of a certificate answers.
use Rattle.std.specs.Prelude.{◌≡◌, ℕ, ◌<◌, ◌≤◌, cond, List, [], ◌∷◌, ◌++◌}
use Rattle.std.specs.List.{AllByRecursion}
use Rattle.std.specs.Ordering.{is_eq}
use Rattle.sp_defs.specs.Partition.{compare}
use Rattle.sp_defs.specs.Power.{Vector, fock_vector, vector_of}
use Rattle.sp_defs.specs.Row.{regular_row, Row}
use Rattle.sp_column_law.specs.Column.{column_weight, IsRight}
use Rattle.sp_core.specs.declared.piece.Key.{Key}
use Rattle.sp_llt.specs.Place.{place}
use Rattle.sp_llt.specs.Shares.{rank_of, given_shares}
use Rattle.sp_llt.specs.Refusals.{outcome_at}
use Rattle.sp_llt.specs.Adopting.{factors_at}
use Rattle.sp_cert.specs.declared.certificate.Column.{Column}
use Rattle.sp_cert.specs.declared.fault.CertFault.{CertFault}
use Rattle.sp_cert.specs.declared.fault.CertFault.TheVariants.{Malformed, TooLarge, Wrong, Memory}

-- The vector that is listed for a partition, or 0 where there is none.
unfoldable pub listed_in : List Column → List ℕ → Vector
listed_in [] nu lambda = []
listed_in (c ∷ cs) nu lambda =
    cond (is_eq (compare c.mu nu)) (vector_of c.entries.entries lambda) (listed_in cs nu lambda)

-- A column of these is too large: a coefficient of a partial ladder vector of its partition passes the limit, or, at
-- some partition, the sizes of the ladder vector and of the shares times the listed columns do.
abbrev pub IsLarge : Key → List Column → Column → Type 0
IsLarge key columns c = key.limit < column_weight key.e (listed_in columns) c.mu (factors_at key c.shares)

abbrev pub Fits : Key → List Column → Column → Type 0
Fits key columns c = column_weight key.e (listed_in columns) c.mu (factors_at key c.shares) ≤ key.limit

-- A column of these is right.
abbrev pub IsRightColumn : Key → List Column → Column → Type 0
IsRightColumn key columns c =
    IsRight key.e (listed_in columns) c.mu (factors_at key c.shares) (vector_of c.entries.entries)

-- A column of these that is not too large, and right.
pub record IsAccepted (key : Key) (columns : List Column) (c : Column) : Type 0 where
  pub fits : Fits key columns c
  pub right : IsRightColumn key columns c

-- A column is the row of its partition, with its shares.
pub record IsRowColumn (key : Key) (c : Column) : Type 0 where
  pub outcome : outcome_at (place key (rank_of key.e c.mu)) ≡ Row
  pub row : c.entries ≡ fock_vector key.degree (regular_row key.e c.mu)
  pub shares : c.shares ≡ given_shares key.e c.mu 0

-- The first column that is not accepted is this one, and this is true of it.
pub record FailsFirst (Bad : Column → Type 0) (key : Key) (columns : List Column) (at : List ℕ) : Type 0 where
  pub accepted : List Column
  pub failing : Column
  pub others : List Column
  pub place : columns ≡ accepted ++ (failing ∷ others)
  pub before : AllByRecursion (IsAccepted key columns) accepted
  pub mu : failing.mu ≡ at
  pub bad : Bad failing

-- Not too large, but not right.
pub record IsWrong (key : Key) (columns : List Column) (c : Column) : Type 0 where
  pub fits : Fits key columns c
  pub wrong : IsRightColumn key columns c → ⊥

-- Why a certificate is refused: by the first column that fails, as too large before wrong.
abbrev pub IsCause : Key → List Column → CertFault → Type 0
IsCause key columns (Malformed line) = ⊥
IsCause key columns (TooLarge at) = FailsFirst (IsLarge key columns) key columns at
IsCause key columns (Wrong at) = FailsFirst (IsWrong key columns) key columns at
IsCause key columns Memory = Unit {0}
