-- What a context, an entry and a builder are to their callers: keys and numbers. All else that they hold follows from
-- these by the definitions of rows.
use Rattle.std.specs.Prelude.{ℕ, ◌<◌, ◌≤◌, ◌^◌, List, [], length, get_or}
use Rattle.sp_defs.specs.Partition.{regulars}
use Rattle.sp_core.specs.declared.piece.Key.{Key}
use Rattle.sp_partition.specs.declared.TheConstants.{DEGREE_LIMIT}

abbrev pub key_of : ℕ → ℕ → ℕ → Key
key_of e degree limit = record { e = e; degree = degree; limit = limit }

-- What is true of the key of every context.
pub record IsKey (key : Key) : Type 0 where
  pub e_least : 2 ≤ key.e
  pub e_most : key.e ≤ 64
  pub degree : key.degree ≤ DEGREE_LIMIT
  pub limit_least : 1 ≤ key.limit
  pub limit_most : key.limit < 2 ^ 127

-- The e-regular partitions, ascending. Their places are the ranks.
abbrev pub labels : Key → List (List ℕ)
labels key = regulars key.e key.degree

-- The e-regular partition of a rank.
abbrev pub label : Key → ℕ → List ℕ
label key k = get_or (labels key) k []

-- An entry: the table that it belongs to, and its rank there.
pub record Place : Type 0 where
  pub key : Key
  pub rank : ℕ

abbrev pub place : Key → ℕ → Place
place key rank = record { key = key; rank = rank }

-- What is true of every entry.
pub record IsPlace (p : Place) : Type 0 where
  pub key : IsKey p.key
  pub rank : p.rank < length (labels p.key)

-- A builder: the entry that it makes, and the rank below which rows are still to come.
pub record Progress : Type 0 where
  pub key : Key
  pub rank : ℕ
  pub reached : ℕ

abbrev pub progress : Key → ℕ → ℕ → Progress
progress key rank reached = record { key = key; rank = rank; reached = reached }

-- What is true of every builder.
pub record IsProgress (p : Progress) : Type 0 where
  pub place : IsPlace (place p.key p.rank)
  pub reached : p.reached ≤ p.rank
