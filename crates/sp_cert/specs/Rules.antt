-- What every certificate keeps to.
use Rattle.std.specs.Prelude.{◌≡◌, ℕ, ◌≤◌, List, map}
use Rattle.std.specs.List.{AllByRecursion}
use Rattle.sp_defs.specs.Statements.{SameContent}
use Rattle.sp_defs.specs.Within.{PowersWithin}
use Rattle.sp_partition.specs.declared.TheConstants.{DEGREE_LIMIT}
use Rattle.sp_llt.specs.Place.{key_of, label}
use Rattle.sp_llt.specs.Shares.{rank_of}
use Rattle.sp_llt.specs.Adopting.{AreListedShares, listed_powers}
use Rattle.sp_cert.specs.declared.certificate.Column.{Column}
use Rattle.sp_cert.specs.Order.{columns_of}

-- What a certificate says: its version, e, its degree, and its columns.
pub record Listing : Type 0 where
  pub version : ℕ
  pub e : ℕ
  pub degree : ℕ
  pub columns : List Column

abbrev pub listing : ℕ → ℕ → ℕ → List Column → Listing
listing version e degree columns = record { version = version; e = e; degree = degree; columns = columns }

-- All partitions of a column have the content of its own.
pub record HasOneContent (e n : ℕ) (c : Column) : Type 0 where
  pub shares : AllByRecursion (λ s. SameContent e c.mu (label (key_of e n 1) s.rank)) c.shares
  pub entries : AllByRecursion (λ t. SameContent e c.mu t.0) c.entries.entries

-- A column of a certificate of this version, e and degree.
pub record IsListedColumn (version e n : ℕ) (c : Column) : Type 0 where
  pub degree : c.entries.degree ≡ n
  pub shares : AreListedShares (rank_of e c.mu) c.shares
  pub powers : AllByRecursion (λ t. PowersWithin listed_powers t.1) c.entries.entries
  pub content : version ≡ 2 → HasOneContent e n c

-- The rules of the type.
pub record IsCertificate (c : Listing) : Type 0 where
  pub version_least : 1 ≤ c.version
  pub version_most : c.version ≤ 2
  pub e_least : 2 ≤ c.e
  pub e_most : c.e ≤ 64
  pub degree : c.degree ≤ DEGREE_LIMIT
  pub order : map (λ column. column.mu) c.columns ≡ columns_of c.version c.e c.degree
  pub each : AllByRecursion (IsListedColumn c.version c.e c.degree) c.columns
