-- What a reader holds of the lines that came, and what that says.
use Rattle.std.specs.Prelude.{◌≡◌, ℕ, ◌≤◌, List, [], ◌∷◌, map, flat_map, take, drop, length}
use Rattle.std.specs.Prelude.{reverse, filter, Option, None, Some}
use Rattle.std.specs.List.{AllByRecursion}
use Rattle.std.specs.Option.{option_map}
use Rattle.sp_defs.specs.Partition.{regulars, IsRegularOf}
use Rattle.sp_fock.specs.Held.{IsHeld}
use Rattle.sp_partition.specs.declared.TheConstants.{DEGREE_LIMIT}
use Rattle.sp_llt.specs.Shares.{rank_of}
use Rattle.sp_cert.specs.declared.certificate.Column.{Column}
use Rattle.sp_cert.specs.declared.heads.Head.{Head as HeldHead}
use Rattle.sp_cert.specs.declared.heads.Head.TheVariants.{Block as HeldBlock, Column as HeldColumn}
use Rattle.sp_cert.specs.declared.draft.Header.{Header}
use Rattle.sp_cert.specs.declared.draft.Begun.{Begun}
use Rattle.sp_cert.specs.declared.draft.Draft.{Draft}
use Rattle.sp_cert.specs.Order.{same_content}
use Rattle.sp_cert.specs.Rules.{Listing, IsListedColumn}
use Rattle.sp_cert.specs.Grammar.{Head, BlockHead, ColumnHead, heads_of, Body, begun_columns}
use Rattle.sp_cert.specs.Grammar.{Answer, Allowed, Ends, NotAllowed, Columns}

-- ---- what is said

abbrev pub head_of : HeldHead → Head
head_of (HeldBlock mu) = BlockHead mu
head_of (HeldColumn mu) = ColumnHead mu

-- The heads of the block of mu, among these e-regular partitions.
abbrev pub heads_in : ℕ → List (List ℕ) → List ℕ → List Head
heads_in e list mu = BlockHead mu ∷ map ColumnHead (filter (same_content e mu) list)

abbrev pub column_of : ℕ → Begun → Column
column_of n b = record {
  mu = b.mu;
  shares = b.shares.items;
  entries = record { degree = n; entries = reverse b.entries.items };
}

abbrev pub body_of : Draft → Body
body_of d = record {
  version = d.header.version;
  e = d.header.e;
  degree = d.header.degree;
  columns = d.columns.items;
  begun = option_map (column_of d.header.degree) d.begun;
  heads = drop d.passed (map head_of d.heads.items);
}

-- What a line of a column is, by what then came.
abbrev pub draft_answer : Option Draft → Answer
draft_answer None = NotAllowed
draft_answer (Some d) = Allowed (Columns (body_of d))

-- What `end` is, by the certificate that then is whole.
abbrev pub whole_answer : Option Listing → Answer
whole_answer None = NotAllowed
whole_answer (Some c) = Ends c

-- ---- what is true of it

pub record IsHeader (h : Header) : Type 0 where
  pub version_least : 1 ≤ h.version
  pub version_most : h.version ≤ 2
  pub e_least : 2 ≤ h.e
  pub e_most : h.e ≤ 64
  pub degree : h.degree ≤ DEGREE_LIMIT
  pub regulars : h.regulars.items ≡ regulars h.e h.degree

-- A column that can go on.
pub record IsBegun (h : Header) (b : Begun) : Type 0 where
  pub regular : IsRegularOf h.e h.degree b.mu
  pub rank : b.rank ≡ rank_of h.e b.mu
  pub listed : IsListedColumn h.version h.e h.degree (column_of h.degree b)
  pub held : IsHeld (column_of h.degree b).entries

abbrev pub IsBegunOrNone : Header → Option Begun → Type 0
IsBegunOrNone h None = Unit {0}
IsBegunOrNone h (Some b) = IsBegun h b

-- The partition of a column that a head names.
abbrev pub named : Head → List (List ℕ)
named (BlockHead mu) = []
named (ColumnHead mu) = mu ∷ []

-- The partitions that the heads before the place name are those of the columns.
pub record IsDraft (d : Draft) : Type 0 where
  pub header : IsHeader d.header
  pub heads : map head_of d.heads.items ≡ heads_of d.header.version d.header.e d.header.degree
  pub passed : d.passed ≤ length d.heads.items
  pub order : map (λ c. c.mu) (begun_columns (body_of d)) ≡ flat_map named (take d.passed (map head_of d.heads.items))
  pub columns : AllByRecursion (IsListedColumn d.header.version d.header.e d.header.degree) d.columns.items
  pub begun : IsBegunOrNone d.header d.begun
