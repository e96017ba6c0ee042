-- What the laws of rows say of the regular row and the shares that an entry holds.
use Rattle.std.specs.Prelude.{◌≡◌, ◌≢◌, ℕ, ◌+◌, ◌*◌, ◌<◌, []}
use Rattle.std.specs.List.{AllByRecursion}
use Rattle.sp_defs.specs.Partition.{IsEarlier}
use Rattle.sp_defs.specs.Laurent.{one, IsBarInvariant}
use Rattle.sp_defs.specs.Power.{Entries, vector_of}
use Rattle.sp_defs.specs.Within.{PowersWithin}
use Rattle.sp_defs.specs.Statements.{SameContent}
use Rattle.sp_llt.specs.declared.share.Share.{Share}
use Rattle.sp_llt.specs.Place.{Place, label}

-- How far the powers in a regular row lie from 0.
abbrev pub row_powers : Place → ℕ
row_powers p = (p.rank + 1) * (p.key.degree * p.key.degree)

-- The coefficient at mu is 1, every other partition is earlier than mu, all have mu's content, and the powers are
-- within
-- a bound.
pub record ObeysRowLaw (p : Place) (es : Entries) : Type 0 where
  pub at_mu : vector_of es (label p.key p.rank) ≡ one
  pub below : AllByRecursion (λ t. t.0 ≢ label p.key p.rank → IsEarlier t.0 (label p.key p.rank)) es
  pub contents : AllByRecursion (λ t. SameContent p.key.e (label p.key p.rank) t.0) es
  pub powers : AllByRecursion (λ t. PowersWithin (row_powers p) t.1) es

-- A share is bar-invariant, is that of an earlier row of the same content, and its powers are within a bound.
pub record ObeysShareLaw (p : Place) (s : Share) : Type 0 where
  pub earlier : s.rank < p.rank
  pub nonzero : s.alpha ≢ []
  pub invariant : IsBarInvariant s.alpha
  pub content : SameContent p.key.e (label p.key p.rank) (label p.key s.rank)
  pub powers : PowersWithin (p.key.degree * p.key.degree) s.alpha
