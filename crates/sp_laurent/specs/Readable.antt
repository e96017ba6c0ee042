-- The polynomials whose texts are read.
use Rattle.std.specs.Prelude.{ℕ, ◌^◌, ◌<◌, unsigned_abs}
use Rattle.sp_defs.specs.Laurent.{Laurent, IsLaurent, size}
use Rattle.sp_defs.specs.Within.{PowersWithin}
use Rattle.sp_laurent.specs.declared.TheConstants.{READ_LIMIT}

abbrev pub read_limit : ℕ
read_limit = unsigned_abs READ_LIMIT

-- The size and the powers have limits.
pub record IsReadable (p : Laurent) : Type 0 where
  pub laurent : IsLaurent p
  pub small : size p < 2 ^ 127
  pub powers : PowersWithin read_limit p
