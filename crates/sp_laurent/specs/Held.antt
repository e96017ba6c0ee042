-- What is true of every polynomial that the code holds.
use Rattle.std.specs.Prelude.{ℕ, ◌^◌, ◌<◌, unsigned_abs}
use Rattle.sp_defs.specs.Laurent.{Laurent, IsLaurent, size}
use Rattle.sp_defs.specs.Within.{PowersWithin}
use Rattle.sp_laurent.specs.declared.TheConstants.{POWER_LIMIT}

abbrev pub power_limit : ℕ
power_limit = unsigned_abs POWER_LIMIT

pub record IsHeld (p : Laurent) : Type 0 where
  pub laurent : IsLaurent p
  pub small : size p < 2 ^ 127
  pub powers : PowersWithin power_limit p
