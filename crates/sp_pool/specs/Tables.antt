-- Tables of blocks. This project's own.
use Rattle.std.specs.Prelude.{◌≡◌}
use Rattle.sp_core.specs.declared.piece.Key.{Key}
use Rattle.sp_pool.specs.declared.table.Table.{Table}

-- The table has rows of this context.
abbrev pub IsFor : Key → Table → Type 0
IsFor key table = table.cells.key ≡ key
