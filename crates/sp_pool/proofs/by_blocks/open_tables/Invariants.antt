use Rattle.std.proofs.Common.{All}
use Rattle.sp_pool.specs.Tables.{IsFor}
use Rattle.sp_pool.proofs.by_blocks.open_tables.Given as goal

abbrev pub invariant-loop-block : goal.invariant-loop-block
invariant-loop-block l = All (IsFor l.ctx) l.tables.items
