use Rattle.sp_matrix.proofs.WalkedColumns.{IsWalked}
use Rattle.sp_matrix.proofs.columns.column_rows.Given as goal

abbrev pub invariant-loop-k : goal.invariant-loop-k
invariant-loop-k l = IsWalked l.ctx l.scope l.list.items l.k
