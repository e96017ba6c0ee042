use Rattle.std.proofs.Common.{◌≡◌, vec_len}
use Rattle.sp_reply_tests.proofs.pages.row.Given as goal

abbrev pub invariant-loop-coefficient : goal.invariant-loop-coefficient
invariant-loop-coefficient l = vec_len l.cells ≡ l.coefficient-index
