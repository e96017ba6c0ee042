use Rattle.std.proofs.Common.{◌≡◌, map}
use Rattle.std.specs.List.{range_with_len}
use Rattle.sp_defs.specs.Laurent.{nought}
use Rattle.sp_inverse.proofs.inverse.first_cells.Given as goal

abbrev pub invariant-loop-line : goal.invariant-loop-line
invariant-loop-line l = l.cells.items ≡ map (λ k. nought) (range_with_len 0 l._line)
