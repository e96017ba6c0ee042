use Rattle.std.proofs.Common.{◌-◌, ◌≤◌}
use Rattle.sp_module_defs.specs.Cells.{place}
use Rattle.sp_cartan.proofs.squares.place_from.Given as goal

abbrev pub invariant-loop-line : goal.invariant-loop-line
invariant-loop-line l = l.line ≤ place l.lines l.p

abbrev pub decreases-loop-line : goal.decreases-loop-line
decreases-loop-line l = place l.lines l.p - l.line
