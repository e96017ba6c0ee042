use Rattle.std.proofs.Common.{◌-◌, ◌<◌, ◌≤◌, ℕ, pos, ◌<ℤ◌}
use Rattle.std.specs.Prelude.{slice_index_or}
use Rattle.sp_laurent.proofs.parsing.ascends.Given as goal

abbrev pub invariant-loop-place : goal.invariant-loop-place
invariant-loop-place l =
    (i : ℕ) → 1 ≤ i → i < l.place →
    (slice_index_or l.terms (i - 1) (pos 0, pos 0)).0 <ℤ (slice_index_or l.terms i (pos 0, pos 0)).0
