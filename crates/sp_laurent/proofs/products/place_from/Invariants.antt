use Rattle.std.proofs.Common.{length, ◌-◌, ◌≤◌, ◌<ℤ◌, take}
use Rattle.std.specs.List.{AllByRecursion}
use Rattle.sp_laurent.proofs.products.place_from.Given as goal

abbrev pub invariant-loop-place : goal.invariant-loop-place
invariant-loop-place l =
    record {
      within : l.place ≤ length l.terms;
      low : AllByRecursion (λ t. t.0 <ℤ l.fn.power) (take l.place l.terms);
    }

abbrev pub decreases-loop-place : goal.decreases-loop-place
decreases-loop-place l = length l.terms - l.place
