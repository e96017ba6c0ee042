use Rattle.std.proofs.Common.{◌≡◌, ◌+◌, ◌*◌, take, sum_by, unsigned_abs}
use Rattle.sp_defs.specs.Laurent.{slope_at_one}
use Rattle.sp_laurent.proofs.values.slope_of.Given as goal

abbrev pub invariant-loop-power : goal.invariant-loop-power
invariant-loop-power l =
    (l.slope ≡ slope_at_one (take l.power-index l.terms))
    × (sum_by (λ t. unsigned_abs t.0 * unsigned_abs t.1) (take l.power-index l.terms) + l.room ≡ l.limit)
