use Rattle.std.proofs.Common.{◌≡◌, ◌+◌, take}
use Rattle.sp_defs.specs.Laurent.{slope_at_one}
use Rattle.sp_module_defs.specs.Agreement.{slope_size}
use Rattle.sp_matrix.proofs.products.sum_of.Given as goal

abbrev pub invariant-loop-factor : goal.invariant-loop-factor
invariant-loop-factor l =
    (l.sum ≡ slope_at_one (take l.factor-index l.products))
    × (slope_size (take l.factor-index l.products) + l.room ≡ l.limit)
