use Rattle.std.proofs.Common.{rules, ◌≡◌}
use Rattle.std.specs.Ordering.{ordering_then}
use Rattle.sp_defs.specs.Partition.{compare}
use Rattle.sp_partition.specs.Padded.{eight}
use Rattle.sp_partition.proofs.EightsOrder.{eights_order}
use Rattle.sp_partition.proofs.eights.compare_arrays.Goals as goal

pub returns : goal.returns
returns c =
    let xs = c.args.first.now in
    let ys = c.args.second.now in
    let second : c.then_with.result ≡ ordering_then c.compare_eights.result (compare (eight 8 xs) (eight 8 ys)) =
    search rules in
    let third : c.then_with-2.result ≡ ordering_then c.then_with.result (compare (eight 16 xs) (eight 16 ys)) =
    search rules in
    let last : c.then_with-3.result ≡ ordering_then c.then_with-2.result (compare (eight 24 xs) (eight 24 ys)) =
    search rules in
    eights_order xs ys c.told-first c.told-second _ _ _ _ c.compare_eights.ensures second third last
