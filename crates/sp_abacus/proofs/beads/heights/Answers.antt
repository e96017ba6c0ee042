use Rattle.std.proofs.Common.{◌%◌, ◌≤◌, slice_index, slice_index_or, take, length-take-le, arith}
use Rattle.sp_abacus.proofs.Walks.{counted_none, counted_small}
use Rattle.sp_abacus.proofs.beads.heights.Goals as goal

pub loop-number-init : goal.loop-number-init
loop-number-init c = counted_none c.args.e

pub overflow_add-counts : goal.overflow_add-counts
overflow_add-counts c =
    let seen = take c.loop-number.number-index c.args.numbers.now in
    let i = slice_index_or c.args.numbers.now c.loop-number.number-index 0 % c.args.e in
    let small : slice_index c.loop-number.counts i ≤ 64 =
    counted_small c.args.e c.loop-number.counts seen i 64 (omega arith)
    (omega (arith, length-take-le c.loop-number.number-index c.args.numbers.now)) c.loop-number.invariant in
    omega arith
