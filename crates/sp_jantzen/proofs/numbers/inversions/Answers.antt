use Rattle.std.proofs.Common.{◌≡◌, ◌+◌, drop, slice_index, arith}
use Rattle.std.proofs.lemmas.List.{at_drop_all}
use Rattle.std.proofs.lemmas.Grind.{common_steps}
use Rattle.sp_module_defs.specs.Jantzen.{inversions}
use Rattle.sp_jantzen.specs.Beads.{count_greater}
use Rattle.sp_jantzen.proofs.Moves.{inversions-step, inversions-small}
use Rattle.sp_jantzen.proofs.numbers.inversions.Goals as goal

pub overflow_add-count : goal.overflow_add-count
overflow_add-count c =
    let xs = c.args.numbers.now in
    let i = c.loop-place.place in
    let more : c.count_greater-count.result ≡ count_greater (slice_index xs i) (drop (i + 1) xs) =
    grind (arith, common_steps, c.count_greater-count.ensures) in
    let step = inversions-step xs i c.loop-place.count c.count_greater-count.result c.loop-place-test.true more
    c.loop-place.invariant in
    omega (arith, step, inversions-small xs c.requires)

pub loop-place-preserved : goal.loop-place-preserved
loop-place-preserved c =
    let xs = c.args.numbers.now in
    let i = c.loop-place.place in
    let more : c.count_greater-count.result ≡ count_greater (slice_index xs i) (drop (i + 1) xs) =
    grind (arith, common_steps, c.count_greater-count.ensures) in
    inversions-step xs i c.loop-place.count c.count_greater-count.result c.loop-place-test.true more
    c.loop-place.invariant

pub returns : goal.returns
unfolding inversions
returns c =
    let gone = at_drop_all inversions c.args.numbers.now c.loop-place.place c.loop-place-test.false in
    omega (arith, c.loop-place.invariant)
