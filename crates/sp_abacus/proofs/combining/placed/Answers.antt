use Rattle.std.proofs.Common.{◌+◌, ◌*◌, ◌++◌, ◌-◌, ◌<◌, ◌≤◌, sym, ◌∙◌, ap, ap₂}
use Rattle.std.proofs.Common.{subst, arith, ◌%◌}
use Rattle.sp_defs.specs.Partition.{degree}
use Rattle.sp_defs.specs.Abacus.{shown}
use Rattle.sp_abacus_law.specs.Beads.{numbers, Falls}
use Rattle.sp_abacus_law.specs.Combined.{combined_beads}
use Rattle.sp_abacus_law.proofs.Weight.{runner-short}
use native.Mathlib.Nat.{mod-lt}
use Rattle.sp_abacus.proofs.Taking.{counted_few, set_few, combined_small, taken_below, taken_all, taken_yes}
use Rattle.sp_abacus.proofs.Taking.{taken_no, taken_room, taken_done, set_falling}
use Rattle.sp_abacus.proofs.combining.placed.Goals as goal

pub overflow_cast-count-3 : goal.overflow_cast-count-3
overflow_cast-count-3 c =
    let few = counted_few c.args.e c.args.kappa.now c.args.quotient.now c.bead_count.result c.total_rows.result
    c.requires c.bead_count.ensures.value c.total_rows.ensures.sum in
    omega arith

pub numbers-requires : goal.numbers-requires
numbers-requires c =
    counted_few c.args.e c.args.kappa.now c.args.quotient.now c.bead_count.result c.total_rows.result c.requires
    c.bead_count.ensures.value c.total_rows.ensures.sum

pub loop-number-init : goal.loop-number-init
loop-number-init c =
    let count = ap₂ (λ m n. m + n * c.args.e) c.bead_count.ensures.value c.total_rows.ensures.sum in
    ap (λ xs. xs ++ taken_below c.args.e c.heights-heights.result c.args.quotient.now 96) c.new-found.ensures
    ∙ taken_all c.args.e c.args.kappa.now c.heights-heights.result c.as_slice.result.now c.args.quotient.now c.requires
    (c.as_slice.ensures.value ∙ c.numbers.ensures ∙ ap (numbers c.args.kappa.now) count) c.heights-heights.ensures

pub is_taken-requires-clause-low : goal.is_taken-requires-clause-low
is_taken-requires-clause-low c =
    let i = (c.loop-number.number - 1) % c.args.e in
    let below : i < c.args.e = mod-lt (c.loop-number.number - 1) (omega arith) in
    let high = c.heights-heights.ensures i (omega arith) in
    let short = runner-short c.args.e c.as_slice.result.now i in
    omega (arith, high, short, c.as_slice.ensures.fits)

pub push-requires : goal.push-requires
push-requires c =
    let room = taken_room c.args.e c.loop-number.number c.heights-heights.result c.loop-number.found.items
    (combined_beads c.args.e c.args.kappa.now c.args.quotient.now) c.args.quotient.now (omega arith)
    (sym c.is_taken.ensures ∙ c.if-is_taken.true)
    (set_few c.args.e c.args.kappa.now c.args.quotient.now c.requires) c.loop-number.invariant in
    (omega arith, room)

pub loop-number-preserved-then-is_taken : goal.loop-number-preserved-then-is_taken
loop-number-preserved-then-is_taken c =
    ap (λ xs. xs ++ taken_below c.args.e c.heights-heights.result c.args.quotient.now (c.loop-number.number - 1))
    c.push.ensures.items
    ∙ taken_yes c.args.e c.loop-number.number c.heights-heights.result c.loop-number.found.items
    (combined_beads c.args.e c.args.kappa.now c.args.quotient.now) c.args.quotient.now (omega arith)
    (sym c.is_taken.ensures ∙ c.if-is_taken.true) c.loop-number.invariant

pub loop-number-preserved : goal.loop-number-preserved
loop-number-preserved c =
    taken_no c.args.e c.loop-number.number c.heights-heights.result c.loop-number.found.items
    (combined_beads c.args.e c.args.kappa.now c.args.quotient.now) c.args.quotient.now (omega arith)
    (sym c.is_taken.ensures ∙ c.if-is_taken.false) c.loop-number.invariant

pub returns-clause-falls : goal.returns-clause-falls
returns-clause-falls c =
    let done = taken_done c.args.e c.loop-number.number c.heights-heights.result c.loop-number.found.items
    (combined_beads c.args.e c.args.kappa.now c.args.quotient.now) c.args.quotient.now (omega arith)
    c.loop-number.invariant in
    subst Falls (sym done) (set_falling c.args.e c.args.kappa.now c.args.quotient.now c.requires)

pub returns-clause-small : goal.returns-clause-small
returns-clause-small c =
    let done = taken_done c.args.e c.loop-number.number c.heights-heights.result c.loop-number.found.items
    (combined_beads c.args.e c.args.kappa.now c.args.quotient.now) c.args.quotient.now (omega arith)
    c.loop-number.invariant in
    subst (λ bs. degree (shown bs) ≤ 32) (sym done)
    (combined_small c.args.e c.args.kappa.now c.args.quotient.now c.requires)
