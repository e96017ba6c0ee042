use Rattle.std.proofs.Common.{◌≡◌, ◌++◌, ◌-◌, ◌<◌, ◌≤◌, length, sym, ◌∙◌, ap, subst, arith}
use Rattle.sp_defs.specs.Partition.{degree}
use Rattle.sp_defs.specs.Abacus.{beta, runner, shown, slid}
use Rattle.sp_abacus_law.specs.Beads.{Falls}
use Rattle.sp_abacus_law.proofs.Weight.{slid-falls, length-slid}
use Rattle.sp_abacus.proofs.Walks.{below_heights, below_heights-all, slid_room, slid_yes, slid_no, slid_done}
use Rattle.sp_abacus.proofs.Showing.{core_small}
use Rattle.sp_abacus.proofs.beads.slid.Goals as goal

pub loop-number-init : goal.loop-number-init
loop-number-init c =
    let numbers : c.as_slice.result.now ≡ beta c.args.e c.args.p.now =
    c.as_slice.ensures.value ∙ c.beta.ensures.numbers in
    ap (λ xs. xs ++ below_heights c.args.e c.heights-heights.result 96) c.new-found.ensures
    ∙ below_heights-all c.args.e c.args.p.now c.heights-heights.result c.requires.e_least c.requires.e_most
    c.beta.ensures.held (subst (λ xs. length xs ≤ 64) numbers c.as_slice.ensures.fits)
    (λ i lt. c.heights-heights.ensures i lt ∙ ap (λ bs. length (runner c.args.e bs i)) numbers)

pub push-requires : goal.push-requires
push-requires c =
    let numbers : c.as_slice.result.now ≡ beta c.args.e c.args.p.now =
    c.as_slice.ensures.value ∙ c.beta.ensures.numbers in
    let few : length (beta c.args.e c.args.p.now) ≤ 64 =
    subst (λ xs. length xs ≤ 64) numbers c.as_slice.ensures.fits in
    let room : length c.loop-number.found.items < 64 =
    slid_room c.args.e c.loop-number.number c.args.p.now c.heights-heights.result c.loop-number.found.items
    (omega arith) c.if-number-e.true (omega (arith, few, length-slid c.args.e c.args.p.now (omega arith)))
    c.loop-number.invariant in
    (omega arith, room)

pub loop-number-preserved-then-number-e : goal.loop-number-preserved-then-number-e
loop-number-preserved-then-number-e c =
    ap (λ xs. xs ++ below_heights c.args.e c.heights-heights.result (c.loop-number.number - 1)) c.push.ensures.items
    ∙ slid_yes c.args.e c.loop-number.number c.heights-heights.result c.loop-number.found.items
    (slid c.args.e c.args.p.now) (omega arith) c.if-number-e.true c.loop-number.invariant

pub loop-number-preserved : goal.loop-number-preserved
loop-number-preserved c =
    slid_no c.args.e c.loop-number.number c.heights-heights.result c.loop-number.found.items
    (slid c.args.e c.args.p.now) (omega arith) c.if-number-e.false c.loop-number.invariant

pub returns-clause-falls : goal.returns-clause-falls
returns-clause-falls c =
    subst Falls
    (sym (slid_done c.args.e c.loop-number.number c.heights-heights.result c.loop-number.found.items
    (slid c.args.e c.args.p.now) (omega arith) c.loop-number.invariant))
    (slid-falls c.args.e c.args.p.now)

pub returns-clause-small : goal.returns-clause-small
returns-clause-small c =
    subst (λ bs. degree (shown bs) ≤ 32)
    (sym (slid_done c.args.e c.loop-number.number c.heights-heights.result c.loop-number.found.items
    (slid c.args.e c.args.p.now) (omega arith) c.loop-number.invariant))
    (core_small c.args.e c.args.p.now c.requires.e_least c.beta.ensures.held)
