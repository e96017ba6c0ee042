-- Each step of the list is one of the definition, by the facts of `CanStep`.
use Rattle.std.proofs.Common.{◌∙◌, arith}
use Rattle.sp_ladder.proofs.Progress.{begins, powers_small, can_step, room_within, goes_on, ends, ends_within}
use Rattle.sp_ranks.proofs.ladder.ladder_vector.Goals as goal

pub loop-step-init : goal.loop-step-init
loop-step-init c =
    begins _ _ _ _ _ c.requires.least c.requires.e_least c.requires.regular c.degree-held.ensures.held
    (c.as_slice-step-items.ensures.value ∙ c.ladders-steps.ensures) c.in_ok-vector.ensures

pub induce-requires-clause-below : goal.induce-requires-clause-below
induce-requires-clause-below c = (can_step _ _ _ _ _ _ c.loop-step.invariant _ c.loop-step-test.true).below

pub induce-requires-clause-room : goal.induce-requires-clause-room
induce-requires-clause-room c =
    room_within _ _ _ _ _ _ c.loop-step.invariant c.args.moves.now.degree _ c.loop-step-test.true c.requires.degree

pub induce-requires-clause-powers : goal.induce-requires-clause-powers
induce-requires-clause-powers c = powers_small _ _ _ _ _ _ c.loop-step.invariant

pub returns-in-Err-clause-too_large : goal.returns-in-Err-clause-too_large
returns-in-Err-clause-too_large c = λ large.
    (can_step _ _ _ _ _ _ c.loop-step.invariant _ c.loop-step-test.true).past (c.in-Err.ensures.too_large large)

pub loop-step-preserved : goal.loop-step-preserved
loop-step-preserved c =
    goes_on _ _ _ _ _ _ c.loop-step.invariant c.in-Ok.next
    ((can_step _ _ _ _ _ _ c.loop-step.invariant _ c.loop-step-test.true).next c.in-Ok.next c.in-Ok.ensures.ok
    c.in-Ok.ensures.fits c.in-Ok.ensures.powers)

pub returns-clause-vector : goal.returns-clause-vector
returns-clause-vector c =
    ends _ _ _ _ _ _ c.loop-step.invariant c.loop-step-test.false (omega arith)

pub returns-clause-fits : goal.returns-clause-fits
returns-clause-fits c =
    ends_within _ _ _ _ _ _ c.loop-step.invariant c.loop-step-test.false (omega arith)
