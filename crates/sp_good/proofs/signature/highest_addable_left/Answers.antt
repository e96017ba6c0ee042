use Rattle.std.proofs.Common.{◌≡◌, None, rules, arith, subst, sym}
use Rattle.sp_good.proofs.Passes.{Ascends, ascends_start, unpaired_below, ascends_removable, ascends_paired}
use Rattle.sp_good.proofs.Passes.{ascends_left, ascends_all}
use Rattle.sp_good.proofs.signature.highest_addable_left.Goals as goal

pub loop-mark-init : goal.loop-mark-init
loop-mark-init c =
    subst (λ rest. Ascends c.args.marks.now rest None 0) (sym whole) (ascends_start c.args.marks.now)
  where
    whole : c.into_iter-mark-iterator.result.iter.rest.now ≡ c.args.marks.now
    whole = cc

pub overflow_add-unpaired : goal.overflow_add-unpaired
overflow_add-unpaired c =
    let few = unpaired_below _ _ _ c.in-Some.mark.now _ _ c.loop-mark.invariant c.in-Some.ensures.steps in
    search rules

pub loop-mark-preserved-in-Removable : goal.loop-mark-preserved-in-Removable
loop-mark-preserved-in-Removable c =
    ascends_removable _ _ _ c.in-Some.mark.now _ _ c.loop-mark.invariant c.in-Some.ensures.steps c.in-Removable.is

pub loop-mark-preserved-then-unpaired-gt0 : goal.loop-mark-preserved-then-unpaired-gt0
loop-mark-preserved-then-unpaired-gt0 c =
    ascends_paired _ _ _ c.in-Some.mark.now _ _ c.loop-mark.invariant c.in-Some.ensures.steps c.in-Addable.is
    c.if-unpaired-gt0.true

pub loop-mark-preserved : goal.loop-mark-preserved
loop-mark-preserved c =
    ascends_left _ _ _ c.in-Some.mark.now _ _ c.loop-mark.invariant c.in-Some.ensures.steps c.in-Addable.is
    (omega arith)

pub returns : goal.returns
returns c = ascends_all _ _ _ _ c.in-None.ensures.steps.0 c.loop-mark.invariant
