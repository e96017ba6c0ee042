use Rattle.std.proofs.Common.{arith, subst, sym, ◌∙◌, ap, ◌∷◌, [], ◌++◌}
use Rattle.std.proofs.lemmas.Result.{on_ok_weaker}
use Rattle.sp_partition.specs.Held.{IsHeld}
use Rattle.sp_lr.proofs.LastRows.{held_zero, held_one, behind_none, behind_zero, behind_one}
use Rattle.sp_lr.proofs.strips.push_last.Goals as goal

pub returns-then-left-most-clause-rows : goal.returns-then-left-most-clause-rows
returns-then-left-most-clause-rows c =
    behind_none c.args.list.now.items c.args.front.now.items c.args.most c.args.left c.if-left-most.true

pub push_partition-requires : goal.push_partition-requires
push_partition-requires c =
    subst IsHeld (sym c.as_slice.ensures.value)
    (held_zero c.args.front.now.items c.args.most c.args.left (omega arith) c.if-left-eq0.true c.requires.held)

pub returns-then-left-eq0-clause-rows : goal.returns-then-left-eq0-clause-rows
returns-then-left-eq0-clause-rows c =
    on_ok_weaker c.push_partition.result
    (λ is. behind_zero c.args.list.now.items c.push_partition.new.list.items c.args.front.now.items c.args.most
    c.args.left (omega arith) c.if-left-eq0.true
    (is ∙ ap (λ xs. c.args.list.now.items ++ xs ∷ []) c.as_slice.ensures.value))
    c.push_partition.ensures

pub push_partition-requires-2 : goal.push_partition-requires-2
push_partition-requires-2 c =
    subst IsHeld (sym (c.as_slice-2.ensures.value ∙ c.push.ensures.items))
    (held_one c.args.front.now.items c.args.most c.args.left (omega arith) c.if-left-eq0.false c.requires.held)

pub returns-clause-rows : goal.returns-clause-rows
returns-clause-rows c =
    behind_one c.args.list.now.items c.push_partition-2.new.list.items c.args.front.now.items c.args.most c.args.left
    (omega arith) c.if-left-eq0.false
    (c.in_ok-push_partition.ensures
    ∙ ap (λ xs. c.args.list.now.items ++ xs ∷ []) (c.as_slice-2.ensures.value ∙ c.push.ensures.items))
