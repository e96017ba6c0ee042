use Rattle.std.proofs.Common.{◌-◌, ◌++◌, ◌∷◌, [], reverse, take, sym, ◌∙◌, ap, append_assoc, append-nil}
use Rattle.sp_matrix.specs.Scope.{within}
use Rattle.sp_matrix.proofs.Backwards.{within_here, within_past, within_done}
use Rattle.sp_matrix.proofs.headings.heading.Goals as goal

pub loop-k-preserved-in-Continue-1 : goal.loop-k-preserved-in-Continue-1
loop-k-preserved-in-Continue-1 c =
    let e = c.args.e in
    let s = c.args.scope.now in
    let xs = c.args.partitions.now in
    let k = c.loop-k.k in
    let x = c.index-partitions-k.result in
    let rest = within e s (reverse (take (k - 1) xs)) in
    ap (λ ys. ys ++ rest) c.in_ok-push.ensures.items
    ∙ append_assoc c.loop-k.list.items (x ∷ []) rest
    ∙ ap (λ ys. c.loop-k.list.items ++ ys)
    (sym (within_here e s xs k x c.loop-k-test.true c.loop-k.auto.k c.index-partitions-k.is
    (sym c.has.ensures ∙ c.if-has.true)))
    ∙ c.loop-k.invariant

pub loop-k-preserved : goal.loop-k-preserved
loop-k-preserved c =
    ap (λ ys. c.loop-k.list.items ++ ys)
    (sym (within_past c.args.e c.args.scope.now c.args.partitions.now c.loop-k.k c.index-partitions-k.result
    c.loop-k-test.true c.loop-k.auto.k c.index-partitions-k.is (sym c.has.ensures ∙ c.if-has.false)))
    ∙ c.loop-k.invariant

pub returns : goal.returns
returns c =
    sym (append-nil c.loop-k.list.items)
    ∙ ap (λ ys. c.loop-k.list.items ++ ys)
    (sym (within_done c.args.e c.args.scope.now c.args.partitions.now c.loop-k.k c.loop-k-test.false))
    ∙ c.loop-k.invariant
