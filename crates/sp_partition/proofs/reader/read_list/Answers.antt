use Rattle.std.proofs.Common.{Some, None, refl, sym, ◌∙◌, ap, subst, true≢false}
use Rattle.std.specs.Option.{option_copied}
use Rattle.sp_partition.specs.Reading.{parsed}
use Rattle.sp_partition.proofs.Progress.{Progress, begun, no_item, not_under, advanced, may_extend_held, finished}
use Rattle.sp_partition.proofs.Progress.{to_follows, from_follows, left_at}
use Rattle.sp_partition.proofs.reader.read_list.Goals as goal

pub loop-rest-init : goal.loop-rest-init
loop-rest-init c =
    subst (λ p. Progress c.args.text.now (Some p) None (Some c.args.text.now)) (sym c.empty.ensures)
    (begun c.args.text.now)

pub returns-in_default-read_item : goal.returns-in_default-read_item
returns-in_default-read_item c =
    ap parsed (sym (no_item _ _ _ _ _ (left_at c.in-Some.is c.loop-rest.invariant)
    c.place-end.ensures (c.in_default-read_item.ensures.none refl)))

pub returns-then-not-follows : goal.returns-then-not-follows
returns-then-not-follows c =
    ap parsed (sym (not_under _ _ _ _ _ _ _ (left_at c.in-Some.is c.loop-rest.invariant)
    c.place-end.ensures c.in-Some-read_item.ensures.item
    (λ f. true≢false (sym (c.if-not-follows.ensures.1 (from_follows c.loop-rest.last _ f))))))

pub extended-held-requires-clause-falls : goal.extended-held-requires-clause-falls
extended-held-requires-clause-falls c =
    may_extend_held _ _ _ _ _ _ _ (left_at c.in-Some.is c.loop-rest.invariant)
    c.in-Some-read_item.ensures.item (to_follows c.loop-rest.last _ (c.if-not-follows.ensures.0 refl))

pub loop-rest-preserved : goal.loop-rest-preserved
loop-rest-preserved c =
    subst (Progress c.args.text.now c.extended-held.result (Some c.in-Some-read_item.item.part.now))
    (sym c.behind-rest.ensures)
    (advanced _ _ _ _ _ _ _ _ (left_at c.in-Some.is c.loop-rest.invariant)
    c.place-end.ensures c.in-Some-read_item.ensures.item
    (to_follows c.loop-rest.last _ (c.if-not-follows.ensures.0 refl)) c.extended-held.ensures)

pub returns : goal.returns
returns c =
    c.ok_or.ensures.value
    ∙ finished c.args.text.now c.loop-rest.held (option_copied c.loop-rest.last)
    (left_at c.in_default.is c.loop-rest.invariant)
