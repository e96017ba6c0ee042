use Rattle.std.proofs.Common.{◌++◌, ◌-◌, ◌<◌, length, sym, ◌∙◌, ap, arith}
use Rattle.sp_jantzen.proofs.Sorted.{found_below, descending-below, walk_room, walk_yes, walk_no, walk_done}
use Rattle.sp_jantzen.proofs.numbers.descending.Goals as goal

pub loop-number-init : goal.loop-number-init
loop-number-init c =
    ap (λ xs. xs ++ found_below c.args.numbers.now 192) c.new-found.ensures
    ∙ descending-below c.args.numbers.now 192 c.requires.small

pub push-requires : goal.push-requires
push-requires c =
    let room : length c.loop-number.found.items < 64 =
    walk_room c.args.numbers.now c.loop-number.number c.loop-number.found.items (omega arith)
    (sym c.occurs.ensures ∙ c.if-occurs.true) c.requires.distinct c.requires.few c.loop-number.invariant in
    (omega arith, room)

pub loop-number-preserved-then-occurs : goal.loop-number-preserved-then-occurs
loop-number-preserved-then-occurs c =
    ap (λ xs. xs ++ found_below c.args.numbers.now (c.loop-number.number - 1)) c.push.ensures.items
    ∙ walk_yes c.args.numbers.now c.loop-number.number c.loop-number.found.items (omega arith)
    (sym c.occurs.ensures ∙ c.if-occurs.true) c.loop-number.invariant

pub loop-number-preserved : goal.loop-number-preserved
loop-number-preserved c =
    walk_no c.args.numbers.now c.loop-number.number c.loop-number.found.items (omega arith)
    (sym c.occurs.ensures ∙ c.if-occurs.false) c.loop-number.invariant

pub returns : goal.returns
returns c =
    walk_done c.args.numbers.now c.loop-number.number c.loop-number.found.items (omega arith) c.loop-number.invariant
