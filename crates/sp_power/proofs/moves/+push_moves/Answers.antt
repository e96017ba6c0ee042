-- Each step is that of `moves_through`.
use Rattle.std.proofs.Common.{rules, sym, ◌∙◌, ap, ap₂, subst, arith, ◌-◌, ◌++◌, ◌∷◌, [], map, length}
use Rattle.sp_defs.specs.Partition.{degree}
use Rattle.std.proofs.lemmas.Result.{on_ok_weaker}
use Rattle.std.specs.Int.RustNames.{unsigned_abs}
use Rattle.sp_nodes.specs.Marks.{mark_of}
use Rattle.sp_power_law.specs.Walk.{CanGrow, moves_through}
use Rattle.sp_power.proofs.Descent.{moves-none_left, moves-no_marks, moves-addable, moves-removable, grow-addable}
use Rattle.sp_power.proofs.Descent.{below, grown_degree, length-below, arrivals-none, arrivals-both, read_exponent}
use Rattle.sp_power.proofs.Descent.{exponent_room, same_moves}
use Rattle.sp_power.specs.Arrivals.{arrive_from}
use Rattle.sp_power.proofs.moves.+push_moves.Goals as goal

pub returns-then-left-eq0 : goal.returns-then-left-eq0
returns-then-left-eq0 t c =
    c.in_ok-push.ensures.items
    ∙ ap (λ x. c.args.arrivals.now.items ++ ((c.args.way.now.partition, c.args.source, x) ∷ []))
    (read_exponent c.args.way.now.exponent (omega (arith, c.requires.small)))
    ∙ ap (λ l. c.args.arrivals.now.items ++ map (arrive_from c.args.source) l)
    (sym (moves-none_left c.args.marks.now c.args.left c.args.way.now.partition c.args.way.now.difference
    c.args.way.now.exponent c.if-left-eq0.true))

pub returns-in_default : goal.returns-in_default
returns-in_default t c =
    arrivals-none c.args.arrivals.now.items c.args.source _
    (moves-no_marks c.args.marks.now c.args.left c.args.way.now.partition c.args.way.now.difference
    c.args.way.now.exponent c.in_default.len_below c.if-left-eq0.false)

pub push_moves-requires : goal.push_moves-requires
push_moves-requires t c =
    let g = grow-addable c.args.marks.now c.args.way.now.partition c.in-len1-up.len_at_least c.in-Addable.is
    c.requires.grows in
    let few = length-below c.args.marks.now c.in-len1-up.len_at_least in
    let more = ap degree c.choose.ensures.partition ∙ grown_degree c.args.way.now.partition _ g.here in (
      search rules,
      (
        subst (λ q. CanGrow (map mark_of (below c.args.marks.now)) q) (sym c.choose.ensures.partition) g.chosen,
        (
          omega (arith, more, c.requires.room),
          (
            omega (arith, few, c.requires.near, ap unsigned_abs c.choose.ensures.difference),
            exponent_room c.args.way.now.exponent c.args.way.now.difference c.choose.result.exponent c.args.left
                (length c.args.marks.now) c.choose.ensures.exponent c.requires.near c.requires.small
                c.if-left-eq0.false,
          ),
        ),
      ),
    )

pub returns-in_ok-push_moves-in-Addable : goal.returns-in_ok-push_moves-in-Addable
returns-in_ok-push_moves-in-Addable t c =
    let step = moves-addable c.args.marks.now c.args.left c.args.way.now.partition c.args.way.now.difference
    c.args.way.now.exponent c.in-len1-up.len_at_least c.if-left-eq0.false c.in-Addable.is in
    on_ok_weaker c.push_moves-in-Addable.result
    (λ last. arrivals-both c.args.arrivals.now.items c.push_moves.new.arrivals.items
    c.push_moves-in-Addable.new.arrivals.items c.args.source
    (moves_through (map mark_of (below c.args.marks.now))
    (c.args.left - 1) c.choose.result.partition c.choose.result.difference c.choose.result.exponent)
    (moves_through (map mark_of (below c.args.marks.now)) c.args.left c.pass.result.partition c.pass.result.difference
    c.pass.result.exponent)
    (moves_through (map mark_of c.args.marks.now) c.args.left c.args.way.now.partition c.args.way.now.difference
    c.args.way.now.exponent)
    c.in_ok-push_moves-in-Addable.ensures last
    (step ∙ ap₂ (λ a b. a ++ b)
    (same_moves (below c.args.marks.now)
    (c.args.left - 1) _ c.choose.result.partition _ c.choose.result.difference _ c.choose.result.exponent
    c.choose.ensures.partition c.choose.ensures.difference c.choose.ensures.exponent)
    (same_moves (below c.args.marks.now) c.args.left _ c.pass.result.partition _ c.pass.result.difference _
    c.pass.result.exponent c.pass.ensures.partition c.pass.ensures.difference c.pass.ensures.exponent)))
    c.push_moves-in-Addable.ensures

pub returns-in-Removable : goal.returns-in-Removable
returns-in-Removable t c =
    let step = moves-removable c.args.marks.now c.args.left c.args.way.now.partition c.args.way.now.difference
    c.args.way.now.exponent c.in-len1-up.len_at_least c.if-left-eq0.false c.in-Removable.is in
    on_ok_weaker c.push_moves-in-Removable.result
    (λ last. last ∙ ap (λ l. c.args.arrivals.now.items ++ map (arrive_from c.args.source) l)
    (sym (step ∙ same_moves
    (below c.args.marks.now) c.args.left _ c.pass-in-Removable.result.partition _
    c.pass-in-Removable.result.difference _ c.pass-in-Removable.result.exponent
    c.pass-in-Removable.ensures.partition c.pass-in-Removable.ensures.difference
    c.pass-in-Removable.ensures.exponent))) c.push_moves-in-Removable.ensures
