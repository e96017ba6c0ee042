-- Each step is that of `moves_through`.
use Rattle.std.proofs.Common.{◌≡◌, ◌+◌, ◌-◌, ◌<◌, ◌≤◌, arith, map, length, sym, subst}
use Rattle.std.specs.Int.RustNames.{unsigned_abs}
use Rattle.sp_defs.specs.Partition.{partitions}
use Rattle.sp_nodes.specs.Marks.{mark_of}
use Rattle.sp_power_law.specs.Walk.{CanGrow}
use Rattle.sp_power.proofs.Descent.{below, grow-addable, length-below, exponent_room}
use Rattle.sp_ranks.proofs.Walks.{read_exponent, read_sum, found-way, there-way}
use Rattle.sp_ranks.proofs.Walks.{WalkProgress, walk-begins, walk-ends, walk-addable, walk-removable}
use Rattle.sp_ranks.specs.Ranks.{partition_at}
use Rattle.sp_ranks.proofs.walk.+push_moves.Goals as goal
use Rattle.sp_ranks.proofs.walk.+push_moves.Goals.{then-left-eq1+in_ok-push-in-Addable}
use Rattle.sp_ranks.proofs.walk.+push_moves.Goals.{else-left-eq1+in_ok-push_moves-in-Addable}

pub loop-rest-init : goal.loop-rest-init
loop-rest-init t c =
    walk-begins c.args.n c.args.source c.args.left c.args.marks.now c.args.way c.args.found.now.items c.requires.rank
    c.requires.grows c.requires.near c.requires.small

pub returns-then-left-eq0-clause-found : goal.returns-then-left-eq0-clause-found
returns-then-left-eq0-clause-found t c =
    found-way c.args.n c.args.source c.args.left c.args.marks.now c.args.way _ c.args.found.now.items
    c.push.new.self.items c.if-left-eq0.true c.arrival.ensures c.in_ok-push.ensures.items

pub returns-then-rest-from-clause-found : goal.returns-then-rest-from-clause-found
returns-then-rest-from-clause-found t c =
    walk-ends c.args.n c.args.source c.args.left c.args.marks.now c.args.way c.args.found.now.items
    c.loop-rest.found.items c.loop-rest.rest.now c.loop-rest.at c.loop-rest.invariant
    (omega (arith, c.from.ensures, c.if-rest-from.true))

pub grown-requires-clause-addable : goal.grown-requires-clause-addable
grown-requires-clause-addable t c =
    (grow-addable c.loop-rest.rest.now (partition_at c.args.n c.loop-rest.at.rank) c.in-len1-up.len_at_least
    c.in-Addable.is c.loop-rest.invariant.grows).here

pub push_moves-requires : goal.push_moves-requires
push_moves-requires t c =
    let rest = c.loop-rest.rest.now in
    let at = c.loop-rest.at in
    let walk = c.loop-rest.invariant in
    let few = length-below rest c.in-len1-up.len_at_least in (
      omega (arith, few, walk.shorter),
      (
        c.grown.ensures.there,
        (
          subst (λ q. CanGrow (map mark_of (below rest)) q) (sym c.grown.ensures.grown)
              (grow-addable rest (partition_at c.args.n at.rank) c.in-len1-up.len_at_least c.in-Addable.is
              walk.grows).chosen,
          (
            omega (arith, c.requires.room),
            (
              c.requires.small_degree,
              (
                subst (λ d. unsigned_abs d + length (below rest) ≤ 33)
                    (sym (read_exponent at.difference (omega (arith, walk.near)))) (omega (arith, few, walk.near)),
                exponent_room at.exponent at.difference _ c.args.left (length rest)
                    (read_sum at.exponent at.difference c.args.left (length rest) walk.near walk.small
                    c.if-left-eq0.false) walk.near walk.small c.if-left-eq0.false,
              ),
            ),
          ),
        ),
      ),
    )

pub loop-rest-preserved-after-left-eq1 : goal.loop-rest-preserved-after-left-eq1
loop-rest-preserved-after-left-eq1 t c =
    let n = c.args.n in
    let rest = c.loop-rest.rest.now in
    let at = c.loop-rest.at in
    let walk = c.loop-rest.invariant in
    let found = c.loop-rest.found.items in
    let same_d = read_exponent at.difference (omega (arith, walk.near)) in
    let same_x = read_sum at.exponent at.difference c.args.left (length rest) walk.near walk.small
    c.if-left-eq0.false in
    elim c.if-left-eq1.branch [
      | then-left-eq1+in_ok-push-in-Addable w ↦
          let none : c.args.left - 1 ≡ 0 = omega (arith, w.if-left-eq1.true) in
          subst (λ v. WalkProgress n c.args.source c.args.left c.args.marks.now c.args.way c.args.found.now.items v.items
          (below rest) c.passed-at.result) (sym w.found-is)
          (walk-addable n c.args.source c.args.left c.args.marks.now c.args.way c.args.found.now.items found rest at walk
          c.in-len1-up.len_at_least c.if-left-eq0.false _ c.passed-at.result w.push-then-left-eq1.new.self.items
          c.in-Addable.is c.grown.ensures.grown same_d same_x c.passed-at.ensures
          (found-way (n + 1) c.args.source (c.args.left - 1) (below rest) _ _ found w.push-then-left-eq1.new.self.items
          none w.arrival-then-left-eq1.ensures w.in_ok-push-in-Addable.ensures.items)
          (there-way (n + 1) (c.args.left - 1) w.arrival-then-left-eq1.result found
          w.push-then-left-eq1.new.self.items none w.in_ok-push-in-Addable.ensures.items
          (subst (λ u. u.rank < length (partitions (n + 1))) (sym w.arrival-then-left-eq1.ensures)
          c.grown.ensures.there)))
      | else-left-eq1+in_ok-push_moves-in-Addable w ↦
          subst (λ v. WalkProgress n c.args.source c.args.left c.args.marks.now c.args.way c.args.found.now.items v.items
          (below rest) c.passed-at.result) (sym w.found-is)
          (walk-addable n c.args.source c.args.left c.args.marks.now c.args.way c.args.found.now.items found rest at walk
          c.in-len1-up.len_at_least c.if-left-eq0.false _ c.passed-at.result w.push_moves.new.found.items
          c.in-Addable.is c.grown.ensures.grown same_d same_x c.passed-at.ensures
          w.in_ok-push_moves-in-Addable.ensures.found w.in_ok-push_moves-in-Addable.ensures.there)
    ]

pub loop-rest-preserved : goal.loop-rest-preserved
loop-rest-preserved t c =
    walk-removable c.args.n c.args.source c.args.left c.args.marks.now c.args.way c.args.found.now.items
    c.loop-rest.found.items c.loop-rest.rest.now c.loop-rest.at c.loop-rest.invariant c.in-len1-up.len_at_least
    c.if-left-eq0.false c.passed-at-in-Removable.result c.in-Removable.is c.passed-at-in-Removable.ensures

pub returns-clause-found : goal.returns-clause-found
returns-clause-found t c =
    walk-ends c.args.n c.args.source c.args.left c.args.marks.now c.args.way c.args.found.now.items
    c.loop-rest.found.items c.loop-rest.rest.now c.loop-rest.at c.loop-rest.invariant
    (omega (arith, c.if-left-eq0.false))
