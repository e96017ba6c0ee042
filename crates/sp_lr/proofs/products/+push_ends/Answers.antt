use Rattle.std.proofs.Common.{rules, ◌≡◌, ◌+◌, ◌≤◌, ◌<◌, ◌++◌, arith, subst, sym, ◌∙◌, ap, length, slice_index}
use Rattle.std.proofs.Common.{take, flat_map, map}
use Rattle.std.proofs.Math.Seq.{take-length}
use Rattle.std.proofs.lemmas.Result.{err_from_is_err_and}
use Rattle.sp_lr_defs.specs.Strip.{IsNext, end_from}
use Rattle.sp_lr.proofs.ChainLists.{chain_block}
use Rattle.sp_lr.proofs.Continuing.{later, chains_split, chains_done, next_at, room_at, ends_more, more_on_the_way}
use Rattle.sp_lr.proofs.Continuing.{ends_count}
use Rattle.sp_lr.proofs.products.+push_ends.Goals as goal

pub returns-then-len-most-clause-many : goal.returns-then-len-most-clause-many
returns-then-len-most-clause-many t c = λ _.
    omega (
      arith,
      c.if-len-most.true,
      c.len.ensures,
      ap length (chains_done c.args.before.now c.args.last.now c.args.spare c.args.sizes.now (omega arith)),
    )

pub returns-in_ok-append-in-empty-clause-ends : goal.returns-in_ok-append-in-empty-clause-ends
returns-in_ok-append-in-empty-clause-ends t c =
    c.in_ok-append-in-empty.ensures
    ∙ ap (λ cs. c.args.ends.now.items ++ map (end_from c.args.last.now) cs)
    (sym (chains_done c.args.before.now c.args.last.now c.args.spare c.args.sizes.now (omega arith)))

pub push_ends-requires : goal.push_ends-requires
push_ends-requires t c =
    let some : 1 ≤ length c.args.sizes.now = omega arith in
    let within : c.loop-shape.shape-index < length c.deref-shape-items.result.now = omega arith in
    let next : IsNext c.args.before.now c.args.last.now c.args.spare
    (slice_index c.args.sizes.now 0) c.shape-item.result =
    next_at c.args.before.now c.args.last.now c.args.spare (slice_index c.args.sizes.now 0)
    c.deref-shape-items.result.now c.loop-shape.shape-index c.shape-item.result c.requires.room.held.partition
    (c.deref-shape-items.ensures.value ∙ c.in_ok-shapes-in-len1-up.ensures) within c.shape-item.is in
    let room = room_at c.args.before.now c.args.last.now c.args.spare c.args.sizes.now c.shape-item.result
    c.requires.room c.requires.small some next in
    (search rules, (room.0, (room.1, c.loop-shape.invariant.few)))

pub returns-in_err-push_ends-in-len1-up-clause-many : goal.returns-in_err-push_ends-in-len1-up-clause-many
returns-in_err-push_ends-in-len1-up-clause-many t c =
    let p = err_from_is_err_and c.from_residual-in_err-push_ends-in-len1-up.result
    c.from_residual-in_err-push_ends-in-len1-up.ensures.1 in
    rw (p.1, p.2) (λ e.
    let some : 1 ≤ length c.args.sizes.now = omega arith in
    let within : c.loop-shape.shape-index < length c.deref-shape-items.result.now = omega arith in
    let so_far : length c.loop-shape.ends.items ≡ length c.args.ends.now.items
    + length (flat_map (chain_block c.args.last.now (later c.args.sizes.now))
    (take c.loop-shape.shape-index c.deref-shape-items.result.now)) =
    ends_count c.args.ends.now.items c.loop-shape.ends.items (end_from c.args.last.now)
    (flat_map (chain_block c.args.last.now (later c.args.sizes.now))
    (take c.loop-shape.shape-index c.deref-shape-items.result.now)) c.loop-shape.invariant.ends in
    let more = more_on_the_way (length c.args.ends.now.items) (length c.loop-shape.ends.items) c.args.most
    c.args.last.now (later c.args.sizes.now) c.deref-shape-items.result.now c.loop-shape.shape-index
    c.shape-item.result within c.shape-item.is so_far
    (c.push_ends.ensures.many (c.in_err-push_ends-in-len1-up.was ∙ e)) in
    subst (λ cs. c.args.most < length c.args.ends.now.items + length cs)
    (ap (flat_map (chain_block c.args.last.now (later c.args.sizes.now)))
    (c.deref-shape-items.ensures.value ∙ c.in_ok-shapes-in-len1-up.ensures)
    ∙ sym (chains_split c.args.before.now c.args.last.now c.args.spare c.args.sizes.now some)) more)

pub loop-shape-preserved : goal.loop-shape-preserved
loop-shape-preserved t c =
    let within : c.loop-shape.shape-index < length c.deref-shape-items.result.now = omega arith in
    record {
      ends = ends_more c.args.ends.now.items c.loop-shape.ends.items c.push_ends.new.ends.items c.args.last.now
          (later c.args.sizes.now) c.deref-shape-items.result.now c.loop-shape.shape-index c.shape-item.result within
          c.shape-item.is c.loop-shape.invariant.ends c.in_ok-push_ends-in-len1-up.ensures.ends;
      few = c.in_ok-push_ends-in-len1-up.ensures.few;
    }

pub returns-after-loop-shape-clause-ends : goal.returns-after-loop-shape-clause-ends
returns-after-loop-shape-clause-ends t c =
    let some : 1 ≤ length c.args.sizes.now = omega arith in
    let all : c.loop-shape.shape-index ≡ length c.deref-shape-items.result.now = omega arith in
    c.loop-shape.invariant.ends
    ∙ ap (λ cs. c.args.ends.now.items ++ map (end_from c.args.last.now) cs)
    (ap (flat_map (chain_block c.args.last.now (later c.args.sizes.now)))
    (ap (λ n. take n c.deref-shape-items.result.now) all ∙ take-length c.deref-shape-items.result.now
    ∙ c.deref-shape-items.ensures.value ∙ c.in_ok-shapes-in-len1-up.ensures)
    ∙ sym (chains_split c.args.before.now c.args.last.now c.args.spare c.args.sizes.now some))
