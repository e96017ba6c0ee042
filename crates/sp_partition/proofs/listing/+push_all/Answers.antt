use Rattle.std.proofs.Common.{rules, ◌≡◌, ◌≤◌, ◌-◌, ◌++◌, replicate, sym, ◌∙◌, ap, subst, arith, append-nil}
use Rattle.std.specs.List.{AllByRecursion}
use Rattle.sp_defs.specs.Partition.{IsPartition}
use Rattle.sp_partition.proofs.Listings.{run_after, least_after, room_after, unwrapped, blocks_more, blocks_all}
use Rattle.sp_partition.proofs.Listings.{within_nothing, within_none, blocks}
use Rattle.sp_partition.proofs.listing.+push_all.Goals as goal

pub returns-in_ok-push : goal.returns-in_ok-push
returns-in_ok-push t c =
    c.in_ok-push.ensures.items
    ∙ ap (λ xs. c.args.list.now.items ++ xs)
    (within_nothing c.args.front.now c.args.most c.args.rest c.if-most-eq0.true c.if-rest-eq0.true)

pub returns-else-rest-eq0 : goal.returns-else-rest-eq0
returns-else-rest-eq0 t c =
    within_none c.args.list.now.items c.args.front.now c.args.most c.args.rest c.if-most-eq0.true
    (omega (arith, c.if-rest-eq0.false))

pub loop-times-init : goal.loop-times-init
loop-times-init t c = sym (append-nil c.args.list.now.items)

pub with_run-requires : goal.with_run-requires
with_run-requires t c = λ _.
    run_after c.args.front.now c.loop-times.times c.args.most c.requires.front (omega (arith, c.if-most-eq0.false))
    c.requires.falls

pub push_all-requires : goal.push_all-requires
push_all-requires t c =
    let is : c.unwrap-longer.result ≡ c.args.front.now ++ replicate c.loop-times.times c.args.most =
    unwrapped _ _ _ _ c.with_run.ensures c.unwrap-longer.ensures in (
      search rules,
      (
        subst IsPartition (sym is)
            (run_after c.args.front.now c.loop-times.times c.args.most c.requires.front
            (omega (arith, c.if-most-eq0.false)) c.requires.falls),
        (
          room_after c.args.front.now c.unwrap-longer.result c.loop-times.times c.args.most c.args.rest _ is
              c.loop-times-test.true c.requires.room,
          subst (AllByRecursion (λ part. c.args.most - 1 ≤ part)) (sym is)
              (least_after c.args.front.now c.loop-times.times c.args.most c.requires.falls),
        ),
      ),
    )

pub loop-times-preserved : goal.loop-times-preserved
loop-times-preserved t c =
    blocks_more c.args.list.now.items c.loop-times.list.items c.push_all.new.list.items c.args.front.now
    c.unwrap-longer.result c.args.most c.args.rest c.loop-times.times c.loop-times.invariant
    (unwrapped _ _ _ _ c.with_run.ensures c.unwrap-longer.ensures) c.in_ok-push_all.ensures

pub returns : goal.returns
returns t c =
    c.loop-times.invariant
    ∙ ap (λ k. c.args.list.now.items ++ blocks c.args.front.now c.args.most c.args.rest k)
    (omega (arith, c.loop-times-test.false, c.loop-times.auto.times-end))
    ∙ ap (λ xs. c.args.list.now.items ++ xs)
    (blocks_all c.args.front.now c.args.most c.args.rest (omega (arith, c.if-most-eq0.false)))
