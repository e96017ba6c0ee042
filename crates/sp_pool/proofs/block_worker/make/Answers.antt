use Rattle.std.proofs.Common.{◌∙◌, ap, subst}
use Rattle.sp_core.specs.declared.piece.Key.{Key}
use Rattle.sp_llt.specs.Place.{IsKey}
use Rattle.sp_pool.specs.Blocks.{ranks_with}
use Rattle.sp_pool.proofs.Ranks.{rank_facts, at_place, asked_there}
use Rattle.sp_pool.proofs.block_worker.make.Goals as goal

pub begin-requires : goal.begin-requires
begin-requires g c =
    let table = c.args.table.now in
    let key = c.args.ctx.now in
    (rank_facts key table.core c.args.rank
    (at_place key table.core table.ranks.items c.args.claim.now.row c.args.rank
    (table.whole ∙ ap (λ (of : Key). ranks_with of table.core) c.requires.table) c.requires.rank)).within

pub give_earlier-requires-clause-there : goal.give_earlier-requires-clause-there
give_earlier-requires-clause-there g c =
    let table = c.args.table.now in
    let key = c.args.ctx.now in
    let whole = table.whole ∙ ap (λ (of : Key). ranks_with of table.core) c.requires.table in
    asked_there key (subst IsKey c.loop-j.invariant.key c.in-Some.ensures.held.place.key) table.core table.ranks.items
    c.args.rank c.in-Some.j c.loop-j.builder whole
    (at_place key table.core table.ranks.items c.args.claim.now.row c.args.rank whole c.requires.rank)
    c.loop-j.invariant.key c.loop-j.invariant.rank c.in-Some.ensures.asks
