-- One place more.
use Rattle.std.proofs.Common.{◌≡◌, sym, ◌∙◌, ap, ap₂, subst, add-one, [], length, arith}
use Rattle.std.proofs.lemmas.List.{get_or_default}
use Rattle.sp_defs.specs.Abacus.{core}
use Rattle.sp_blocks.specs.Blocks.{core_at, blocks_below, ArePlaced}
use Rattle.sp_blocks.specs.Indexed.{with_rank}
use Rattle.sp_blocks.proofs.OneMore.{blocks_more}
use Rattle.sp_blocks.proofs.Placed.{are_placed}
use Rattle.sp_blocks.proofs.grouping.blocks.Goals as goal

pub loop-rank-preserved : goal.loop-rank-preserved
loop-rank-preserved c = record {
  is = c.in_ok-put.ensures.found
      ∙ ap₂ (λ kappa bs. with_rank kappa c.loop-rank.rank bs) same c.loop-rank.invariant.is
      ∙ sym (blocks_more (core_at c.args.e c.args.list.now) c.loop-rank.rank)
      ∙ ap (blocks_below (core_at c.args.e c.args.list.now)) (sym (add-one c.loop-rank.rank));
  indexed = c.in_ok-put.ensures.indexed;
}
  where
    same : c.core.result ≡ core_at c.args.e c.args.list.now c.loop-rank.rank
    same =
        c.core.ensures
        ∙ ap (core c.args.e)
        (c.index-list-rank.is
        ∙ get_or_default c.args.list.now c.loop-rank.rank c.index-list-rank.result [] c.loop-rank-test.true)

pub returns-clause-placed : goal.returns-clause-placed
returns-clause-placed c =
    subst (ArePlaced (core_at c.args.e c.args.list.now) (length c.args.list.now))
    (sym (c.loop-rank.invariant.is ∙ ap (blocks_below (core_at c.args.e c.args.list.now)) all))
    (are_placed (core_at c.args.e c.args.list.now) (length c.args.list.now))
  where
    all : c.loop-rank.rank ≡ length c.args.list.now
    all = omega arith
