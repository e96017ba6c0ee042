use Rattle.std.proofs.Common.{◌<◌, sym, ◌∙◌, ap, subst, arith, Some}
use Rattle.sp_llt.specs.Place.{Place, Progress}
use Rattle.sp_llt.proofs.Firsts.{first_count, first_entry}
use Rattle.sp_pool.proofs.alone.entry_from.Goals as goal

pub loop-j-init : goal.loop-j-init
loop-j-init c = record {
  key = ap (λ (b : Progress). b.key) c.in_ok-builder.ensures;
  rank = ap (λ (b : Progress). b.rank) c.in_ok-builder.ensures;
  count = first_count c.args.ctx.now c.args.k c.args.rows.now c.requires.rows;
}

pub give-requires-clause-asked : goal.give-requires-clause-asked
give-requires-clause-asked c =
    let is = c.deref.ensures
    ∙ first_entry c.args.ctx.now c.args.k c.in-Some.j c.args.rows.now c.index-rows-j.result c.requires.rows
    (omega (arith, c.in-Some.ensures.earlier, c.loop-j.invariant.rank)) c.index-rows-j.is in
    sym c.in-Some.ensures.asks ∙ ap (λ (p : Place). Some p.rank) (sym is)

pub give-requires-clause-entry : goal.give-requires-clause-entry
give-requires-clause-entry c =
    let is = c.deref.ensures
    ∙ first_entry c.args.ctx.now c.args.k c.in-Some.j c.args.rows.now c.index-rows-j.result c.requires.rows
    (omega (arith, c.in-Some.ensures.earlier, c.loop-j.invariant.rank)) c.index-rows-j.is in
    ap (λ (p : Place). p.key) is ∙ sym c.loop-j.invariant.key

pub loop-j-smaller : goal.loop-j-smaller
loop-j-smaller c =
    let is = c.deref.ensures
    ∙ first_entry c.args.ctx.now c.args.k c.in-Some.j c.args.rows.now c.index-rows-j.result c.requires.rows
    (omega (arith, c.in-Some.ensures.earlier, c.loop-j.invariant.rank)) c.index-rows-j.is in
    subst (λ r. r < c.loop-j.builder.reached)
    (sym (ap (λ (b : Progress). b.reached) c.in_ok-builder-2.ensures ∙ ap (λ (p : Place). p.rank) is))
    c.in-Some.ensures.falls
