use Rattle.std.proofs.Common.{◌∙◌, ap, map}
use Rattle.sp_defs.specs.Laurent.{size}
use Rattle.sp_fock.proofs.Tallies.{sizes_tally, sizes_kept}
use Rattle.sp_fock.proofs.tally.Tally.from_vector.Goals as goal

pub invariant_of-result : goal.invariant_of-result
invariant_of-result c =
    sizes_kept c.args.v c.pairs.ensures.held _
    (c.in_ok-totals.ensures ∙ ap (map (λ t. (t.0, size t.1))) c.pairs.ensures.value)

pub returns : goal.returns
returns c =
    sizes_tally c.args.v c.pairs.ensures.held _
    (c.in_ok-totals.ensures ∙ ap (map (λ t. (t.0, size t.1))) c.pairs.ensures.value)
