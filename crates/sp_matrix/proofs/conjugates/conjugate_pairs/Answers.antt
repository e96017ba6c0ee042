use Rattle.std.proofs.Common.{◌++◌, ◌∷◌, [], sym, ◌∙◌, ap₂}
use Rattle.sp_matrix.specs.Conjugates.{conjugate_entry}
use Rattle.sp_matrix.proofs.Shown.{map_more}
use Rattle.sp_matrix.proofs.conjugates.conjugate_pairs.Goals as goal

pub loop-pair-preserved : goal.loop-pair-preserved
loop-pair-preserved c =
    c.in_ok-push.ensures.items
    ∙ ap₂ (λ ts t. ts ++ t ∷ []) c.loop-pair.invariant
    (ap₂ (λ p q. (p, q)) c.conjugate.ensures.columns c.in_ok-copy.ensures)
    ∙ sym (map_more conjugate_entry c.args.pairs.now c.loop-pair.pair-index c.pair-item.result c.loop-pair-test.true
    c.pair-item.is)
