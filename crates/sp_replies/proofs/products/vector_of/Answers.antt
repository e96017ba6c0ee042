use Rattle.std.proofs.Common.{rules, ◌++◌, ◌∷◌, [], ◌∙◌, ap, ap₂, pos, SFits, to_z-of_z}
use Rattle.std.specs.Int.{w128}
use Rattle.sp_defs.specs.Laurent.{monomial}
use Rattle.sp_replies.proofs.Coefficients.{constants_more}
use Rattle.sp_replies.proofs.products.vector_of.Goals as goal

pub loop-count-preserved : goal.loop-count-preserved
loop-count-preserved c =
    let number : SFits w128 c.from.result = search rules in
    c.in_ok-push.ensures.items
    ∙ ap₂ (λ pairs p. pairs ++ (c.count-item.result.0, p) ∷ []) c.loop-count.invariant
    (c.in_ok-monomial.ensures ∙ ap (λ k. monomial (pos 0) k) (to_z-of_z number ∙ c.from.ensures))
    ∙ constants_more c.deref-count-items.result.now c.loop-count.count-index c.count-item.result
    c.loop-count-test.true c.count-item.is
