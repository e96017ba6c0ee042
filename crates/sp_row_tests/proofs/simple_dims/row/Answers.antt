use Rattle.std.proofs.Common.{◌++◌, ◌∷◌, [], get_or, sym, ◌∙◌, ap₂, ℤ, pos, SFits, to_z-of_z, rules}
use Rattle.std.specs.Int.{w8, w32, w128}
use Rattle.std.proofs.lemmas.List.{map_more}
use Rattle.sp_defs.specs.Laurent.{monomial}
use Rattle.sp_row_tests.proofs.simple_dims.row.Goals as goal

pub loop-term-preserved : goal.loop-term-preserved
loop-term-preserved c =
    let nothing : ℤ × ℤ = (pos 0, pos 0) in
    let term = get_or c.args.terms.now c.loop-term.term-index nothing in
    let small : SFits w8 term.0 = search rules in
    let near : SFits w8 term.1 = search rules in
    let coefficient : SFits w128 c.from.result = search rules in
    let power : SFits w32 c.from-in-loop-term.result = search rules in
    c.in_ok-push.ensures.items
    ∙ ap₂ (λ xs x. xs ++ x ∷ []) c.loop-term.invariant
    (c.in_ok-monomial.ensures
    ∙ ap₂ (λ k a. monomial k a) (to_z-of_z power ∙ c.from-in-loop-term.ensures ∙ to_z-of_z near)
    (to_z-of_z coefficient ∙ c.from.ensures ∙ to_z-of_z small))
    ∙ sym (map_more (λ t. monomial t.1 t.0) c.args.terms.now c.loop-term.term-index nothing c.loop-term-test.true)
