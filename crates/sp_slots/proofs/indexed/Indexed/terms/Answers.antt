use Rattle.std.proofs.Common.{sym, ◌∙◌, ap, subst, arith, length}
use Rattle.sp_defs.specs.Power.{FockVector}
use Rattle.sp_slots.proofs.Indices.{entry, polynomial_at, polynomials_count}
use Rattle.sp_slots.proofs.indexed.Indexed.terms.Goals as goal

pub terms-requires : goal.terms-requires
terms-requires c =
    let count = polynomials_count c.self.inside.vector c.self.inside.indices.items c.self.inside.polynomials
    c.self.invariant in
    omega (arith, count, ap (λ (v : FockVector). length v.entries) c.self.view_is, c.requires)

pub returns-clause-value : goal.returns-clause-value
returns-clause-value c =
    let count = polynomials_count c.self.inside.vector c.self.inside.indices.items c.self.inside.polynomials
    c.self.invariant in
    c.terms.ensures.value
    ∙ polynomial_at c.self.inside.vector c.self.inside.indices.items c.self.inside.polynomials c.args.k
    c.self.invariant (omega (arith, ap (λ (v : FockVector). length v.entries) c.self.view_is, c.requires))
    ∙ ap (λ (v : FockVector). (entry v c.args.k).1) c.self.view_is
