use Rattle.std.proofs.Common.{◌≡◌, sym, ◌∙◌, ap, ap₂, subst}
use Rattle.std.specs.List.{AllByRecursion}
use Rattle.sp_fock_law.specs.Joined.{joined, combined}
use Rattle.sp_fock.specs.Held.{IsHeld, held_as}
use Rattle.sp_fock.specs.Sum.{CanAdd, added}
use Rattle.sp_fock.proofs.Adding.{can_add_vectors, held_sum, sum_of_vectors}
use Rattle.sp_fock.proofs.vector.Vector.plus_scaled.Goals as goal

pub sum_of-requires-clause-can : goal.sum_of-requires-clause-can
sum_of-requires-clause-can c =
    let v = c.args.self in
    let w = c.args.w.now in
    let walk : joined c.self.inside.pairs.items c.deref.result.now ≡ joined v.entries w.entries =
    ap₂ joined (ap (λ x. x.entries) c.self.view_is)
    (c.deref.ensures.value ∙ ap (λ x. x.entries) c.w.view_is) in
    subst (AllByRecursion (CanAdd c.args.a.now c.args.limit)) (sym walk)
    (can_add_vectors v w (subst IsHeld c.self.view_is c.self.invariant)
    (subst IsHeld c.w.view_is c.w.invariant) c.requires.one_degree c.args.a.now c.args.limit
    c.requires.within c.requires.fits)

pub invariant_of-result : goal.invariant_of-result
invariant_of-result c =
    let v = c.args.self in
    let w = c.args.w.now in
    let walk : joined c.self.inside.pairs.items c.deref.result.now ≡ joined v.entries w.entries =
    ap₂ joined (ap (λ x. x.entries) c.self.view_is)
    (c.deref.ensures.value ∙ ap (λ x. x.entries) c.w.view_is) in
    subst (λ n. IsHeld (held_as n c.in_ok-sum_of.field-0.items)) (ap (λ x. x.degree) (sym c.self.view_is))
    (held_sum v w (subst IsHeld c.self.view_is c.self.invariant)
    (subst IsHeld c.w.view_is c.w.invariant) c.requires.one_degree c.args.a.now _
    (c.in_ok-sum_of.ensures.sum ∙ ap (combined (added c.args.a.now)) walk) c.in_ok-sum_of.ensures.held)

pub returns-clause-sum : goal.returns-clause-sum
returns-clause-sum c =
    let v = c.args.self in
    let w = c.args.w.now in
    let walk : joined c.self.inside.pairs.items c.deref.result.now ≡ joined v.entries w.entries =
    ap₂ joined (ap (λ x. x.entries) c.self.view_is)
    (c.deref.ensures.value ∙ ap (λ x. x.entries) c.w.view_is) in
    ap₂ held_as (ap (λ x. x.degree) c.self.view_is)
    (c.in_ok-sum_of.ensures.sum ∙ ap (combined (added c.args.a.now)) walk
    ∙ sum_of_vectors v w (subst IsHeld c.self.view_is c.self.invariant)
    (subst IsHeld c.w.view_is c.w.invariant) c.requires.one_degree c.args.a.now)
