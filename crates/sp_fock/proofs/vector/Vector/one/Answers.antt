use Rattle.std.proofs.Common.{sym, ◌∙◌, ap, ap₂, [], ◌∷◌}
use Rattle.sp_fock.specs.Held.{held_as}
use Rattle.sp_fock_law.proofs.Single.{entries-unit}
use Rattle.sp_fock.proofs.vector.Vector.one.Goals as goal

pub returns : goal.returns
returns c =
    ap₂ held_as c.degree.ensures.sum
    (c.in_ok-vec.ensures.items ∙ ap (λ q. (c.args.p.now, q) ∷ []) c.in_ok-monomial.ensures ∙ sym
    (entries-unit c.args.p.now c.degree.ensures.held.partition))
