use Rattle.std.proofs.Common.{◌≤◌, length, sym, ◌∙◌, subst}
use Rattle.sp_llt.proofs.Labels.{some_labels, few_labels}
use Rattle.sp_llt.proofs.ctx.Ctx.regulars.Goals as goal

pub returns-clause-some : goal.returns-clause-some
returns-clause-some c = subst (λ xs. 1 ≤ length xs) (sym (c.deref.ensures.value ∙ c.self.invariant.regulars))
    (some_labels c.self.inside.key c.self.invariant.held)

pub returns-clause-few : goal.returns-clause-few
returns-clause-few c = subst (λ xs. length xs ≤ 5604) (sym (c.deref.ensures.value ∙ c.self.invariant.regulars))
    (few_labels c.self.inside.key c.self.invariant.held)
