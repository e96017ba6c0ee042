use Rattle.std.proofs.Common.{◌∙◌, ap₂}
use Rattle.sp_defs.specs.Power.{fock_vector}
use Rattle.sp_module_defs.specs.Jantzen.{constants, jantzen_sum}
use Rattle.sp_jantzen.proofs.sum.jantzen.Goals as goal

pub returns-in-Ok : goal.returns-in-Ok
unfolding jantzen_sum
returns-in-Ok c =
    c.in-Ok.ensures.sum
    ∙ ap₂ (λ n ts. fock_vector n (constants ts)) c.degree.ensures.sum
    (c.deref.ensures.value ∙ c.in_ok-terms.ensures.terms)
