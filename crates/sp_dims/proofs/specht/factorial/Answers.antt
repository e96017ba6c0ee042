use Rattle.std.proofs.Common.{◌≡◌, ◌*◌, ◌-◌, ◌+◌, refl, ◌∙◌, ap₂, arith}
use Rattle.sp_module_defs.specs.Dims.{factorial}
use Rattle.sp_dims.proofs.Factorials.{factorial-small, factorial-next}
use Rattle.sp_dims.proofs.specht.factorial.Goals as goal

pub loop-factor-init : goal.loop-factor-init
unfolding factorial
loop-factor-init c = refl

pub overflow_mul-product : goal.overflow_mul-product
overflow_mul-product c =
    let next : c.loop-factor.product * c.from-product.result ≡ factorial (c.loop-factor.factor + 1 - 1) =
    ap₂ (λ x y. x * y) c.loop-factor.invariant c.from-product.ensures
    ∙ factorial-next c.loop-factor.factor (omega arith) in
    omega (arith, factorial-small (c.loop-factor.factor + 1 - 1) (omega arith))

pub loop-factor-preserved : goal.loop-factor-preserved
loop-factor-preserved c =
    ap₂ (λ x y. x * y) c.loop-factor.invariant c.from-product.ensures
    ∙ factorial-next c.loop-factor.factor (omega arith)

pub returns-clause-small : goal.returns-clause-small
returns-clause-small c =
    omega (arith, c.loop-factor.invariant, factorial-small (c.loop-factor.factor - 1) (omega arith))
