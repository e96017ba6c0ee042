-- The product with the natural number, negated below 0.
use Rattle.std.proofs.Common.{◌∙◌, ap, arith}
use Rattle.std.specs.Int.RustNames.{unsigned_abs}
use Rattle.sp_defs.specs.Laurent.{negate, times}
use Rattle.sp_sl2_law.specs.Balanced.{balanced_natural}
use Rattle.sp_power.proofs.Descent.{read_exponent}
use Rattle.sp_sl2.proofs.Products.{below_zero_test, from_zero_test}
use Rattle.sp_sl2.proofs.multiples.balanced_multiple.Goals as goal

pub returns-in_ok-negate-clause-ok : goal.returns-in_ok-negate-clause-ok
returns-in_ok-negate-clause-ok c =
    c.in_ok-negate.ensures
    ∙ ap negate (c.in_ok-multiple.ensures
    ∙ ap (λ n. times (balanced_natural n) c.args.p.now) (c.unsigned_abs-count.ensures.value
    ∙ ap unsigned_abs (read_exponent c.args.k (omega (arith, c.requires.near)))))
    ∙ below_zero_test c.args.k _ c.args.p.now (read_exponent c.args.k (omega (arith, c.requires.near))) c.if-k-lt0.true

pub returns-else-k-lt0-clause-ok : goal.returns-else-k-lt0-clause-ok
returns-else-k-lt0-clause-ok c =
    c.in_ok-multiple.ensures
    ∙ ap (λ n. times (balanced_natural n) c.args.p.now) (c.unsigned_abs-count.ensures.value
    ∙ ap unsigned_abs (read_exponent c.args.k (omega (arith, c.requires.near))))
    ∙ from_zero_test c.args.k _ c.args.p.now (read_exponent c.args.k (omega (arith, c.requires.near))) c.if-k-lt0.false
