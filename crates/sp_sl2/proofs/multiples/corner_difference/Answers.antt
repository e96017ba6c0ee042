-- The lists have the nodes of the residue, so their lengths are the counts.
use Rattle.std.proofs.Common.{◌∙◌, ap₂, pos, ◌-ℤ◌, arith}
use Rattle.sp_power.proofs.Descent.{read_exponent}
use Rattle.sp_defs.specs.Node.{addable, removable}
use Rattle.sp_sl2.proofs.Products.{counted}
use Rattle.sp_sl2.proofs.multiples.corner_difference.Goals as goal

pub returns-clause-value : goal.returns-clause-value
returns-clause-value c =
    read_exponent c.difference.result (omega (arith, c.difference.ensures.near)) ∙ c.difference.ensures.value
    ∙ ap₂ (λ a b. pos a -ℤ pos b)
    (counted c.args.e c.args.i c.len.result c.addable.result.items (addable c.args.p.now) c.len.ensures.value
    c.addable.ensures)
    (counted c.args.e c.args.i c.len-2.result c.removable.result.items (removable c.args.p.now) c.len-2.ensures.value
    c.removable.ensures)
