use Rattle.std.proofs.Common.{sym, ◌∙◌, subst}
use Rattle.sp_defs.specs.Within.{ProductWithin}
use Rattle.sp_laurent.proofs.Laurent.plus_product.Goals as goal

pub returns-clause-powers : goal.returns-clause-powers
returns-clause-powers c d old product =
    c.in_ok-plus_product_within.ensures.powers d old
    (subst (ProductWithin d c.args.a.now) (sym (c.deref.ensures.value ∙ c.b.view_is)) product)
