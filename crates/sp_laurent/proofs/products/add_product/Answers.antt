use Rattle.std.proofs.Common.{◌≡◌, subst}
use Rattle.std.specs.Result.{OnOk}
use Rattle.sp_defs.specs.Laurent.{plus}
use Rattle.sp_algebra.proofs.Steps.{times_comm}
use Rattle.sp_laurent.proofs.products.add_product.Goals as goal

pub returns-else-a-b : goal.returns-else-a-b
returns-else-a-b c =
    let new = c.add_each_multiple-else-a-b.new.terms.items in
    subst (λ q. OnOk c.add_each_multiple-else-a-b.result (new ≡ plus c.args.terms.now.items q))
    (times_comm c.args.b.now c.args.a.now) c.add_each_multiple-else-a-b.ensures
