use Rattle.std.proofs.Common.{◌≡◌, ◌++◌, subst, OnOk}
use Rattle.sp_defs.specs.Text.{vector_text, written}
use Rattle.sp_fock.proofs.vector.Vector.print.Goals as goal

pub returns-else-is_err-clause-text : goal.returns-else-is_err-clause-text
unfolding vector_text
returns-else-is_err-clause-text c =
    let printed = c.put_terms-printed in
    subst (λ ts. OnOk printed.result
    (printed.new.out.items ≡ c.args.out.now.items ++ written ts)) c.terms.ensures printed.ensures.text
