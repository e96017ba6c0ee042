use Rattle.std.proofs.lemmas.Result.{on_ok_weaker}
use Rattle.sp_paint.specs.declared.notation.Notation.TheVariants.{Starred}
use Rattle.sp_paint.specs.Notation.{polynomial_text}
use Rattle.sp_paint.proofs.Joining.{written_items}
use Rattle.sp_paint.proofs.gap.put_cells.Goals as goal

pub returns-clause-text : goal.returns-clause-text
returns-clause-text c =
    on_ok_weaker c.put_later_cells.result
    (λ e. written_items (polynomial_text Starred) _ _ _ _ _ _ c.in-Some.ensures.steps
    c.in_ok-put_polynomial.ensures.text e) c.put_later_cells.ensures.text
