use Rattle.std.proofs.Common.{ap, ap₂, ◌∙◌, sym, not, ◌&&◌}
use Rattle.sp_defs.specs.Row.{is_positive}
use Rattle.sp_llt.proofs.Positive.{same_test}
use Rattle.sp_llt.proofs.Strays.{told_other}
use Rattle.sp_llt.proofs.search.is_stray.Goals as goal

pub returns-then-is_other : goal.returns-then-is_other
returns-then-is_other c =
    let other = sym c.if-is_other.true ∙ told_other c.args.pair.now.0 c.args.mu.now c.ne-is_other.result
    c.ne-is_other.ensures in
    ap₂ (λ a b. a && not b) other (same_test c.in_vzv.result c.args.pair.now.1
    c.terms-held.ensures.held.laurent c.in_vzv.ensures)

pub returns-else-is_other : goal.returns-else-is_other
returns-else-is_other c =
    let other = sym c.if-is_other.false ∙ told_other c.args.pair.now.0 c.args.mu.now c.ne-is_other.result
    c.ne-is_other.ensures in
    c.if-is_other.false ∙ ap (λ a. a && not (is_positive c.args.pair.now.1)) other
