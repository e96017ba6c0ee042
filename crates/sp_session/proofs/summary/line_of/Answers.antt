use Rattle.std.proofs.Common.{◌≤◌, ℕ, length, ap, sym, ◌∙◌, subst}
use Rattle.sp_session.proofs.Summing.{generated_short}
use Rattle.sp_session.proofs.summary.line_of.Goals as goal

pub summarize-requires : goal.summarize-requires
summarize-requires g c =
    subst (λ (n : ℕ). n ≤ 16777216) (sym (ap length (c.deref.ensures.value ∙ c.in_ok-input.ensures)))
    (generated_short c.args.start)
