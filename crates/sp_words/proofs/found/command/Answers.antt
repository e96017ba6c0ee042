use Rattle.std.proofs.Common.{ap, ap₂, sym, ◌∙◌, Bool}
use Rattle.std.proofs.lemmas.Result.{IfOk-weaker}
use Rattle.clap.specs.Words.{with_rule}
use Rattle.sp_words.specs.Found.{program}
use Rattle.sp_words.specs.Words.{names_for}
use Rattle.sp_words.proofs.found.command.Goals as goal

pub returns-then-many : goal.returns-then-many
returns-then-many c =
    IfOk-weaker c.arg.result _ _ (λ made added.
    added.shape c.option.ensures.local ∙ ap₂ with_rule c.in_ok-shared.ensures c.option.ensures.rule
    ∙ ap (λ (many : Bool). program (names_for many)) (sym c.if-many.true)) c.arg.ensures

pub returns-else-many : goal.returns-else-many
returns-else-many c = c.in_ok-shared.ensures ∙ ap (λ (many : Bool). program (names_for many)) (sym c.if-many.false)
