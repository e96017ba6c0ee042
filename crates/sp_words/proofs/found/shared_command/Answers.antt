use Rattle.std.proofs.Common.{◌≡◌, ap, ap₂, ◌∙◌, true, codes}
use Rattle.std.proofs.lemmas.Result.{IfOk-weaker}
use Rattle.clap.specs.Words.{App, app_of, new_app, with_rule}
use Rattle.clap.specs.Simple.{app_of_fields, on_top}
use Rattle.sp_words.proofs.found.shared_command.Goals as goal

-- a command with no option yet
abbrev bare : App
bare = on_top (λ s. record s { no_binary_name = true; disable_help_flag = true }) (new_app (codes "specht"))

pub returns : goal.returns
returns c =
    let bare_is : app_of c.disable_help_flag.result ≡ bare =
    ap app_of_fields c.disable_help_flag.ensures
    ∙ (ap (λ f. on_top (λ s. record s { disable_help_flag = true }) (app_of_fields f)) c.no_binary_name.ensures
    ∙ ap (on_top (λ s. record s { no_binary_name = true; disable_help_flag = true })) c.new.ensures.app) in
    IfOk-weaker c.arg-2.result _ _ (λ made added.
    added.shape c.option-2.ensures.local
    ∙ ap₂ with_rule (c.in_ok-arg.ensures.shape c.option.ensures.local ∙ ap₂ with_rule bare_is c.option.ensures.rule)
    c.option-2.ensures.rule) c.arg-2.ensures
