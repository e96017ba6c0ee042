use Rattle.std.proofs.Common.{◌∙◌, ap}
use Rattle.sp_lang.specs.Values.{number_said}
use Rattle.sp_lang.proofs.ByPlace.{weight_given}
use Rattle.sp_lang.proofs.read.weight.Goals as goal

pub returns : goal.returns
returns c =
    c.number.ensures ∙ ap number_said c.value_at.ensures ∙ weight_given c.args.given.now c.requires
