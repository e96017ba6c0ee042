use Rattle.std.proofs.Common.{◌∙◌, ap}
use Rattle.sp_lang.specs.Values.{convention_read}
use Rattle.sp_lang.proofs.ByPlace.{convention_given}
use Rattle.sp_lang.proofs.read.convention.Goals as goal

pub returns : goal.returns
returns c =
    c.convention.ensures ∙ ap convention_read c.value_at.ensures ∙ convention_given c.args.given.now c.requires
