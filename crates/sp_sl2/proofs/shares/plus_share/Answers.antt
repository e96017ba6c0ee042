-- Where there is no polynomial nothing is added.
use Rattle.std.proofs.Common.{sym, ◌∙◌, ap}
use Rattle.sp_defs.specs.Laurent.{plus, times, power}
use Rattle.sp_fock.specs.Walk.{shown}
use Rattle.sp_algebra.proofs.Laws.{times_nought, plus_nought}
use Rattle.sp_sl2.proofs.shares.plus_share.Goals as goal

pub returns-in-None : goal.returns-in-None
returns-in-None c =
    sym (ap (λ s. plus c.args.sum (times (power c.args.power) (shown s))) c.in-None.is
    ∙ ap (plus c.args.sum) (times_nought (power c.args.power)) ∙ plus_nought c.args.sum c.requires.laurent)
