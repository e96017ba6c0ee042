use Rattle.std.proofs.Common.{sym, ◌∙◌, ap}
use Rattle.sp_fock.specs.Sum.{added}
use Rattle.sp_fock.specs.Walk.{shown}
use Rattle.sp_fock.proofs.Adding.{added_nothing}
use Rattle.sp_fock.proofs.meeting.Meeting.sum.Goals as goal

pub returns-in-None-clause-sum : goal.returns-in-None-clause-sum
returns-in-None-clause-sum c =
    added_nothing c.args.factor.now c.args.self.first c.requires.can.laurent
    ∙ ap (λ q. added c.args.factor.now c.args.self.first (shown q)) (sym c.in-None.is)
