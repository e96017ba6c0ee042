use Rattle.std.proofs.Common.{◌≡◌, length}
use Rattle.sp_stream.proofs.Summing.{IsSummed}
use Rattle.sp_stream.proofs.summary.summarize.Given as goal

abbrev pub invariant-loop-end : goal.invariant-loop-end
invariant-loop-end g l =
    (g.A.Answers.rules l.answers ≡ g.A.Answers.rules l.initial.answers)
    × IsSummed (g.A.Answers.rules l.initial.answers) (g.A.Answers.state l.initial.answers) l.initial.input
    (g.A.Answers.state l.answers) l.rest l.summary

abbrev pub decreases-loop-end : goal.decreases-loop-end
decreases-loop-end g l = length l.rest
