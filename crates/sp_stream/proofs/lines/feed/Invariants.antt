use Rattle.std.proofs.Common.{◌≡◌, ◌++◌, List, ℕ, length}
use Rattle.sp_stream.specs.Writing.{Feeds}
use Rattle.sp_stream.proofs.lines.feed.Given as goal

abbrev pub invariant-loop-end : goal.invariant-loop-end
invariant-loop-end g l = record {
  same : g.A.Answers.rules l.answers ≡ g.A.Answers.rules l.initial.answers;
  seen : (seen : List ℕ) × (l.initial.chunk ≡ seen ++ l.rest)
      × Feeds g.K.Sink.written g.K.Sink.steady g.K.Sink.faults l.initial.sink l.sink
      (g.A.Answers.rules l.initial.answers) (g.A.Answers.state l.initial.answers) (g.A.Answers.state l.answers)
      l.pending.items (l.initial.pending.items ++ seen);
}

abbrev pub decreases-loop-end : goal.decreases-loop-end
decreases-loop-end g l = length l.rest
