use Rattle.std.proofs.Common.{sym, subst}
use Rattle.std.proofs.lemmas.Result.{on_ok_weaker, IfErr-weaker}
use Rattle.sp_stream.specs.declared.lines.Stop.{Stop}
use Rattle.sp_stream.specs.Transcript.{texts_of}
use Rattle.sp_stream.specs.Writing.{Stops}
use Rattle.sp_stream.proofs.Feeding.{last_puts, last_stops, closing_stops}
use Rattle.sp_stream.proofs.Returning.{if_err}
use Rattle.sp_stream.proofs.lines.finish.Goals as goal

pub returns-in_err-answer_last-clause-stops : goal.returns-in_err-answer_last-clause-stops
returns-in_err-answer_last-clause-stops g c =
    if_err c.from_residual.result c.from_residual.ensures.1 _ (λ stop is.
    subst (λ (s : Stop). Stops g.K.Sink.written g.K.Sink.steady g.K.Sink.faults c.args.sink.now
    c.answer_last.new.sink
    (texts_of (g.A.Answers.rules c.args.answers.now) (g.A.Answers.state c.args.answers.now) c.args.pending.now) s)
    (sym is)
    (last_stops _ _ _ (g.A.Answers.rules c.args.answers.now) _ _ (g.A.Answers.state c.args.answers.now)
    c.args.pending.now c.in_err-answer_last.field-0.0 c.requires
    c.in_err-answer_last.ensures.stops))

pub returns-clause-puts : goal.returns-clause-puts
returns-clause-puts g c =
    let said = c.in_ok-answer_last.ensures in
    on_ok_weaker c.close.result
    (last_puts _ _ _ _ _ _ _ _ _ _ c.args.pending.now said.same c.requires said.next said.puts) c.close.ensures.puts

pub returns-clause-stops : goal.returns-clause-stops
returns-clause-stops g c =
    let said = c.in_ok-answer_last.ensures in
    IfErr-weaker c.close.result _ _
    (λ stop. closing_stops _ _ _ _ _ _ _ _ _ _ c.args.pending.now stop said.same c.requires said.next said.puts)
    c.close.ensures.stops
