use Rattle.std.proofs.Common.{List, ℕ, ◌∙◌, subst}
use Rattle.sp_stream.specs.declared.status.Status.TheVariants.{Done, WriteFault}
use Rattle.sp_session.specs.Summary.{IsOneReply}
use Rattle.sp_session.proofs.Summing.{line_broken, line_done}
use Rattle.sp_session.proofs.summary.write_summary.Goals as goal

pub returns-in-Ok-deliver : goal.returns-in-Ok-deliver
returns-in-Ok-deliver g c =
    subst (λ (line : List ℕ).
    IsOneReply g.K.Sink.written g.K.Sink.steady g.K.Sink.faults line c.args.sink.now c.deliver.new.sink Done)
    (c.deref.ensures.value ∙ c.in-Ok.ensures) (line_done _ _ _ _ _ _ c.in-Ok-deliver.ensures.ok)

pub returns-in-Ok : goal.returns-in-Ok
returns-in-Ok g c =
    subst (λ (line : List ℕ).
    IsOneReply g.K.Sink.written g.K.Sink.steady g.K.Sink.faults line c.args.sink.now c.deliver.new.sink WriteFault)
    (c.deref.ensures.value ∙ c.in-Ok.ensures) (line_broken _ _ _ _ _ _ c.in-Err-deliver.ensures.err)
