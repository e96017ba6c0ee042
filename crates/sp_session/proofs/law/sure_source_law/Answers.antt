use Rattle.sp_session.proofs.Sure.{no_read_fault}
use Rattle.sp_session.proofs.law.sure_source_law.Goals as goal

pub returns : goal.returns
returns g c = λ many words painters source now_source sink now_sink status run.
    no_read_fault _ _ _ _ _ _ painters source now_source sink now_sink status many words tt run
