use Rattle.sp_session.proofs.Sure.{obeyed_whole}
use Rattle.sp_session.proofs.law.memory_law.Goals as goal

pub returns : goal.returns
returns c = λ many words painters source now_source sink now_sink status run said says read room.
    obeyed_whole painters source now_source sink now_sink status said.limit said.generate (run.obeys said says) read
    room
