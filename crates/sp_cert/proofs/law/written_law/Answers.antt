use Rattle.sp_cert.proofs.RowColumns.{accepted_whole}
use Rattle.sp_cert.proofs.WrittenLines.{written_lines}
use Rattle.sp_cert.proofs.law.written_law.Goals as goal

pub returns : goal.returns
returns c key held all =
    record { written = written_lines key held all; accepted = accepted_whole key held all }
