use Rattle.sp_cert.specs.Checked.{IsChecked}
use Rattle.sp_cert.proofs.checking.check_in.Given as goal

abbrev pub invariant-loop-place : goal.invariant-loop-place
invariant-loop-place l = IsChecked l.ctx l.certificate l.place l.entries.items l.start
