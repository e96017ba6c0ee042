use Rattle.std.proofs.Common.{take}
use Rattle.sp_cert.specs.Counts.{AreContents}
use Rattle.sp_cert.proofs.contents.contents_of.Given as goal

abbrev pub invariant-loop-mu : goal.invariant-loop-mu
invariant-loop-mu l = AreContents l.e (take l.mu-index l.list) l.contents.items
