use Rattle.std.proofs.Common.{◌≡◌, map, take}
use Rattle.sp_cert.specs.Grammar.{ColumnHead}
use Rattle.sp_cert.specs.Drafts.{head_of}
use Rattle.sp_cert.proofs.awaited.columns_of.Given as goal

abbrev pub invariant-loop-mu : goal.invariant-loop-mu
invariant-loop-mu l = map head_of l.heads.items ≡ map ColumnHead (take l.mu-index l.regulars)
