-- What a reader tells of a line.
use Rattle.std.specs.Prelude.{◌≡◌, ℕ, ◌+◌, List}
use Rattle.sp_cert.specs.declared.fault.CertFault.{CertFault}
use Rattle.sp_cert.specs.declared.fault.CertFault.TheVariants.{Malformed, TooLarge, Wrong, Memory}
use Rattle.sp_cert.specs.declared.reader.Progress.{Progress}
use Rattle.sp_cert.specs.declared.reader.Progress.TheVariants.{More, Whole}
use Rattle.sp_cert.specs.Grammar.{Reading, answer_to, Allowed, Ends, NotAllowed}

-- A line that is allowed: it comes before the others, or it is the end.
abbrev pub IsProgress : Reading → List ℕ → Progress → Type 0
IsProgress r text (More next) = (answer_to r.before text ≡ Allowed next.before) × (next.next ≡ r.next + 1)
IsProgress r text (Whole c) = answer_to r.before text ≡ Ends c

-- A line that isn't, with its number, or want of memory.
abbrev pub IsRefused : Reading → List ℕ → CertFault → Type 0
IsRefused r text (Malformed line) = (answer_to r.before text ≡ NotAllowed) × (line ≡ r.next)
IsRefused r text (TooLarge at) = ⊥
IsRefused r text (Wrong at) = ⊥
IsRefused r text Memory = Unit {0}
