-- What a walk along two lists of pairs hands out.
use Rattle.std.specs.Prelude.{List, Option, Some, None, []}
use Rattle.std.specs.Borrow.{Bor}
use Rattle.sp_defs.specs.Laurent.{Laurent}
use Rattle.sp_fock_law.specs.Joined.{joined, joint, Joint as JointAt}
use Rattle.sp_fock.specs.declared.joined.Joint.{Joint}
use Rattle.sp_fock.specs.declared.joined.Joined.{Joined}

-- The polynomial behind a reference, and 0 where there is none.
abbrev pub shown : Option (Bor Laurent) → Laurent
shown None = []
shown (Some p) = p.now

abbrev pub joint_of : Joint → JointAt
joint_of j = joint j.at (shown j.first) (shown j.second)

-- What is still to come.
abbrev pub walk_of : Joined → List JointAt
walk_of w = joined w.first.now w.second.now
