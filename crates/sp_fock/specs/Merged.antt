-- What a walk along a list that is used up and one that stays hands out.
use Rattle.std.specs.Prelude.{List}
use Rattle.sp_fock_law.specs.Joined.{joined, joint, Joint as JointAt}
use Rattle.sp_fock.specs.Left.{pairs_left}
use Rattle.sp_fock.specs.Walk.{shown}
use Rattle.sp_fock.specs.declared.meeting.Meeting.{Meeting}
use Rattle.sp_fock.specs.declared.merged.Merged.{Merged}

abbrev pub meeting_of : Meeting → JointAt
meeting_of m = joint m.at m.first (shown m.second)

-- What is still to come.
abbrev pub merged_of : Merged → List JointAt
merged_of w = joined (pairs_left w.head w.others) w.second.now
