-- Each call goes on with a smaller part.
use Rattle.std.proofs.Common.{◌≡◌, ◌++◌}
use Rattle.sp_partition.proofs.Listings.{blocks}
use Rattle.sp_partition.proofs.listing.+push_all.Given as goal

abbrev pub decreases-push_all : goal.decreases-push_all
decreases-push_all l = l.most

abbrev pub invariant-loop-times : goal.invariant-loop-times
invariant-loop-times l = l.list.items ≡ l.initial.list.items ++ blocks l.front l.most l.rest l.times
