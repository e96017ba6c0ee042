use Rattle.std.proofs.Common.{◌≡◌, take}
use Rattle.sp_llt.proofs.adopt.copied.Given as goal

abbrev pub invariant-loop-share : goal.invariant-loop-share
invariant-loop-share l = l.copies.items ≡ take l.share-index l.shares
