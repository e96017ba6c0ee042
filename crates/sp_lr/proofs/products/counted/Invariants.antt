-- The members passed so far are counted.
use Rattle.sp_lr.proofs.Groups.{AreCounted}
use Rattle.sp_lr.proofs.products.counted.Given as goal

abbrev pub invariant-loop-place : goal.invariant-loop-place
invariant-loop-place l = AreCounted l.ends l.place l.count l.pairs.items
