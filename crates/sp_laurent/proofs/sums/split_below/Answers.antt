use Rattle.std.proofs.Common.{rules, sym, subst, ◌<ℤ◌, ◌≤ℤ◌, int_lt}
use Rattle.std.specs.List.{AllByRecursion}
use Rattle.std.proofs.lemmas.List.Sorted.{IsPartitionPoint-from_clause}
use Rattle.sp_algebra.proofs.Canonical.{canonical-from}
use Rattle.sp_laurent.proofs.Merging.{parted, below_point, above_point}
use Rattle.sp_laurent.proofs.sums.split_below.Goals as goal

pub returns-clause-below : goal.returns-clause-below
returns-clause-below c =
    let k = c.args.power in
    let p = c.args.terms.now in
    let point = IsPartitionPoint-from_clause
    (λ t. int_lt t.0 k) p c.partition_point.result c.partition_point.ensures.partitioned
    (parted p (canonical-from p c.requires) k) (λ a r f called. search rules) in
    subst (λ q. AllByRecursion (λ t. t.0 <ℤ k) q) (sym c.split_at.ensures.front)
    (below_point p k c.partition_point.result point.0)

pub returns-clause-above : goal.returns-clause-above
returns-clause-above c =
    let k = c.args.power in
    let p = c.args.terms.now in
    let point = IsPartitionPoint-from_clause
    (λ t. int_lt t.0 k) p c.partition_point.result c.partition_point.ensures.partitioned
    (parted p (canonical-from p c.requires) k) (λ a r f called. search rules) in
    subst (λ q. AllByRecursion (λ t. k ≤ℤ t.0) q) (sym c.split_at.ensures.back)
    (above_point p k c.partition_point.result point.1)
