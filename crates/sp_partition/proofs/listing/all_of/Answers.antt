use Rattle.std.proofs.Common.{◌≡◌, ◌↔◌, ◌++◌, sym, ◌∙◌, ap, subst, Contains}
use Rattle.sp_defs.specs.Partition.{Ascending, IsPartitionOf, partitions}
use Rattle.sp_shapes.proofs.Listing.{partitions_ascend, partitions_contain}
use Rattle.sp_defs.specs.Partition.{partitions_within}
use Rattle.sp_partition.proofs.Listings.{behind, partitions_behind}
use Rattle.sp_partition.proofs.listing.all_of.Goals as goal

listed : (c : goal.In_ok-push_all) → c.push_all.new.list.items ≡ partitions c.args.n
listed c =
    c.in_ok-push_all.ensures
    ∙ ap (λ xs. xs ++ behind c.empty.result (partitions_within c.args.n c.args.n)) c.new-list.ensures.items
    ∙ partitions_behind c.empty.result c.args.n c.empty.ensures

pub returns-clause-list : goal.returns-clause-list
returns-clause-list c = listed c

pub returns-clause-ascends : goal.returns-clause-ascends
returns-clause-ascends c = subst Ascending (sym (listed c)) (partitions_ascend c.args.n)

pub returns-clause-each : goal.returns-clause-each
returns-clause-each c = λ p.
    subst (λ list. Contains list p ↔ IsPartitionOf c.args.n p) (sym (listed c)) (partitions_contain c.args.n p)
