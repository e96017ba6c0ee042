-- The lists of partitions ascend strictly, place by place.
use Rattle.std.proofs.Common.{◌≡◌, ℕ, ◌<◌, List, [], length, get_or, Less, sym, ◌∙◌, arith}
use Rattle.std.specs.List.{AllByRecursion}
use Rattle.sp_defs.specs.Partition.{IsPartitionOf, IsRegularOf, Ascending, order, partitions, regulars}
use Rattle.sp_lists.proofs.Places.{all_at}
use Rattle.sp_lists.proofs.Places.{all_weaken}
use Rattle.sp_shapes.proofs.Listing.{all_partitions, partitions_ascend, all_regulars, regulars_ascend}
use Rattle.sp_shapes.proofs.Order.{ascends_at}
use Rattle.sp_partition.specs.OrderLaws.{order_one_degree}

-- Each partition of the list comes before those in later places.
abbrev pub Rises : List (List ℕ) → Type 0
Rises list = (i j : ℕ) → i < j → j < length list → order (get_or list i []) (get_or list j []) ≡ Less

-- Where they have one degree, that is what ascending lexicographically says.
pub rises_ascending : (n : ℕ) (list : List (List ℕ)) → AllByRecursion (IsPartitionOf n) list → Ascending list →
    Rises list
rises_ascending n list all h i j lt within =
    order_one_degree (get_or list i []) (get_or list j [])
    ((all_at (IsPartitionOf n) list i [] all (omega arith)).total
    ∙ sym (all_at (IsPartitionOf n) list j [] all within).total)
    ∙ ascends_at list h i j lt within

-- The list of all partitions of n ascends place by place.
pub partitions_rise : (n : ℕ) → Rises (partitions n)
partitions_rise n = rises_ascending n (partitions n) (all_partitions n) (partitions_ascend n)

-- So does that of the e-regular ones.
pub regulars_rise : (e n : ℕ) → Rises (regulars e n)
regulars_rise e n = rises_ascending n (regulars e n)
    (all_weaken (IsRegularOf e n) (IsPartitionOf n) (regulars e n)
    (λ x h. record { partition = h.partition; total = h.total }) (all_regulars e n)) (regulars_ascend e n)
