-- The rank of an e-regular partition among those of its degree.
use Rattle.std.proofs.Common.{◌≡◌, ℕ, ◌<◌, true, List, [], length, get_or, ◌∙◌, sym, refl, arith}
use Rattle.std.proofs.Common.{Contains, Less}
use Rattle.sp_defs.specs.Partition.{IsPartition, IsRegularOf, degree, is_regular, order, regulars}
use Rattle.sp_shapes.proofs.Listing.{all_regulars, each_regular, regulars_ascend}
use Rattle.sp_shapes.proofs.Order.{ascends_at}
use Rattle.sp_lists.proofs.Places.{all_at}
use Rattle.sp_partition.specs.OrderLaws.{order_one_degree}
use Rattle.sp_lists.proofs.Occurrence.{contains}

-- The list of the e-regular partitions ascends in the order of partitions.
pub ordered : (e n : ℕ) (i j : ℕ) → i < j → j < length (regulars e n) →
    order (get_or (regulars e n) i []) (get_or (regulars e n) j []) ≡ Less
ordered e n i j lt h =
    order_one_degree (get_or rs i []) (get_or rs j []) ((at i (omega (arith, lt, h))).total ∙ sym (at j h).total)
    ∙ ascends_at rs (regulars_ascend e n) i j lt h
  where
    rs : List (List ℕ)
    rs = regulars e n

    at : (k : ℕ) → k < length rs → IsRegularOf e n (get_or rs k [])
    at k below = all_at (IsRegularOf e n) rs k [] (all_regulars e n) below

-- Each e-regular partition is in the list of its degree.
pub listed : (e : ℕ) (mu : List ℕ) → IsPartition mu → is_regular e mu ≡ true → Contains (regulars e (degree mu)) mu
listed e mu partition regular = contains mu (regulars e (degree mu))
    (each_regular e (degree mu) mu (record { partition = partition; total = refl; regular = regular }))
