-- The loop over the places of a vector: what is found, and what is still to come.
use Rattle.std.proofs.Common.{◌≡◌, ℕ, ◌+◌, ◌<◌, ◌≤◌, List, [], ◌++◌, map, length, drop, get_or, sym, ◌∙◌, ap}
use Rattle.std.proofs.Common.{subst, pos}
use Rattle.std.proofs.lemmas.List.{get_or_default}
use Rattle.sp_defs.specs.Partition.{partitions}
use Rattle.sp_defs.specs.Power.{Entries}
use Rattle.sp_defs.specs.Signature.{signature}
use Rattle.sp_nodes.specs.declared.corners.Mark.{Mark}
use Rattle.sp_nodes.specs.Marks.{mark_of}
use Rattle.sp_power_law.specs.Walk.{CanGrow}
use Rattle.sp_power_law.specs.Runs.{arrivals}
use Rattle.sp_power_law.proofs.Growth.{can_grow}
use Rattle.sp_power.specs.Arrivals.{arrive_from}
use Rattle.sp_power.proofs.Found.{moves_are, found_more}
use Rattle.sp_ranks.specs.Ranks.{partition_at}
use Rattle.sp_ranks.specs.Arrivals.{arrivals_at, found_at}
use Rattle.sp_ranks.specs.declared.walk.Arrival.{Arrival}
use Rattle.sp_ranks.specs.declared.walk.Way.{Way}
use Rattle.sp_ranks.proofs.Overs.{partition_there}

-- The marks of the partition of a rank are its signature.
pub marks_at : (e t i n rank : ℕ) (marks found : List Mark) → t ≡ e →
    map mark_of found ≡ signature t i (partition_at n rank) → marks ≡ found →
    map mark_of marks ≡ signature e i (partition_at n rank)
marks_at e t i n rank marks found same_e is same =
    ap (map mark_of) same ∙ is ∙ ap (λ k. signature k i (partition_at n rank)) same_e

-- Down the signature of a partition each node can be added in its turn.
pub grows_at : (e i n rank : ℕ) (marks : List Mark) → 2 ≤ e → rank < length (partitions n) →
    map mark_of marks ≡ signature e i (partition_at n rank) → CanGrow (map mark_of marks) (partition_at n rank)
grows_at e i n rank marks he there is =
    subst (λ l. CanGrow l (partition_at n rank)) (sym is)
    (can_grow e i (partition_at n rank) he (partition_there n rank there).partition)

-- The moves from one place more.
pub found_next : (e i m n k : ℕ) (es : Entries) (marks : List Mark) (way : Way) (old new : List Arrival) →
    k < length es → partition_at n way.rank ≡ (get_or es k ([], [])).0 →
    map mark_of marks ≡ signature e i (partition_at n way.rank) → way.difference ≡ pos 0 → way.exponent ≡ pos 0 →
    arrivals_at (n + m) new ≡ arrivals_at (n + m) old ++ found_at n k marks m way →
    arrivals_at (n + m) old ++ arrivals e i m k (drop k es) ≡ arrivals e i m 0 es →
    arrivals_at (n + m) new ++ arrivals e i m (k + 1) (drop (k + 1) es) ≡ arrivals e i m 0 es
found_next e i m n k es marks way old new lt at is no_d no_x added so_far =
    found_more e i m k es (get_or es k ([], [])) (arrivals_at (n + m) old) (arrivals_at (n + m) new)
    (arrivals e i m 0 es) lt (get_or_default es k ([], []) (get_or es k ([], [])) lt)
    (added ∙ ap (λ l. arrivals_at (n + m) old ++ map (arrive_from k) l)
    (moves_are e i m (get_or es k ([], [])).0 (partition_at n way.rank) (map mark_of marks) way.difference way.exponent
    (is ∙ ap (signature e i) at) at no_d no_x))
    so_far
