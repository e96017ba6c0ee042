-- Partitions by their ranks among those of their degree (Knuth, The Art of Computer Programming, volume 4A, section
-- 7.2.1.4).
use Rattle.std.specs.Prelude.{ℕ, List, [], get_or}
use Rattle.sp_defs.specs.Partition.{partitions}

-- The partition of n of a rank: its place in the ascending list of all.
abbrev pub partition_at : ℕ → ℕ → List ℕ
partition_at n rank = get_or (partitions n) rank []
