-- The entries of a vector times the balanced integers of their partitions.
use Rattle.std.specs.Prelude.{ℕ, ◌*◌, ◌≤◌, nat_lt, List, map, filter, length, unsigned_abs}
use Rattle.sp_defs.specs.Laurent.{Laurent, times, size}
use Rattle.sp_defs.specs.Power.{Entries}
use Rattle.sp_sl2_law.specs.Balanced.{balanced, corner_difference}

-- The products that aren't 0.
abbrev pub multiple_entries : ℕ → ℕ → Entries → Entries
multiple_entries e i es =
    filter (λ t. nat_lt 0 (length t.1)) (map (λ t. (t.0, times (balanced (corner_difference e i t.0)) t.1)) es)

-- The product of the difference and the size is within a limit.
abbrev pub MultipleFits : ℕ → ℕ → ℕ → List ℕ × Laurent → Type 0
MultipleFits e i limit t = unsigned_abs (corner_difference e i t.0) * size t.1 ≤ limit
