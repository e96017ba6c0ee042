-- All moves from the entries of a vector, in a list that can be put in order and cut into runs of one partition each.
use Rattle.std.specs.Prelude.{ℕ, ◌+◌, Bool, cond, nat_lt, List, [], ◌∷◌, ◌++◌}
use Rattle.std.specs.Prelude.{map, length, filter, sum_by, slice_index_or, ℤ}
use Rattle.std.specs.Ordering.{is_eq}
use Rattle.sp_defs.specs.Partition.{compare}
use Rattle.sp_defs.specs.Laurent.{Laurent, power, times, sum_over, size}
use Rattle.sp_defs.specs.Power.{Entries}
use Rattle.sp_power_law.specs.Walk.{moves}

-- The partition that a move leads to, the place of the entry that it comes from, and the exponent of the move.
abbrev pub Arrival : Type 0
Arrival = List ℕ × ℕ × ℤ

-- The moves from all entries, of which the first is at the place given.
unfoldable pub arrivals : ℕ → ℕ → ℕ → ℕ → Entries → List Arrival
arrivals e i m place [] = []
arrivals e i m place (entry ∷ es) = map (λ t. (t.0, place, t.1)) (moves e i m entry.0) ++ arrivals e i m (place + 1) es

-- The polynomial of the entry at a place, or 0.
abbrev pub polynomial_at : Entries → ℕ → Laurent
polynomial_at es place = (slice_index_or es place ([], [])).1

-- What an arrival adds at its partition: the polynomial of its entry, times the power of its exponent.
abbrev pub share_of : Entries → Arrival → Laurent
share_of es t = times (power t.2) (polynomial_at es t.1)

-- The size of the polynomial that an arrival comes from.
abbrev pub size_of : Entries → Arrival → ℕ
size_of es t = size (polynomial_at es t.1)

-- Whether a move leads to this partition.
abbrev pub is_at : List ℕ → Arrival → Bool
is_at nu t = is_eq (compare t.0 nu)

-- A partition with its arrivals.
abbrev pub Run : Type 0
Run = List ℕ × List Arrival

-- An arrival in front: in the first run, if that has its partition.
abbrev pub joined : Arrival → List Run → List Run
joined t [] = (t.0, t ∷ []) ∷ []
joined t (run ∷ runs) = cond (is_eq (compare t.0 run.0)) ((run.0, t ∷ run.1) ∷ runs) ((t.0, t ∷ []) ∷ run ∷ runs)

-- The arrivals one after the other, those of one partition side by side in one run.
unfoldable pub runs : List Arrival → List Run
runs [] = []
runs (t ∷ ts) = joined t (runs ts)

-- The partition of each run with the sum over it, where that isn't 0.
abbrev pub sums_of : Entries → List Run → Entries
sums_of es rs = filter (λ t. nat_lt 0 (length t.1)) (map (λ run. (run.0, sum_over run.1 (share_of es))) rs)

-- The sum of the sizes of each run.
abbrev pub sizes_of : Entries → List Run → List ℕ
sizes_of es rs = map (λ run. sum_by (size_of es) run.1) rs
