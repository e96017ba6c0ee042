-- Two ascending lists of entries, walked together.
use Rattle.std.specs.Prelude.{ℕ, Bool, nat_lt, List, [], ◌∷◌, map, filter, length}
use Rattle.std.specs.Ordering.{match_ordering}
use Rattle.sp_defs.specs.Partition.{compare}
use Rattle.sp_defs.specs.Laurent.{Laurent}
use Rattle.sp_defs.specs.Power.{Entries}

-- A partition, with the polynomials that two vectors have there.
pub record Joint : Type 0 where
  pub at : List ℕ
  pub first : Laurent
  pub second : Laurent

abbrev pub joint : List ℕ → Laurent → Laurent → Joint
joint lambda p q = record { at = lambda; first = p; second = q }

-- The walk that begins with the entry e of the first list, where `rest` is the walk of those after it.
unfoldable pub joined_from : List ℕ × Laurent → (Entries → List Joint) → Entries → List Joint
joined_from e rest [] = joint e.0 e.1 [] ∷ rest []
joined_from e rest (f ∷ fs) =
    match_ordering (compare e.0 f.0)
    (joint e.0 e.1 [] ∷ rest (f ∷ fs))
    (joint e.0 e.1 f.1 ∷ rest fs)
    (joint f.0 [] f.1 ∷ joined_from e rest fs)

-- The partitions that occur in either list, ascending.
unfoldable pub joined : Entries → Entries → List Joint
joined [] fs = map (λ f. joint f.0 [] f.1) fs
joined (e ∷ es) fs = joined_from e (joined es) fs

-- What isn't 0.
abbrev pub is_nonzero : Laurent → Bool
is_nonzero p = nat_lt 0 (length p)

-- The entries of a vector whose polynomial at each partition is `h` of the two.
abbrev pub combined : (Laurent → Laurent → Laurent) → List Joint → Entries
combined h js = filter (λ t. is_nonzero t.1) (map (λ j. (j.at, h j.first j.second)) js)
