-- The bounds on powers for the entries of vectors of mu's degree, as code holds them, and for the share at one place,
-- under any limit that is at least the bound.
use Rattle.std.proofs.Common.{◌≡◌, ℕ, ◌<◌, ◌≤◌, Bool, true, List, length, map, filter, drop, get_or, nat_lt}
use Rattle.std.specs.List.{AllByRecursion}
use Rattle.sp_defs.specs.Partition.{degree, partitions, IsPartitionOf}
use Rattle.sp_defs.specs.Laurent.{Laurent, plus, negate}
use Rattle.sp_defs.specs.Power.{Vector, entries}
use Rattle.sp_defs.specs.Ladder.{ladder_vector}
use Rattle.sp_defs.specs.Row.{combination, regular_row, shares}
use Rattle.sp_defs.specs.Statements.{IsLabel}
use Rattle.sp_defs.specs.Within.{PowersWithin, ProductWithin}
use Rattle.sp_lists.proofs.Elements.{all_map, all_filter}
use Rattle.sp_lists.proofs.Places.{all_at, all_weaken}
use Rattle.sp_shapes.proofs.Listing.{all_partitions}
use Rattle.sp_algebra.proofs.Sizes.{within_more, product_within_more}
use Rattle.sp_row_bounds.specs.Powers.{ladder_bound, row_bound}
use Rattle.sp_row_bounds.proofs.Rows.{powers_law}

-- what holds of a vector at each partition of n holds of its entries
pub entries_all : (P : Laurent → Type 0) (n : ℕ) (w : Vector) → ((lambda : List ℕ) → IsPartitionOf n lambda →
    P (w lambda)) → AllByRecursion (λ t. P t.1) (entries n w)
entries_all P n w h =
    all_filter (λ t. P t.1) (λ t. nat_lt 0 (length t.1)) (map (λ x. (x, w x)) (partitions n))
    (all_map (λ t. nat_lt 0 (length t.1) ≡ true → P t.1) (λ x. (x, w x)) (partitions n)
    (all_weaken (IsPartitionOf n) (λ x. nat_lt 0 (length (w x)) ≡ true → P (w x)) (partitions n) (λ x g _. h x g)
    (all_partitions n)))

-- a share times its row
pub product_entries : (e : ℕ) (mu : List ℕ) (limit j : ℕ) (d : List ℕ × Laurent) → IsLabel e mu →
    row_bound e mu ≤ limit → j < length (shares e mu) →
    AllByRecursion (λ t. ProductWithin limit (get_or (shares e mu) j d).1 t.1)
    (entries (degree mu) (regular_row e (get_or (shares e mu) j d).0))
product_entries e mu limit j d is le lt =
    entries_all (ProductWithin limit (get_or (shares e mu) j d).1) (degree mu)
    (regular_row e (get_or (shares e mu) j d).0)
    (λ lambda h.
    product_within_more (row_bound e mu) limit (get_or (shares e mu) j d).1
    (regular_row e (get_or (shares e mu) j d).0 lambda) le
    (all_at (λ a. ProductWithin (row_bound e mu) a.1 (regular_row e a.0 lambda)) (shares e mu) j d
    ((powers_law e mu is).products lambda h.partition) lt))

-- the share at a rank
pub share_within : (e : ℕ) (mu : List ℕ) (limit j : ℕ) (d : List ℕ × Laurent) → IsLabel e mu →
    ladder_bound mu ≤ limit → j < length (shares e mu) → PowersWithin limit (get_or (shares e mu) j d).1
share_within e mu limit j d is le lt =
    within_more (ladder_bound mu) limit (get_or (shares e mu) j d).1 le
    (all_at (λ a. PowersWithin (ladder_bound mu) a.1) (shares e mu) j d (powers_law e mu is).shares_at lt)

module _ (e : ℕ) (mu : List ℕ) (limit : ℕ) (is : IsLabel e mu) (le : row_bound e mu ≤ limit) where
  -- the entries of the row
  pub row_entries : AllByRecursion (λ t. PowersWithin limit t.1) (entries (degree mu) (regular_row e mu))
  row_entries = entries_all (PowersWithin limit) (degree mu) (regular_row e mu)
      (λ lambda h.
      within_more (row_bound e mu) limit (regular_row e mu lambda) le ((powers_law e mu is).row lambda h.partition))

  -- what is left without those of the shares from t on that pass a test
  pub left_entries : (t : ℕ) (test : List ℕ × Laurent → Bool) →
      AllByRecursion (λ s. PowersWithin limit s.1)
      (entries (degree mu)
      (λ lambda.
      plus (ladder_vector e mu lambda)
      (negate (combination (regular_row e) (filter test (drop t (shares e mu))) lambda))))
  left_entries t test = entries_all (PowersWithin limit) (degree mu) rest (λ lambda h.
      within_more (row_bound e mu) limit (rest lambda) le ((powers_law e mu is).left t test lambda h.partition))
    where
      rest : Vector
      rest lambda =
          plus (ladder_vector e mu lambda)
          (negate (combination (regular_row e) (filter test (drop t (shares e mu))) lambda))
