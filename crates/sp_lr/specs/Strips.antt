-- The lists that the code makes, in order: strips, and chains of strips. What they list is proved of them.
use Rattle.std.specs.Prelude.{ℕ, zero, suc, ◌+◌, ◌-◌, ◌≤◌, min, cond, nat_le, nat_eq, List, [], ◌∷◌, ◌++◌, map}
use Rattle.std.specs.Prelude.{flat_map, length, slice_index}
use Rattle.std.specs.List.{AllByRecursion}
use Rattle.sp_defs.specs.Partition.{part, from_one_to}
use Rattle.sp_lr.specs.declared.strips.Row.{Row}
use Rattle.sp_partition.specs.Held.{IsHeld}

-- The rows of a partition, with what each has more than before the last strip.
abbrev pub rows_of : List ℕ → List ℕ → List Row
rows_of before last =
    map (λ r. record { length = part last r; gained = part last r - part before r }) (from_one_to (length last))

-- No row is longer than the one above, of which the first is `above`.
abbrev pub Falls : ℕ → List Row → Type 0
Falls above [] = Unit {0}
Falls above (row ∷ rows) = (row.length ≤ above) × Falls row.length rows

-- What all rows together have more.
abbrev pub all_gained : List Row → ℕ
all_gained [] = 0
all_gained (row ∷ rows) = row.gained + all_gained rows

-- The numbers below n, descending.
abbrev pub down : ℕ → List ℕ
down zero = []
down (suc n) = n ∷ down n

-- What is left makes a row of its own, where it is at most `most`.
unfoldable pub last_rows : ℕ → ℕ → List (List ℕ)
last_rows most left = cond (nat_le left most) (cond (nat_eq left 0) ([] ∷ []) ((left ∷ []) ∷ [])) []

-- The rows that a strip of `left` nodes makes of these and of a new one. In any first rows it has at most `spare` nodes
-- above those that the rows before have more.
unfoldable pub strips : List Row → ℕ → ℕ → ℕ → List (List ℕ)
strips [] above spare left = last_rows (min (min left spare) above) left
strips (row ∷ rows) above spare left =
    flat_map
    (λ more. map (λ below. (row.length + more) ∷ below)
    (strips rows row.length (spare - more + row.gained) (left - more)))
    (down (min (min left spare) (above - row.length) + 1))

-- The partitions that a strip of n nodes makes of `last`.
abbrev pub strips_after : List ℕ → List ℕ → ℕ → ℕ → List (List ℕ)
strips_after before last spare n = strips (rows_of before last) (part last 1 + n) spare n

-- The chains that go on from `last` by strips of these sizes.
unfoldable pub chains : List ℕ → List ℕ → ℕ → List ℕ → List (List (List ℕ))
chains before last spare [] = [] ∷ []
chains before last spare (n ∷ ns) =
    flat_map (λ shape. map (λ shapes. shape ∷ shapes) (chains last shape 0 ns)) (strips_after before last spare n)

-- Lists of parts with those of `front` before them.
abbrev pub behind : {X : Type 0} → List X → List (List X) → List (List X)
behind front tails = map (λ tail. front ++ tail) tails

-- What `front` makes of the lists is held by the type of partitions.
abbrev pub AreHeld : List ℕ → List (List ℕ) → Type 0
AreHeld front tails = AllByRecursion (λ tail. IsHeld (front ++ tail)) tails

-- The rows of `before` are no longer than those of `last`, which the type of partitions has room for.
pub record IsRoom (before last : List ℕ) (spare : ℕ) : Type 0 where
  pub grows : (i : ℕ) → slice_index before i ≤ slice_index last i
  pub held : IsHeld last
  pub spare_small : spare ≤ 32
