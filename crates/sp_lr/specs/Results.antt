-- What the calls answer.
use Rattle.std.specs.Prelude.{◌≡◌, ◌≢◌, ℕ, ◌-◌, ◌<◌, ◌≤◌, List, [], ◌∷◌, ◌++◌, map, length, replicate, slice_index_or}
use Rattle.std.specs.List.{AllByRecursion, Contains}
use Rattle.std.specs.declared.cmp.Ordering.TheVariants.{Greater}
use Rattle.sp_defs.specs.Partition.{order}
use Rattle.sp_lr_defs.specs.Filling.{ListsEach, IsChainTo}
use Rattle.sp_lr.specs.declared.filling.Filling.{Filling}

-- The chains of fillings.
abbrev pub chains_in : List Filling → List (List (List ℕ))
chains_in found = map (λ f. f.chain) found

-- There are n chains with the property: a list that has each of them once has this length.
pub record AreSoMany (P : List (List ℕ) → Type 0) (n : ℕ) : Type 0 where
  pub chains : List (List (List ℕ))
  pub lists : ListsEach P chains
  pub count : length chains ≡ n

-- There are more than n.
pub record AreMore (P : List (List ℕ) → Type 0) (n : ℕ) : Type 0 where
  pub all : ℕ
  pub count : AreSoMany P all
  pub more : n < all

-- Each partition of the list is later than all that follow it.
abbrev pub DescendingPairs : List (List ℕ × ℕ) → Type 0
DescendingPairs [] = Unit {0}
DescendingPairs (pair ∷ rest) = AllByRecursion (λ p. order pair.0 p.0 ≡ Greater) rest × DescendingPairs rest

-- The list in which each partition stands as often as its pair says, the last pair first.
abbrev pub spread : List (List ℕ × ℕ) → List (List ℕ)
spread [] = []
spread (pair ∷ pairs) = spread pairs ++ replicate pair.1 pair.0

-- The member before this place is another.
abbrev pub IsFirst : List (List ℕ) → ℕ → Type 0
IsFirst ends place = 0 < place → slice_index_or ends (place - 1) [] ≢ slice_index_or ends place []

-- The pairs are the partitions that have a filling over lambda with content mu, each with the number of its fillings.
pub record IsProduct (lambda mu : List ℕ) (pairs : List (List ℕ × ℕ)) : Type 0 where
  pub each : (nu : List ℕ) (n : ℕ) → Contains pairs (nu, n) →
      AreSoMany (IsChainTo lambda mu nu) n × (1 ≤ n)
  pub all : (nu : List ℕ) (chain : List (List ℕ)) → IsChainTo lambda mu nu chain → (n : ℕ) × Contains pairs (nu, n)
  pub descending : DescendingPairs pairs
