-- Bead numbers by recursion.
use Rattle.std.specs.Prelude.{ℕ, zero, suc, ◌+◌, ◌<◌, List, [], ◌∷◌}
use Rattle.std.specs.List.{AllByRecursion}

-- n - 1, n - 2, .. 0: the beads of an empty partition.
abbrev pub down : ℕ → List ℕ
down zero = []
down (suc n) = n ∷ down n

-- The k beta numbers of a partition.
-- (James and Kerber, The Representation Theory of the Symmetric Group, ch. 2)
abbrev pub numbers : List ℕ → ℕ → List ℕ
numbers parts zero = []
numbers [] (suc k) = k ∷ numbers [] k
numbers (p ∷ parts) (suc k) = (p + k) ∷ numbers parts k

-- The numbers descend strictly.
abbrev pub Falls : List ℕ → Type 0
Falls [] = Unit {0}
Falls (b ∷ below) = AllByRecursion (λ c. c < b) below × Falls below
