-- A core and a quotient on one abacus.
use Rattle.std.specs.Prelude.{ℕ, ◌+◌, ◌*◌, ◌/◌, ◌%◌, Bool, false, ◌||◌, nat_eq, List, [], ◌∷◌, filter, length, sum_by}
use Rattle.std.specs.Prelude.{slice_index_or}
use Rattle.sp_defs.specs.Partition.{degree}
use Rattle.sp_defs.specs.Abacus.{beads, shown, runner}
use Rattle.sp_abacus_law.specs.Beads.{down, numbers}

-- n is in the list.
abbrev pub member : ℕ → List ℕ → Bool
member n [] = false
member n (x ∷ xs) = nat_eq x n || member n xs

-- The numbers below n of beads at these places of the runners.
abbrev pub placed : ℕ → (ℕ → List ℕ) → ℕ → List ℕ
placed e places n = filter (λ b. member (b / e) (places (b % e))) (down n)

-- So many beads that each runner of the core has one for each part of its partition.
abbrev pub beads_for : ℕ → List ℕ → List (List ℕ) → ℕ
beads_for e core quotient = beads e core + sum_by length quotient * e

-- The places on runner i: so many as the core has there, and they show entry i of the quotient.
abbrev pub places_for : ℕ → List ℕ → List (List ℕ) → ℕ → List ℕ
places_for e core quotient i =
    numbers (slice_index_or quotient i []) (length (runner e (numbers core (beads_for e core quotient)) i))

-- The numbers of the beads at these places.
abbrev pub combined_beads : ℕ → List ℕ → List (List ℕ) → List ℕ
combined_beads e core quotient =
    placed e (places_for e core quotient) ((sum_by degree quotient + beads_for e core quotient) * e)

-- The partition with this core and quotient.
-- (James and Kerber, The Representation Theory of the Symmetric Group, ch. 2)
abbrev pub combined : ℕ → List ℕ → List (List ℕ) → List ℕ
combined e core quotient = shown (combined_beads e core quotient)
