-- What holds of each entry of two lists holds of each partition of the walk along both.
use Rattle.std.proofs.Common.{ℕ, List, [], ◌∷◌, Less, Equal, Greater}
use Rattle.std.specs.List.{AllByRecursion}
use Rattle.std.specs.Ordering.{match_ordering}
use Rattle.sp_defs.specs.Partition.{compare}
use Rattle.sp_defs.specs.Laurent.{Laurent}
use Rattle.sp_defs.specs.Power.{Entries}
use Rattle.sp_fock_law.specs.Joined.{Joint, joint, joined, joined_from}

-- Of the partition, and of what each list has there.
pub record HoldsOfBoth (A : List ℕ → Type 0) (P Q : Laurent → Type 0) (j : Joint) : Type 0 where
  pub partition : A j.at
  pub first : P j.first
  pub second : Q j.second

-- Each entry has a partition of the one kind and a polynomial of the other.
abbrev pub AllEntries : (List ℕ → Type 0) → (Laurent → Type 0) → Entries → Type 0
AllEntries A P es = AllByRecursion (λ t. A t.0 × P t.1) es

module _ (A : List ℕ → Type 0) (P Q : Laurent → Type 0) (first_nought : P []) (second_nought : Q []) where
  only_second : (fs : Entries) → AllEntries A Q fs → AllByRecursion (HoldsOfBoth A P Q) (joined [] fs)
  unfolding joined
  only_second [] h = tt
  only_second (f ∷ fs) (h, hs) = (record { partition = h.0; first = first_nought; second = h.1 }, only_second fs hs)

  all_from : (e : List ℕ × Laurent) (rest : Entries → List Joint) → A e.0 → P e.1
      → ((fs : Entries) → AllEntries A Q fs → AllByRecursion (HoldsOfBoth A P Q) (rest fs))
      → (fs : Entries) → AllEntries A Q fs → AllByRecursion (HoldsOfBoth A P Q) (joined_from e rest fs)
  unfolding joined_from
  all_from e rest a p more [] h = (record { partition = a; first = p; second = second_nought }, more [] tt)
  all_from e rest a p more (f ∷ fs) (h, hs) =
      elim (compare e.0 f.0) as (λ o. AllByRecursion (HoldsOfBoth A P Q)
      (match_ordering o (joint e.0 e.1 [] ∷ rest (f ∷ fs)) (joint e.0 e.1 f.1 ∷ rest fs)
      (joint f.0 [] f.1 ∷ joined_from e rest fs))) [
        | Less ↦ (record { partition = a; first = p; second = second_nought }, more (f ∷ fs) (h, hs))
        | Equal ↦ (record { partition = a; first = p; second = h.1 }, more fs hs)
        | Greater ↦ (record { partition = h.0; first = first_nought; second = h.1 }, all_from e rest a p more fs hs)
      ]

  -- what holds of all entries of both lists holds of all that occurs along the walk
  pub joined-all : (es fs : Entries) → AllEntries A P es → AllEntries A Q fs
      → AllByRecursion (HoldsOfBoth A P Q) (joined es fs)
  unfolding joined
  joined-all [] fs h k = only_second fs k
  joined-all (e ∷ es) fs (h, hs) k = all_from e (joined es) h.0 h.1 (λ gs g. joined-all es gs hs g) fs k
