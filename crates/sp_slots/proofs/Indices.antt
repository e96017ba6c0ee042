-- The entries of a vector by the places of their partitions.
use Rattle.std.proofs.Common.{◌≡◌, ℕ, ◌<◌, List, [], length, get_or, sym, ◌∙◌, ap, subst, arith}
use Rattle.std.proofs.lemmas.List.{length-map, get_or-map, get_or_default}
use Rattle.sp_defs.specs.Partition.{partitions}
use Rattle.sp_defs.specs.Laurent.{Laurent}
use Rattle.sp_defs.specs.Power.{FockVector}
use Rattle.sp_lists.proofs.Places.{all_at}
use Rattle.sp_slots.specs.Indexed.{AreIndices, IsIndexed}

-- The entry number k of a vector of degree n, and the place of its partition.
pub record IsEntry (n : ℕ) (w : FockVector) (k index : ℕ) (t : List ℕ × Laurent) : Type 0 where
  pub lt : k < length w.entries
  pub within : index < length (partitions n)
  pub is : t ≡ get_or w.entries k t
  pub at : t.0 ≡ get_or (partitions n) index []

-- as many places as entries
pub indices_count : (w : FockVector) (indices : List ℕ) → AreIndices w indices → length indices ≡ length w.entries
indices_count w indices h =
    sym (length-map indices (λ i. get_or (partitions w.degree) i []))
    ∙ ap length h.at
    ∙ length-map w.entries (λ t. t.0)

-- The entry at a place.
abbrev pub entry : FockVector → ℕ → List ℕ × Laurent
entry w k = get_or w.entries k ([], [])

-- it, and the slot that it changes
pub entry_at : (n : ℕ) (w : FockVector) (indices : List ℕ) (k index : ℕ) → AreIndices w indices → n ≡ w.degree →
    k < length w.entries → index ≡ get_or indices k 0 → IsEntry n w k index (entry w k)
entry_at n w indices k index h degree lt place = record {
  lt = lt;
  within = subst (λ m. index < length (partitions m)) (sym degree)
      (subst (λ i. i < length (partitions w.degree)) (sym place)
      (all_at (λ i. i < length (partitions w.degree)) indices k 0 h.within in_indices));
  is = here;
  at =
      ap (λ (u : List ℕ × Laurent). u.0) here
      ∙ sym (get_or-map (λ (u : List ℕ × Laurent). u.0) w.entries k (entry w k) (entry w k).0 lt)
      ∙ ap (λ xs. get_or xs k (entry w k).0) (sym h.at)
      ∙ get_or-map (λ i. get_or (partitions w.degree) i []) indices k 0 (entry w k).0 in_indices
      ∙ ap (λ i. get_or (partitions w.degree) i []) (sym place)
      ∙ ap (λ m. get_or (partitions m) index []) (sym degree);
}
  where
    in_indices : k < length indices
    in_indices = omega (arith, indices_count w indices h, lt)

    here : entry w k ≡ get_or w.entries k (entry w k)
    here = get_or_default w.entries k ([], []) (entry w k) lt

-- The polynomials of a vector, read at a place.
pub polynomial_at : (w : FockVector) (indices : List ℕ) (polynomials : List Laurent) (k : ℕ) →
    IsIndexed w indices polynomials → k < length w.entries → get_or polynomials k [] ≡ (entry w k).1
polynomial_at w indices polynomials k h lt =
    ap (λ ps. get_or ps k []) h.values
    ∙ get_or-map (λ (u : List ℕ × Laurent). u.1) w.entries k ([], []) [] lt

-- as many as entries
pub polynomials_count : (w : FockVector) (indices : List ℕ) (polynomials : List Laurent) →
    IsIndexed w indices polynomials → length polynomials ≡ length w.entries
polynomials_count w indices polynomials h =
    ap length h.values
    ∙ length-map w.entries (λ (u : List ℕ × Laurent). u.1)
