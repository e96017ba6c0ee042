-- Slots read at partitions and at places.
use Rattle.std.proofs.Common.{◌≡◌, ℕ, zero, suc, ◌<◌, cond, List, [], ◌∷◌, map, filter, length, get_or, nat_lt}
use Rattle.std.proofs.Common.{refl, sym, ◌∙◌, ap, ap₂, subst, arith, Less, Equal, Greater, is_eq, inl, inr, true, false}
use Rattle.std.proofs.lemmas.List.{length-map}
use Rattle.std.specs.List.{AllByRecursion}
use Rattle.sp_defs.specs.Partition.{compare, partitions, Ascending, IsPartitionOf, IsEarlier}
use Rattle.sp_defs.specs.Laurent.{Laurent, size}
use Rattle.sp_defs.specs.Power.{Vector, FockVector, entries, vector_of, IsVector}
use Rattle.sp_lists.proofs.Elements.{all_every, all_map}
use Rattle.sp_lists.proofs.Maps.{map-alike}
use Rattle.sp_lists.proofs.Occurrence.{Occurs, at_occurs}
use Rattle.sp_lists.proofs.Places.{all_at, all_places}
use Rattle.sp_shapes.proofs.Order.{equal_self, same_lists, all_mono}
use Rattle.sp_shapes.proofs.Listing.{all_partitions, each_partition, partitions_ascend}
use Rattle.sp_fock_law.specs.Tally.{TallyValue, totals, tally_of}
use Rattle.sp_fock_law.proofs.Vectors.{entries-alike, entries-vector_of, vector_of-entries, IsLaurent-vector_of}
use Rattle.sp_slots.specs.declared.slot.Slot.{Slot}
use Rattle.sp_slots.specs.Slot.{nothing, sized, slot_with, IsSlot}
use Rattle.sp_slots.specs.Slots.{slot_of, coefficient_in, total_in, tally_in, AreSlots}

-- ---- one slot

-- where the partitions ascend, the slot of the partition at a place is the slot at that place
pub slot_of-at : (ps : List (List ℕ)) (slots : List Slot) → Ascending ps → length slots ≡ length ps → (i : ℕ) →
    i < length ps → slot_of ps slots (get_or ps i []) ≡ get_or slots i nothing
unfolding slot_of
slot_of-at [] slots h len i lt = absurd (omega arith)
slot_of-at (p ∷ ps) [] h len i lt = absurd (omega arith)
slot_of-at (p ∷ ps) (s ∷ ss) h len zero lt = ap (λ o. cond (is_eq o) s (slot_of ps ss p)) (equal_self p)
slot_of-at (p ∷ ps) (s ∷ ss) (h, hs) len (suc i) lt =
    ap (λ o. cond (is_eq o) s (slot_of ps ss (get_or ps i []))) (all_at (IsEarlier p) ps i [] h (omega arith))
    ∙ slot_of-at ps ss hs (omega arith) i (omega arith)

-- where the slots are the images of the partitions, so is the slot of each
pub slot_of-map : (f : List ℕ → Slot) (ps : List (List ℕ)) (lambda : List ℕ) → Occurs lambda ps →
    slot_of ps (map f ps) lambda ≡ f lambda
unfolding slot_of
slot_of-map f [] lambda o = absurd o
slot_of-map f (p ∷ ps) lambda (inl e) =
    subst (λ mu. slot_of (p ∷ ps) (map f (p ∷ ps)) mu ≡ f mu) (sym e)
    (ap (λ o. cond (is_eq o) (f p) (slot_of ps (map f ps) p)) (equal_self p))
slot_of-map f (p ∷ ps) lambda (inr later) =
    elim (compare p lambda) as
    (λ o. compare p lambda ≡ o → cond (is_eq o) (f p) (slot_of ps (map f ps) lambda) ≡ f lambda) [
      | Less ↦ λ o. slot_of-map f ps lambda later
      | Equal ↦ λ o. ap f (same_lists p lambda o)
      | Greater ↦ λ o. slot_of-map f ps lambda later
    ] refl

-- what holds of each slot, and of that of 0, holds of the slot of each partition
pub slot_of-all : (P : Slot → Type 0) → P nothing → (ps : List (List ℕ)) (slots : List Slot) → AllByRecursion P slots →
    (lambda : List ℕ) → P (slot_of ps slots lambda)
unfolding slot_of
slot_of-all P none [] slots h lambda = none
slot_of-all P none (p ∷ ps) [] h lambda = none
slot_of-all P none (p ∷ ps) (s ∷ ss) (h, hs) lambda =
    elim (is_eq (compare p lambda)) as (λ b. P (cond b s (slot_of ps ss lambda))) [
      | true ↦ h
      | false ↦ slot_of-all P none ps ss hs lambda
    ]

-- what holds at each place of the list of all partitions holds at each partition
pub each_place : (n : ℕ) (P : List ℕ → Type 0) →
    ((i : ℕ) → i < length (partitions n) → P (get_or (partitions n) i [])) →
    (lambda : List ℕ) → IsPartitionOf n lambda → P lambda
each_place n P h lambda k =
    at_occurs P lambda (partitions n) (each_partition n lambda k.partition k.total) (all_places P (partitions n) [] h)

-- the partition at a place
pub partition_at : (n i : ℕ) → i < length (partitions n) → IsPartitionOf n (get_or (partitions n) i [])
partition_at n i lt = all_at (IsPartitionOf n) (partitions n) i [] (all_partitions n) lt

-- ---- the whole tally

-- numbers that are the same at all partitions of n have the same totals
pub totals-alike : (n : ℕ) (f g : List ℕ → ℕ) → ((lambda : List ℕ) → IsPartitionOf n lambda → f lambda ≡ g lambda) →
    totals n f ≡ totals n g
totals-alike n f g h =
    ap (filter (λ t. nat_lt 0 t.1))
    (map-alike (λ x. (x, f x)) (λ x. (x, g x)) (partitions n)
    (all_mono (IsPartitionOf n) (λ x. pair x (f x) ≡ pair x (g x)) (partitions n)
    (λ x k. ap (λ m. pair x m) (h x k)) (all_partitions n)))
  where
    pair : List ℕ → ℕ → List ℕ × ℕ
    pair x m = (x, m)

abbrev tally_value : ℕ → List (List ℕ × Laurent) → List (List ℕ × ℕ) → TallyValue
tally_value n es ts = record { vector = record { degree = n; entries = es }; totals = ts }

-- what the slots have at the partitions makes the tally
pub tally_from : (n : ℕ) (slots : List Slot) (v : Vector) (t : List ℕ → ℕ) →
    ((lambda : List ℕ) → IsPartitionOf n lambda →
    slot_of (partitions n) slots lambda ≡ slot_with (v lambda) (t lambda)) →
    tally_in n slots ≡ tally_value n (entries n v) (totals n t)
tally_from n slots v t h =
    ap₂ (λ es ts. tally_value n es ts)
    (entries-alike n (coefficient_in n slots) v (λ lambda k. ap (λ (s : Slot). s.coefficient) (h lambda k)))
    (totals-alike n (total_in n slots) t (λ lambda k. ap (λ (s : Slot). s.total) (h lambda k)))

-- slots with the sizes as totals
pub sized_tally : (v : FockVector) → IsVector v.degree v.entries →
    tally_in v.degree (map (λ p. sized (vector_of v.entries p)) (partitions v.degree)) ≡ tally_of v
sized_tally v h =
    tally_from v.degree (map (λ p. sized (vector_of v.entries p)) (partitions v.degree)) (vector_of v.entries)
    (λ lambda. size (vector_of v.entries lambda))
    (λ lambda k. slot_of-map (λ p. sized (vector_of v.entries p)) (partitions v.degree) lambda
    (each_partition v.degree lambda k.partition k.total))
    ∙ ap (λ es. tally_value v.degree es (totals v.degree (λ lambda. size (vector_of v.entries lambda))))
    (entries-vector_of v.degree v.entries h)

-- the coefficients of a vector with their sizes are slots
pub sized_slots : (v : FockVector) → IsVector v.degree v.entries →
    AreSlots v.degree (map (λ p. sized (vector_of v.entries p)) (partitions v.degree))
sized_slots v h = record {
  count = length-map (partitions v.degree) (λ p. sized (vector_of v.entries p));
  each = all_map IsSlot (λ p. sized (vector_of v.entries p)) (partitions v.degree)
      (all_every (λ p. IsSlot (sized (vector_of v.entries p))) (partitions v.degree)
      (λ p. record { laurent = IsLaurent-vector_of v.entries h.polynomials p; covered = omega arith }));
}

-- the polynomial of the tally at a place is that of the slot
pub read_at : (n : ℕ) (slots : List Slot) → AreSlots n slots → (i : ℕ) → i < length (partitions n) →
    vector_of (tally_in n slots).vector.entries (get_or (partitions n) i []) ≡ (get_or slots i nothing).coefficient
read_at n slots h i lt =
    vector_of-entries n (coefficient_in n slots) (get_or (partitions n) i []) (partition_at n i lt)
    ∙ ap (λ (s : Slot). s.coefficient) (slot_of-at (partitions n) slots (partitions_ascend n) h.count i lt)
