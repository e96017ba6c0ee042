-- Slots that are made along the pairs of a vector, which stand in the order of the partitions.
use Rattle.std.proofs.Common.{◌≡◌, ◌≢◌, ℕ, ◌+◌, ◌<◌, ◌≤◌, List, [], ◌∷◌, ◌++◌, map, take, drop, length, get_or}
use Rattle.std.proofs.Common.{nat_eq, ◌⊎◌, inl, inr, true≢false}
use Rattle.std.proofs.Common.{zero, suc, ◌-◌, refl, sym, ◌∙◌, ap, ap₂, subst, arith, true, false, cond, Less, Equal}
use Rattle.std.specs.List.{AllByRecursion}
use Rattle.std.proofs.Math.Seq.{take-length}
use Rattle.std.proofs.lemmas.Bool.Decides.{eqb_tells}
use Rattle.std.proofs.lemmas.List.{drop_more, length-drop, map-append, take_more}
use Rattle.sp_defs.specs.Partition.{compare, partitions, Ascending, IsEarlier}
use Rattle.sp_defs.specs.Laurent.{Laurent}
use Rattle.sp_defs.specs.Power.{Entries, Vector, FockVector, vector_of, IsVector}
use Rattle.sp_lists.proofs.Comparing.{test_same}
use Rattle.sp_lists.proofs.Places.{all_weaken}
use Rattle.sp_shapes.proofs.Order.{equal_self}
use Rattle.sp_shapes.proofs.Listing.{partitions_ascend}
use Rattle.sp_fock_law.specs.Joined.{is_nonzero}
use Rattle.sp_fock_law.proofs.Vectors.{all_at, entries_at, entries-vector_of, nonzero_or_nil}
use Rattle.sp_ranks.specs.Ranks.{partition_at}
use Rattle.sp_ranks.proofs.RankRuns.{same_rank}
use Rattle.sp_slots.specs.declared.slot.Slot.{Slot}
use Rattle.sp_slots.specs.Slot.{nothing, sized}

-- ---- the pairs at the partitions to come

-- A list without its first elements ascends, too.
ascending_drop : (xs : List (List ℕ)) (k : ℕ) → Ascending xs → Ascending (drop k xs)
ascending_drop [] zero h = tt
ascending_drop [] (suc k) h = tt
ascending_drop (x ∷ xs) zero h = h
ascending_drop (x ∷ xs) (suc k) (h, hs) = ascending_drop xs k hs

module _ (w : Vector) (p : List ℕ) (ps : List (List ℕ)) (later : AllByRecursion (IsEarlier p) ps) where
  -- no pair at later partitions stands at p
  stands_later : (t : List ℕ × Laurent) (ts : Entries) → entries_at ps w ≡ t ∷ ts → t.0 ≢ p
  stands_later t ts is same =
      let all = all_at (λ t. compare p t.0 ≡ Less) ps w
      (all_weaken (IsEarlier p) (λ x. (w x ≢ []) → compare p x ≡ Less) ps (λ x less _. less) later) in
      let less = (subst (AllByRecursion (λ t. compare p t.0 ≡ Less)) is all).0 in
      let k : Less ≡ Equal = sym less ∙ ap (compare p) same ∙ equal_self p in
      cc

  -- Where the first pair stands at p, the vector has its polynomial there, and the other pairs are those at the later
  -- partitions.
  first_here : (t : List ℕ × Laurent) (ts : Entries) → t ∷ ts ≡ entries_at (p ∷ ps) w → t.0 ≡ p →
      (t.1 ≡ w p) × (ts ≡ entries_at ps w)
  first_here t ts is same =
      elim (is_nonzero (w p)) as
      (λ b. t ∷ ts ≡ cond b ((p, w p) ∷ entries_at ps w) (entries_at ps w) → (t.1 ≡ w p) × (ts ≡ entries_at ps w)) [
        | true ↦ λ e. (ap (λ es. (get_or es 0 t).1) e, ap (drop 1) e)
        | false ↦ λ e. absurd (stands_later t ts (sym e) same)
      ] is

  -- Where no first pair stands at p, the vector is 0 there, and all pairs are those at the later partitions.
  none_here : (es : Entries) → es ≡ entries_at (p ∷ ps) w → ((t : List ℕ × Laurent) (ts : Entries) → es ≡ t ∷ ts →
      t.0 ≢ p) → (w p ≡ []) × (es ≡ entries_at ps w)
  none_here es is other =
      elim (is_nonzero (w p)) as
      (λ b. is_nonzero (w p) ≡ b → es ≡ cond b ((p, w p) ∷ entries_at ps w) (entries_at ps w) →
      (w p ≡ []) × (es ≡ entries_at ps w)) [
        | true ↦ λ _ e. absurd (other (p, w p) (entries_at ps w) e refl)
        | false ↦ λ zero e. (nonzero_or_nil (w p) zero, e)
      ] refl is

-- ---- the slots

-- The slots of the first k partitions are made, and the pairs from `place` on stand at the others.
pub record IsOpened (v : FockVector) (all : List (List ℕ)) (k place : ℕ) (slots : List Slot) : Type 0 where
  pub slots_are : slots ≡ map (λ p. sized (vector_of v.entries p)) (take k all)
  pub within : place ≤ length v.entries
  pub left : drop place v.entries ≡ entries_at (drop k all) (vector_of v.entries)

-- It is so before the first,
pub opened_first : (v : FockVector) → IsVector v.degree v.entries → (all : List (List ℕ)) → all ≡ partitions v.degree →
    IsOpened v all 0 0 []
opened_first v h all is = record {
  slots_are = refl;
  within = omega arith;
  left = sym (entries-vector_of v.degree v.entries h)
      ∙ ap (λ xs. entries_at xs (vector_of v.entries)) (sym is);
}

module _ (v : FockVector) (all : List (List ℕ)) (is : all ≡ partitions v.degree) (k place : ℕ) (slots : List Slot)
    (h : IsOpened v all k place slots) (p : List ℕ) (lt : k < length all) (at : p ≡ get_or all k p) where
  ahead : drop k all ≡ p ∷ drop (k + 1) all
  ahead = drop_more all k p lt ∙ ap (λ q. q ∷ drop (k + 1) all) (sym at)

  later : AllByRecursion (IsEarlier p) (drop (k + 1) all)
  later = (subst Ascending ahead (ascending_drop all k (subst Ascending (sym is) (partitions_ascend v.degree)))).0

  left_here : drop place v.entries ≡ entries_at (p ∷ drop (k + 1) all) (vector_of v.entries)
  left_here = h.left ∙ ap (λ xs. entries_at xs (vector_of v.entries)) ahead

  more : (slot : Slot) → slot ≡ sized (vector_of v.entries p) →
      slots ++ slot ∷ [] ≡ map (λ p. sized (vector_of v.entries p)) (take (k + 1) all)
  more slot s =
      ap₂ (λ xs x. xs ++ x ∷ []) h.slots_are s
      ∙ sym (map-append (λ p. sized (vector_of v.entries p)) (take k all) (p ∷ []))
      ∙ ap (map (λ p. sized (vector_of v.entries p)))
      (ap (λ q. take k all ++ q ∷ []) at ∙ sym (take_more all k p lt))

  -- and with the next pair at the next partition,
  pub opened_here : (t : List ℕ × Laurent) → place < length v.entries → t ≡ get_or v.entries place t → t.0 ≡ p →
      IsOpened v all (k + 1) (place + 1) (slots ++ sized t.1 ∷ [])
  opened_here t few taken same =
      let first : drop place v.entries ≡ t ∷ drop (place + 1) v.entries =
      drop_more v.entries place t few ∙ ap (λ u. u ∷ drop (place + 1) v.entries) (sym taken) in
      let here = first_here (vector_of v.entries) p (drop (k + 1) all) later t (drop (place + 1) v.entries)
      (sym first ∙ left_here) same in
      record { slots_are = more (sized t.1) (ap sized here.0); within = omega (arith, few); left = here.1 }

  -- or without one.
  pub opened_none : (d : List ℕ × Laurent) → (place < length v.entries → (get_or v.entries place d).0 ≢ p) →
      IsOpened v all (k + 1) place (slots ++ nothing ∷ [])
  opened_none d other =
      let none = none_here (vector_of v.entries) p (drop (k + 1) all) later (drop place v.entries) left_here
      (λ t ts first. subst (λ (u : List ℕ × Laurent). u.0 ≢ p) (sym (taken t ts first)) (other (some t ts first))) in
      record { slots_are = more nothing (ap sized (sym none.0)); within = h.within; left = none.1 }
    where
      some : (t : List ℕ × Laurent) (ts : Entries) → drop place v.entries ≡ t ∷ ts → place < length v.entries
      some t ts first =
          let k : length v.entries - place ≡ suc (length ts) = sym (length-drop place v.entries) ∙ ap length first in
          omega (arith, k)

      taken : (t : List ℕ × Laurent) (ts : Entries) → drop place v.entries ≡ t ∷ ts → t ≡ get_or v.entries place d
      taken t ts first = ap (λ es. get_or es 0 t) (sym first ∙ drop_more v.entries place d (some t ts first))

-- the slots of a vector at some partitions
abbrev pub slots_of : FockVector → List (List ℕ) → List Slot
slots_of v ps = map (λ p. sized (vector_of v.entries p)) ps

-- Once the list is at its end, all slots are made.
pub all_slots : (v : FockVector) (all : List (List ℕ)) (k : ℕ) (slots : List Slot) → all ≡ partitions v.degree →
    slots ≡ slots_of v (take k all) → k ≡ length all → slots ≡ slots_of v (partitions v.degree)
all_slots v all k slots same h end =
    h ∙ ap (λ i. slots_of v (take i all)) end ∙ ap (slots_of v) (take-length all ∙ same)

-- ---- ranks

-- Partitions of other ranks are others.
pub other_rank : (n a b : ℕ) → a < length (partitions n) → b < length (partitions n) → a ≢ b →
    partition_at n a ≢ partition_at n b
other_rank n a b a_there b_there ne same = settle (eqb_tells a b)
  where
    test : nat_eq a b ≡ true
    test = sym (same_rank n a b a_there b_there) ∙ test_same (partition_at n a) (partition_at n b) same

    settle : ((nat_eq a b ≡ true) × (a ≡ b)) ⊎ ((nat_eq a b ≡ false) × (a ≢ b)) → ⊥
    settle (inl (_, is)) = ne is
    settle (inr (fails, _)) = true≢false (sym test ∙ fails)
