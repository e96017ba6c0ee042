-- The entries of a tally, collected place by place.
use Rattle.std.proofs.Common.{◌≡◌, ◌≢◌, ℕ, ◌+◌, ◌<◌, true, cond, List, [], ◌∷◌, ◌++◌, map, filter, take}
use Rattle.std.proofs.Common.{length, get_or, nat_lt, refl, sym, ◌∙◌, ap, ap₂, subst, arith, lt-ltb}
use Rattle.std.proofs.lemmas.List.{take_more, map-append, append-nil, get_or_default}
use Rattle.std.specs.List.{AllByRecursion}
use Rattle.sp_defs.specs.Partition.{partitions}
use Rattle.sp_defs.specs.Laurent.{Laurent, IsLaurent, collect}
use Rattle.sp_defs.specs.Power.{Vector, Entries, FockVector, IsVector, entries}
use Rattle.sp_lists.proofs.Elements.{filter_append, all_append}
use Rattle.sp_shapes.proofs.Listing.{partitions_ascend}
use Rattle.sp_partition.specs.Held.{IsHeld as IsHeldPartition}
use Rattle.sp_laurent.specs.Held.{IsHeld as IsHeldPolynomial}
use Rattle.sp_fock.specs.Held.{IsHeld, ArePairs, held_as}
use Rattle.sp_fock_law.proofs.Vectors.{IsVector-entries}
use Rattle.sp_slots.specs.declared.slot.Slot.{Slot}
use Rattle.sp_slots.specs.Slot.{nothing, IsSlot}
use Rattle.sp_slots.specs.Slots.{coefficient_in, AreSlots}
use Rattle.sp_slots.specs.Indexed.{IsIndexed}
use Rattle.sp_slots.proofs.Reading.{slot_of-all, slot_of-at}

-- The entries of a vector at some partitions.
abbrev pub entries_at : Vector → List (List ℕ) → Entries
entries_at w ps = filter (λ t. nat_lt 0 (length t.1)) (map (λ p. (p, w p)) ps)

-- What has been collected from the first k places.
pub record IsCollected (n : ℕ) (w : Vector) (k : ℕ) (pairs : Entries) (indices : List ℕ) : Type 0 where
  pub collected : pairs ≡ entries_at w (take k (partitions n))
  pub held : ArePairs pairs
  pub within : AllByRecursion (λ i. i < length (partitions n)) indices
  pub at : map (λ i. get_or (partitions n) i []) indices ≡ map (λ t. t.0) pairs

-- nothing is collected at the start
pub collected_none : (n : ℕ) (w : Vector) → IsCollected n w 0 [] []
collected_none n w = record { collected = refl; held = tt; within = tt; at = refl }

module _ (n : ℕ) (w : Vector) (k : ℕ) (pairs : Entries) (indices : List ℕ) (h : IsCollected n w k pairs indices)
    (lt : k < length (partitions n)) where
  abbrev p : List ℕ
  p = get_or (partitions n) k []

  one_more : entries_at w (take (k + 1) (partitions n))
      ≡ entries_at w (take k (partitions n)) ++ cond (nat_lt 0 (length (w p))) ((p, w p) ∷ []) []
  one_more =
      ap (entries_at w) (take_more (partitions n) k [] lt)
      ∙ ap (filter (λ t. nat_lt 0 (length t.1))) (map-append (λ q. (q, w q)) (take k (partitions n)) (p ∷ []))
      ∙ filter_append (λ t. nat_lt 0 (length t.1)) (map (λ q. (q, w q)) (take k (partitions n))) ((p, w p) ∷ [])

  -- where the polynomial isn't 0
  pub collected_more : (q : List ℕ) (c : Laurent) → q ≡ p → c ≡ w p → c ≢ [] → IsHeldPartition q → IsHeldPolynomial c →
      IsCollected n w (k + 1) (pairs ++ ((q, c) ∷ [])) (indices ++ (k ∷ []))
  collected_more q c is value some hq hc = record {
    collected =
        ap₂ (λ xs t. xs ++ (t ∷ [])) h.collected (ap₂ (λ x y. (x, y)) is value)
        ∙ sym (one_more ∙ ap (λ b. entries_at w (take k (partitions n)) ++ cond b ((p, w p) ∷ []) [])
        (positive (w p) (λ e. some (value ∙ e))));
    held = all_append (λ t. IsHeldPartition t.0 × IsHeldPolynomial t.1) pairs ((q, c) ∷ []) h.held ((hq, hc), tt);
    within = all_append (λ i. i < length (partitions n)) indices (k ∷ []) h.within (lt, tt);
    at =
        map-append (λ i. get_or (partitions n) i []) indices (k ∷ [])
        ∙ ap₂ (λ xs x. xs ++ (x ∷ [])) h.at (sym is)
        ∙ sym (map-append (λ t. t.0) pairs ((q, c) ∷ []));
  }
    where
      positive : (x : Laurent) → x ≢ [] → nat_lt 0 (length x) ≡ true
      positive [] ne = absurd (ne refl)
      positive (t ∷ ts) ne = lt-ltb 0 (length (t ∷ ts)) (omega arith)

  -- where it is 0
  pub collected_same : w p ≡ [] → IsCollected n w (k + 1) pairs indices
  collected_same none = record {
    collected =
        h.collected
        ∙ sym (one_more ∙ ap (λ c. entries_at w (take k (partitions n)) ++ cond (nat_lt 0 (length c)) ((p, c) ∷ []) [])
        none ∙ append-nil (entries_at w (take k (partitions n))));
    held = h.held;
    within = h.within;
    at = h.at;
  }

-- the polynomial of the slot at a place
pub coefficient_at : (n : ℕ) (slots : List Slot) → AreSlots n slots → (k : ℕ) (s : Slot) → k < length slots →
    s ≡ get_or slots k s → s.coefficient ≡ coefficient_in n slots (get_or (partitions n) k [])
coefficient_at n slots start k s lt is =
    ap (λ (t : Slot). t.coefficient)
    (is
    ∙ get_or_default slots k s nothing lt
    ∙ sym (slot_of-at (partitions n) slots (partitions_ascend n) start.count k (omega (arith, lt, start.count))))

-- the polynomials, with one more
pub polynomials_more : (pairs : Entries) (polynomials : List Laurent) (q : List ℕ) (c d : Laurent) →
    polynomials ≡ map (λ t. t.1) pairs → d ≡ c → polynomials ++ (d ∷ []) ≡ map (λ t. t.1) (pairs ++ ((q, c) ∷ []))
polynomials_more pairs polynomials q c d same is =
    ap₂ (λ ps p. ps ++ (p ∷ [])) same is
    ∙ sym (map-append (λ (t : List ℕ × Laurent). t.1) pairs ((q, c) ∷ []))

-- ---- at the end

IsLaurent-nought : IsLaurent []
unfolding collect
IsLaurent-nought = refl

module _ (n : ℕ) (slots : List Slot) (start : AreSlots n slots) (pairs : Entries) (indices : List ℕ)
    (h : IsCollected n (coefficient_in n slots) (length (partitions n)) pairs indices)
    (all : take (length (partitions n)) (partitions n) ≡ partitions n) where
  -- the pairs are the entries of the slots
  pub all_pairs : pairs ≡ entries n (coefficient_in n slots)
  all_pairs = h.collected ∙ ap (entries_at (coefficient_in n slots)) all

  -- they may be held as a vector
  pub held_pairs : IsHeld (held_as n pairs)
  held_pairs = record {
    vector = subst (IsVector n) (sym all_pairs)
        (IsVector-entries n (coefficient_in n slots)
        (λ lambda. slot_of-all (λ s. IsLaurent s.coefficient) IsLaurent-nought (partitions n) slots laurents lambda));
    pairs = h.held;
  }
    where
      laurents : AllByRecursion (λ s. IsLaurent s.coefficient) slots
      laurents = weaken slots start.each
        where
          weaken : (ss : List Slot) → AllByRecursion IsSlot ss → AllByRecursion (λ s. IsLaurent s.coefficient) ss
          weaken [] k = tt
          weaken (s ∷ ss) (k, ks) = (k.laurent, weaken ss ks)

  -- and the indices are the places of their partitions
  pub are_indexed : (v : FockVector) (polynomials : List Laurent) → v ≡ held_as n pairs →
      polynomials ≡ map (λ t. t.1) pairs → IsIndexed v indices polynomials
  are_indexed v polynomials is same = subst (λ u. IsIndexed u indices polynomials) (sym is) (record {
    places = record { within = h.within; at = h.at };
    values = same;
  })
