-- How slots grow where a multiple of a vector is subtracted, entry by entry.
use Rattle.std.proofs.Common.{◌≡◌, ◌≢◌, ℕ, zero, suc, ◌+◌, ◌*◌, ◌<◌, ◌≤◌, cond, List, [], ◌∷◌, ◌++◌, map, take, length}
use Rattle.std.proofs.Common.{◌⊎◌}
use Rattle.std.proofs.Common.{get_or, refl, sym, ◌∙◌, ap, ap₂, subst, arith, is_eq, inl, inr, false}
use Rattle.std.proofs.lemmas.List.{take_more, length-set, get_or-set_same, get_or-set_other}
use Rattle.std.proofs.Math.ListN.{set}
use Rattle.std.specs.List.{AllByRecursion}
use Rattle.sp_algebra.proofs.Canonical.{negate_is}
use Rattle.sp_algebra.proofs.Laws.{plus_nought, times_nought, IsLaurent-plus}
use Rattle.sp_algebra.proofs.Sizes.{size_plus, size_times, size-negated}
use Rattle.sp_defs.specs.Partition.{compare, partitions, Ascending, IsPartitionOf, IsEarlier}
use Rattle.sp_defs.specs.Laurent.{Laurent, IsLaurent, plus, times, negate, size}
use Rattle.sp_defs.specs.Power.{Entries, FockVector, vector_of}
use Rattle.sp_lists.proofs.Elements.{le_or_lt}
use Rattle.sp_lists.proofs.Greatest.{greatest_within, within_greatest, map_within, within_map}
use Rattle.sp_lists.proofs.Places.{all_at, all_places, all_set}
use Rattle.sp_shapes.proofs.Listing.{partitions_ascend}
use Rattle.sp_shapes.proofs.Order.{later_than}
use Rattle.sp_fock_law.specs.Addition.{plus_scaled}
use Rattle.sp_fock_law.specs.Tally.{subtracted, subtraction_weight, grown_total, total_of}
use Rattle.sp_fock_law.proofs.Totals.{total_of-totals}
use Rattle.sp_fock_law.proofs.Vectors.{IsAscending, vector_of-head, vector_of-other, vector_of-entries, later_tail}
use Rattle.sp_fock_law.proofs.Places.{vector_of-at}
use Rattle.sp_slots.specs.declared.slot.Slot.{Slot}
use Rattle.sp_slots.specs.Slot.{nothing, grown, slot_with, IsSlot}
use Rattle.sp_slots.specs.Slots.{slot_of, coefficient_in, total_in, tally_in, AreSlots}
use Rattle.sp_slots.proofs.Reading.{slot_of-at, each_place, partition_at, tally_from}

-- ---- one slot

-- a slot to which a product is added is one
pub IsSlot-grown : (a : Laurent) (s : Slot) (b : Laurent) → IsSlot s → IsSlot (grown a s b)
IsSlot-grown a s b h = record {
  laurent = IsLaurent-plus s.coefficient (times a b);
  covered = omega (arith, size_plus s.coefficient (times a b), size_times a b, h.covered);
}

-- 0 times anything changes nothing
grown-nought : (a : Laurent) (s : Slot) → IsSlot s → grown a s [] ≡ s
grown-nought a s h =
    ap₂ slot_with (ap (plus s.coefficient) (times_nought a) ∙ plus_nought s.coefficient h.laurent) same
  where
    same : s.total + size a * size [] ≡ s.total
    same = omega arith

-- ---- the first entries of a vector

-- with one more entry at another partition
vector_of-snoc_other : (xs : Entries) (t : List ℕ × Laurent) (lambda : List ℕ) →
    is_eq (compare t.0 lambda) ≡ false →
    vector_of (xs ++ (t ∷ [])) lambda ≡ vector_of xs lambda
unfolding vector_of
vector_of-snoc_other [] t lambda e = ap (λ b. cond b t.1 []) e
vector_of-snoc_other (x ∷ xs) t lambda e =
    ap (λ q. cond (is_eq (compare x.0 lambda)) x.1 q) (vector_of-snoc_other xs t lambda e)

-- with one more entry at a partition behind the others
vector_of-snoc : (xs : Entries) (t : List ℕ × Laurent) → AllByRecursion (λ x. IsEarlier x.0 t.0) xs →
    vector_of (xs ++ (t ∷ [])) t.0 ≡ t.1
vector_of-snoc [] t h = vector_of-head t.0 t.1 []
vector_of-snoc (x ∷ xs) t (h, hs) =
    vector_of-other x.0 t.0 x.1 (xs ++ (t ∷ [])) (ap is_eq h) ∙ vector_of-snoc xs t hs

-- nothing stands behind the others
vector_of-behind : (xs : Entries) (lambda : List ℕ) → AllByRecursion (λ x. IsEarlier x.0 lambda) xs →
    vector_of xs lambda ≡ []
unfolding vector_of
vector_of-behind [] lambda h = refl
vector_of-behind (x ∷ xs) lambda (h, hs) =
    vector_of-other x.0 lambda x.1 xs (ap is_eq h) ∙ vector_of-behind xs lambda hs

earlier_before : (es : Entries) → IsAscending es → (k : ℕ) (d : List ℕ × Laurent) → k < length es →
    AllByRecursion (λ x. IsEarlier x.0 (get_or es k d).0) (take k es)
earlier_before [] h k d lt = absurd (omega arith)
earlier_before (e ∷ es) h zero d lt = tt
earlier_before (e ∷ es) h (suc k) d lt = (
  all_at (λ t. IsEarlier e.0 t.0) es k d (later_tail e.0 e.1 es h) (omega arith),
  earlier_before es h.1 k d (omega arith),
)

-- ---- different places have different partitions

apart : (ps : List (List ℕ)) → Ascending ps → (i j : ℕ) → i ≢ j → i < length ps → j < length ps →
    is_eq (compare (get_or ps i []) (get_or ps j [])) ≡ false
apart [] h i j ne li lj = absurd (omega arith)
apart (p ∷ ps) h zero zero ne li lj = absurd (ne refl)
apart (p ∷ ps) h zero (suc j) ne li lj = ap is_eq (all_at (IsEarlier p) ps j [] h.0 (omega arith))
apart (p ∷ ps) h (suc i) zero ne li lj =
    ap is_eq (later_than p (get_or ps i []) (all_at (IsEarlier p) ps i [] h.0 (omega arith)))
apart (p ∷ ps) h (suc i) (suc j) ne li lj =
    apart ps h.1 i j (λ e. ne (ap suc e)) (omega arith) (omega arith)

-- ---- entry by entry

-- What the slots are once the first k entries have been multiplied by a and added.
pub record IsReached (n limit : ℕ) (a : Laurent) (es : Entries) (before slots : List Slot) (k : ℕ) : Type 0 where
  pub count : length slots ≡ length (partitions n)
  pub each : AllByRecursion IsSlot slots
  pub fits : AllByRecursion (λ s. s.total ≤ limit) slots
  pub grown_at : (i : ℕ) → i < length (partitions n) →
      get_or slots i nothing
      ≡ grown a (get_or before i nothing) (vector_of (take k es) (get_or (partitions n) i []))

module _ (n limit : ℕ) (a : Laurent) (es : Entries) (before : List Slot) (start : AreSlots n before)
    (ascending : IsAscending es) where
  -- before the first entry the slots are as they were
  pub reached_none : AllByRecursion (λ s. s.total ≤ limit) before → IsReached n limit a es before before 0
  unfolding vector_of
  reached_none fits = record {
    count = start.count;
    each = start.each;
    fits = fits;
    grown_at = λ i lt. sym (grown-nought a (get_or before i nothing)
        (all_at IsSlot before i nothing start.each (omega (arith, start.count))));
  }

  module _ (slots : List Slot) (k index : ℕ) (t : List ℕ × Laurent) (h : IsReached n limit a es before slots k)
      (lt : k < length es) (within : index < length (partitions n)) (is : t ≡ get_or es k t)
      (at : t.0 ≡ get_or (partitions n) index []) where
    all_earlier : AllByRecursion (λ x. IsEarlier x.0 t.0) (take k es)
    all_earlier = subst (λ (u : List ℕ × Laurent). AllByRecursion (λ x. IsEarlier x.0 u.0) (take k es)) (sym is)
        (earlier_before es ascending k t lt)

    taken : take (k + 1) es ≡ take k es ++ (t ∷ [])
    taken = take_more es k t lt ∙ ap (λ u. take k es ++ (u ∷ [])) (sym is)

    not_yet : vector_of (take k es) (get_or (partitions n) index []) ≡ []
    not_yet = ap (vector_of (take k es)) (sym at) ∙ vector_of-behind (take k es) t.0 all_earlier

    -- the entry's slot is as it was before
    pub untouched : get_or slots index nothing ≡ get_or before index nothing
    untouched =
        h.grown_at index within
        ∙ ap (grown a (get_or before index nothing)) not_yet
        ∙ grown-nought a (get_or before index nothing)
        (all_at IsSlot before index nothing start.each (omega (arith, start.count)))

    -- one entry more
    pub reached_more : (s : Slot) → s ≡ grown a (get_or slots index nothing) t.1 → s.total ≤ limit →
        IsReached n limit a es before (set slots index s) (k + 1)
    reached_more s made small = record {
      count = length-set slots index s ∙ h.count;
      each = all_set IsSlot slots index s
          (subst IsSlot (sym made) (IsSlot-grown a (get_or slots index nothing) t.1
          (all_at IsSlot slots index nothing h.each (omega (arith, h.count)))))
          h.each;
      fits = all_set (λ u. u.total ≤ limit) slots index s small h.fits;
      grown_at = λ i lo. elim (equal_or_not i index) [
        | inl e ↦ here i e
        | inr ne ↦ there i lo ne
      ];
    }
      where
        equal_or_not : (i j : ℕ) → (i ≡ j) ⊎ (i ≢ j)
        equal_or_not zero zero = inl refl
        equal_or_not zero (suc j) = inr (λ e. omega (arith, e))
        equal_or_not (suc i) zero = inr (λ e. omega (arith, e))
        equal_or_not (suc i) (suc j) = elim (equal_or_not i j) [
          | inl e ↦ inl (ap suc e)
          | inr ne ↦ inr (λ e. ne (omega (arith, e)))
        ]

        here : (i : ℕ) → i ≡ index →
            get_or (set slots index s) i nothing
            ≡ grown a (get_or before i nothing) (vector_of (take (k + 1) es) (get_or (partitions n) i []))
        here i e =
            subst (λ j. get_or (set slots index s) j nothing
            ≡ grown a (get_or before j nothing) (vector_of (take (k + 1) es) (get_or (partitions n) j []))) (sym e)
            (get_or-set_same slots index s nothing (omega (arith, h.count))
            ∙ made
            ∙ ap₂ (λ u q. grown a u q) untouched
            (sym (ap₂ vector_of taken (sym at) ∙ vector_of-snoc (take k es) t all_earlier)))

        there : (i : ℕ) → i < length (partitions n) → i ≢ index →
            get_or (set slots index s) i nothing
            ≡ grown a (get_or before i nothing) (vector_of (take (k + 1) es) (get_or (partitions n) i []))
        there i lo ne =
            get_or-set_other slots index i s nothing ne
            ∙ h.grown_at i lo
            ∙ ap (grown a (get_or before i nothing))
            (sym (ap (λ xs. vector_of xs (get_or (partitions n) i [])) taken
            ∙ vector_of-snoc_other (take k es) t (get_or (partitions n) i [])
            (ap (λ p. is_eq (compare p (get_or (partitions n) i []))) at
            ∙ apart (partitions n) (partitions_ascend n) index i (λ e. ne (sym e)) within lo)))

-- ---- the whole subtraction

-- a negated polynomial has the same size
pub size-negate : (a : Laurent) → IsLaurent a → size (negate a) ≡ size a
size-negate a h = ap size (negate_is a h) ∙ size-negated a

module _ (n limit : ℕ) (a : Laurent) (w : FockVector) (before : List Slot) (start : AreSlots n before)
    (laurent : IsLaurent a) where
  -- what a total grows to, read at a place
  grown_total-at : (i : ℕ) → i < length (partitions n) →
      grown_total (tally_in n before) a w (get_or (partitions n) i [])
      ≡ (grown (negate a) (get_or before i nothing) (vector_of w.entries (get_or (partitions n) i []))).total
  grown_total-at i lt =
      ap₂ (λ x y. x + y * size (vector_of w.entries (get_or (partitions n) i [])))
      (total_of-totals n (total_in n before) (get_or (partitions n) i []) (partition_at n i lt)
      ∙ ap (λ (s : Slot). s.total) (slot_of-at (partitions n) before (partitions_ascend n) start.count i lt))
      (sym (size-negate a laurent))

  module _ (slots : List Slot)
      (end : IsReached n limit (negate a) w.entries before slots (length w.entries))
      (all : take (length w.entries) w.entries ≡ w.entries) where
    grown_here : (i : ℕ) → i < length (partitions n) →
        get_or slots i nothing
        ≡ grown (negate a) (get_or before i nothing) (vector_of w.entries (get_or (partitions n) i []))
    grown_here i lt =
        end.grown_at i lt
        ∙ ap (λ es. grown (negate a) (get_or before i nothing) (vector_of es (get_or (partitions n) i []))) all

    -- the tally in the slots is the subtracted one
    pub subtracted_tally : tally_in n slots ≡ subtracted (tally_in n before) a w
    subtracted_tally =
        tally_from n slots
        (plus_scaled (vector_of (tally_in n before).vector.entries) (negate a) (vector_of w.entries))
        (grown_total (tally_in n before) a w)
        (each_place n
        (λ lambda. slot_of (partitions n) slots lambda
        ≡ slot_with
        (plus_scaled (vector_of (tally_in n before).vector.entries) (negate a) (vector_of w.entries) lambda)
        (grown_total (tally_in n before) a w lambda)) at_place)
      where
        at_place : (i : ℕ) → i < length (partitions n) →
            slot_of (partitions n) slots (get_or (partitions n) i [])
            ≡ slot_with
            (plus_scaled (vector_of (tally_in n before).vector.entries) (negate a) (vector_of w.entries)
            (get_or (partitions n) i []))
            (grown_total (tally_in n before) a w (get_or (partitions n) i []))
        at_place i lt =
            slot_of-at (partitions n) slots (partitions_ascend n) end.count i lt
            ∙ grown_here i lt
            ∙ ap₂ slot_with
            (ap (λ p. plus p (times (negate a) (vector_of w.entries (get_or (partitions n) i []))))
            (sym
            (vector_of-entries n (coefficient_in n before) (get_or (partitions n) i []) (partition_at n i lt)
            ∙ ap (λ (s : Slot). s.coefficient)
            (slot_of-at (partitions n) before (partitions_ascend n) start.count i lt))))
            (sym (grown_total-at i lt))

    -- and its weight is within the limit
    pub weight_fits : subtraction_weight (tally_in n before) a w ≤ limit
    weight_fits =
        greatest_within limit (map (grown_total (tally_in n before) a w) (partitions n))
        (map_within (grown_total (tally_in n before) a w) limit (partitions n)
        (all_places (λ lambda. grown_total (tally_in n before) a w lambda ≤ limit) (partitions n) []
        (λ i lt. subst (λ k. k ≤ limit)
        (ap (λ (s : Slot). s.total) (grown_here i lt) ∙ sym (grown_total-at i lt))
        (all_at (λ s. s.total ≤ limit) slots i nothing end.fits (omega (arith, end.count))))))

  -- a total past the limit makes the weight so
  pub weight_past : IsAscending w.entries → (slots : List Slot) (k index : ℕ) (t : List ℕ × Laurent) →
      IsReached n limit (negate a) w.entries before slots k → k < length w.entries → index < length (partitions n) →
      t ≡ get_or w.entries k t → t.0 ≡ get_or (partitions n) index [] →
      limit < (grown (negate a) (get_or slots index nothing) t.1).total →
      limit < subtraction_weight (tally_in n before) a w
  weight_past ascending slots k index t h lt within is at large =
      elim (le_or_lt (subtraction_weight (tally_in n before) a w) limit) [
        | inl le ↦ absurd (contradiction le)
        | inr past ↦ past
      ]
    where
      value : vector_of w.entries (get_or (partitions n) index []) ≡ t.1
      value =
          ap (vector_of w.entries) (sym at ∙ ap (λ (u : List ℕ × Laurent). u.0) is)
          ∙ vector_of-at w.entries ascending k t lt
          ∙ ap (λ (u : List ℕ × Laurent). u.1) (sym is)

      same : grown_total (tally_in n before) a w (get_or (partitions n) index [])
          ≡ (grown (negate a) (get_or slots index nothing) t.1).total
      same =
          grown_total-at index within
          ∙ ap₂ (λ s q. (grown (negate a) s q).total)
          (sym (untouched n limit (negate a) w.entries before start ascending slots k index t h lt within is at)) value

      contradiction : subtraction_weight (tally_in n before) a w ≤ limit → ⊥
      contradiction le =
          let small : grown_total (tally_in n before) a w (get_or (partitions n) index []) ≤ limit =
          all_at (λ lambda. grown_total (tally_in n before) a w lambda ≤ limit) (partitions n) index []
          (within_map (grown_total (tally_in n before) a w) limit (partitions n)
          (within_greatest limit (map (grown_total (tally_in n before) a w) (partitions n)) le)) within in
          omega (arith, small, same, large)

-- each total of a tally within a limit is so in its slot
pub totals_fit : (n limit : ℕ) (slots : List Slot) → AreSlots n slots →
    ((lambda : List ℕ) → IsPartitionOf n lambda → total_of (tally_in n slots).totals lambda ≤ limit) →
    AllByRecursion (λ s. s.total ≤ limit) slots
totals_fit n limit slots h small =
    all_places (λ s. s.total ≤ limit) slots nothing
    (λ i lt. let within : i < length (partitions n) = omega (arith, h.count) in
    subst (λ k. k ≤ limit)
    (total_of-totals n (total_in n slots) (get_or (partitions n) i []) (partition_at n i within)
    ∙ ap (λ (s : Slot). s.total) (slot_of-at (partitions n) slots (partitions_ascend n) h.count i within))
    (small (get_or (partitions n) i []) (partition_at n i within)))
