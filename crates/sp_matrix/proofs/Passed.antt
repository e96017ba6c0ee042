-- Rows that are walked from their ends: what stands at a line, and what stays true for the lines after it.
use Rattle.std.proofs.Common.{◌≡◌, ◌≢◌, ℕ, zero, suc, ◌+◌, ◌-◌, ◌<◌, List, [], ◌∷◌, map, length}
use Rattle.std.proofs.Common.{get_or, set, sym, ◌∙◌, ap, subst, arith, Equal, Greater}
use Rattle.std.proofs.Common.{inl, inr, Bor}
use Rattle.std.specs.Ordering.{ordering_reverse}
use Rattle.std.proofs.lemmas.Bool.{cases_lt}
use Rattle.std.proofs.lemmas.Cmp.{tied_itself}
use Rattle.std.proofs.lemmas.List.{get_or_default, get_or-map, length-map}
use Rattle.std.proofs.lemmas.Slice.Zip.{AllZip-long}
use Rattle.rayon.proofs.ListFacts.{AllZip-weaken}
use Rattle.sp_defs.specs.Partition.{compare, order, IsPartitionOf}
use Rattle.sp_defs.specs.Laurent.{Laurent}
use Rattle.sp_defs.specs.Power.{FockVector, vector_of}
use Rattle.sp_lists.proofs.Places.{all_at}
use Rattle.sp_lists.proofs.Zips.{zip_at, zip_map, zip_set}
use Rattle.sp_shapes.proofs.Order.{differ, later_than}
use Rattle.sp_partition.specs.OrderLaws.{order_total, order_one_degree}
use Rattle.sp_fock.specs.Held.{IsHeld}
use Rattle.sp_fock_law.specs.Grid.{IsHeading}
use Rattle.sp_fock_law.proofs.Places.{places_ascend, vector_of-at, vector_of-absent}
use Rattle.sp_module_defs.proofs.Places.{Descends, descends}
use Rattle.sp_matrix.specs.Cursors.{ArePassed, Descend, IsAt, IsPassed}
use Rattle.sp_matrix.specs.Walk.{vectors_of}

-- ---- the order of partitions

greater_differs : (x y : List ℕ) → order x y ≡ Greater → x ≢ y
greater_differs x y g same =
    let k : Greater ≡ Equal = sym g ∙ ap (λ z. order z y) same ∙ tied_itself order_total y in
    cc

-- What is greater than a partition is greater than each that is less.
greater_still : (x y z : List ℕ) → order x y ≡ Greater → order y z ≡ Greater → order x z ≡ Greater
greater_still x y z g h =
    order_total.antisymm x z
    ∙ ap ordering_reverse (order_total.trans z y x (order_total.antisymm z y ∙ ap ordering_reverse h)
    (order_total.antisymm y x ∙ ap ordering_reverse g))

-- ---- along a row

-- At its end nothing of a row is passed.
pub passed_none : (lambda : List ℕ) (v : FockVector) → IsPassed lambda v (length v.entries)
passed_none lambda v = record { within = omega arith; greater = λ i d le lt. absurd (omega arith) }

-- What is passed at a line is passed at each lesser one.
pub passed_next : (lambda mu : List ℕ) → order lambda mu ≡ Greater → (v : FockVector) (end : ℕ) →
    IsPassed lambda v end → IsPassed mu v end
passed_next lambda mu g v end h = record {
  within = h.within;
  greater = λ i d le lt. greater_still (get_or v.entries i d).0 lambda mu (h.greater i d le lt) g;
}

-- One more pair is passed whose partition is greater.
pub passed_more : (lambda : List ℕ) (v : FockVector) (end : ℕ) (e : List ℕ × Laurent) → IsPassed lambda v end →
    0 < end → order (get_or v.entries (end - 1) e).0 lambda ≡ Greater → IsPassed lambda v (end - 1)
passed_more lambda v end e h some g = record {
  within = omega (arith, h.within);
  greater = λ i d le lt. elim (cases_lt i end) [
    | inl before ↦ subst (λ k. order (get_or v.entries k d).0 lambda ≡ Greater) {x = end - 1} (omega arith)
        (subst (λ (t : List ℕ × Laurent). order t.0 lambda ≡ Greater)
        (get_or_default v.entries (end - 1) e d (omega (arith, some, h.within))) g)
    | inr behind ↦ h.greater i d behind lt
  ];
}

module _ (v : FockVector) (held : IsHeld v) (lambda : List ℕ) (end : ℕ) (at : IsAt lambda v end)
    (d : List ℕ × Laurent) where
  -- At the partition of the last pair that isn't passed the row has its polynomial.
  pub value_here : 0 < end → (get_or v.entries (end - 1) d).0 ≡ lambda →
      vector_of v.entries lambda ≡ (get_or v.entries (end - 1) d).1
  value_here some is =
      ap (vector_of v.entries) (sym is)
      ∙ vector_of-at v.entries held.vector.ascending (end - 1) d (omega (arith, some, at.passed.within))

  later : (i : ℕ) → i < end - 1 → order (get_or v.entries (end - 1) d).0 (get_or v.entries i d).0 ≡ Greater
  later i lt =
      let last : end - 1 < length v.entries = omega (arith, lt, at.passed.within) in
      let first : i < length v.entries = omega (arith, lt, last) in
      order_one_degree (get_or v.entries (end - 1) d).0 (get_or v.entries i d).0
      ((all_at _ v.entries (end - 1) d held.vector.partitions_of last).total
      ∙ sym (all_at _ v.entries i d held.vector.partitions_of first).total)
      ∙ later_than (get_or v.entries i d).0 (get_or v.entries (end - 1) d).0
      (places_ascend v.entries held.vector.ascending i (end - 1) d lt last)

  -- At other partitions it has 0.
  pub value_absent : (0 < end → (get_or v.entries (end - 1) d).0 ≢ lambda) → vector_of v.entries lambda ≡ []
  value_absent other = vector_of-absent v.entries lambda d (λ i lt. differ (get_or v.entries i d).0 lambda
      (elim (cases_lt i end) [
        | inl before ↦ elim (cases_lt i (end - 1)) [
          | inl less ↦ λ same. at.last d (omega (arith, before))
              (subst (λ x. order (get_or v.entries (end - 1) d).0 x ≡ Greater) same (later i less))
          | inr last ↦ subst (λ k. (get_or v.entries k d).0 ≢ lambda) {x = end - 1} (omega (arith, before, last))
              (other (omega (arith, before)))
        ]
        | inr behind ↦ greater_differs (get_or v.entries i d).0 lambda (at.passed.greater i d behind lt)
      ]))

-- ---- along a line

module _ (lambda : List ℕ) (rows : List (Bor FockVector)) (ends : List ℕ)
    (h : ArePassed lambda (vectors_of rows) ends) where
  -- Each row has its end.
  pub ends_long : length ends ≡ length rows
  ends_long =
      AllZip-long (IsPassed lambda) (vectors_of rows) ends h ∙ length-map rows (λ (r : Bor FockVector). r.now)

  module _ (i : ℕ) (r : Bor FockVector) (lt : i < length rows) (at : r ≡ get_or rows i r) where
    row_at : get_or (vectors_of rows) i r.now ≡ r.now
    row_at =
        get_or-map (λ (b : Bor FockVector). b.now) rows i r r.now lt ∙ ap (λ (b : Bor FockVector). b.now) (sym at)

    -- The end of a row.
    pub passed_at : IsPassed lambda r.now (get_or ends i 0)
    passed_at =
        subst (λ v. IsPassed lambda v (get_or ends i 0)) row_at
        (zip_at (IsPassed lambda) (vectors_of rows) ends i r.now 0 h
        (subst (λ n. i < n) (sym (length-map rows (λ (b : Bor FockVector). b.now))) lt))

    -- A row gets another end.
    pub passed_set : (end : ℕ) → IsPassed lambda r.now end → ArePassed lambda (vectors_of rows) (set ends i end)
    passed_set end p =
        zip_set (IsPassed lambda) (vectors_of rows) ends i r.now end h
        (subst (λ v. IsPassed lambda v end) (sym row_at) p)

-- ---- along the lines

-- At the first line nothing is passed.
pub all_passed_none : (lambda : List ℕ) (rows : List FockVector) →
    ArePassed lambda rows (map (λ v. length v.entries) rows)
all_passed_none lambda rows =
    zip_map (IsPassed lambda) (λ (v : FockVector). length v.entries) rows (passed_none lambda)

-- What is passed at a line is passed at the next.
pub all_passed_next : (lambda mu : List ℕ) → order lambda mu ≡ Greater → (rows : List FockVector) (ends : List ℕ) →
    ArePassed lambda rows ends → ArePassed mu rows ends
all_passed_next lambda mu g rows ends h =
    AllZip-weaken (IsPassed lambda) (IsPassed mu) (passed_next lambda mu g) rows ends h

-- The lines of a heading descend.
pub lines_descend : (n : ℕ) (lines : List (List ℕ)) → IsHeading n lines → Descend lines
lines_descend n lines h i d lt =
    order_one_degree (get_or lines i d) (get_or lines (i + 1) d)
    ((all_at (IsPartitionOf n) lines i d h.partitions_of (omega (arith, lt))).total
    ∙ sym (all_at (IsPartitionOf n) lines (i + 1) d h.partitions_of lt).total)
    ∙ falls lines (descends lines h.descending) i d lt
  where
    falls : (xs : List (List ℕ)) → Descends xs → (i : ℕ) (d : List ℕ) → i + 1 < length xs →
        compare (get_or xs i d) (get_or xs (i + 1) d) ≡ Greater
    falls [] h i d lt = absurd (omega arith)
    falls (x ∷ xs) h zero d lt = all_at (λ mu. compare x mu ≡ Greater) xs zero d h.0 (omega (arith, lt))
    falls (x ∷ xs) h (suc i) d lt =
        subst (λ k. compare (get_or xs i d) (get_or (x ∷ xs) k d) ≡ Greater) {x = suc (i + 1)} (omega arith)
        (falls xs h.1 i d (omega (arith, lt)))
