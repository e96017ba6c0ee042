-- Vectors and headings whose partitions were conjugated and sorted.
use Rattle.std.proofs.Common.{◌≡◌, ◌≢◌, ℕ, Bool, true, false, cond, List, [], ◌∷◌, map, filter, reverse, length}
use Rattle.std.proofs.Common.{refl, sym, ◌∙◌, ap, subst, arith, ◌⊎◌, inl, inr, lt-ltb}
use Rattle.std.proofs.lemmas.List.{reverse-reverse}
use Rattle.std.proofs.lemmas.List.Sorted.{IsPermutation-map, IsPermutation-reverse, IsPermutation-sym}
use Rattle.std.proofs.lemmas.List.Sorted.{IsPermutation-trans}
use mathlib.Core.List.{map-map}
use Rattle.std.specs.List.{AllByRecursion}
use Rattle.std.specs.List.Sorted.{IsPermutation, IsSortedByKey}
use Rattle.std.specs.Ordering.{is_eq}
use Rattle.sp_defs.specs.Laurent.{Laurent, IsLaurent}
use Rattle.sp_defs.specs.Partition.{IsPartitionOf, compare, conjugate, order, partitions}
use Rattle.sp_defs.specs.Power.{Entries, IsVector, Vector, entries, vector_of}
use Rattle.sp_fock.specs.Held.{ArePairs, IsHeld, held_as}
use Rattle.sp_fock_law.proofs.Places.{vector_of-at}
use Rattle.sp_fock_law.proofs.Vectors.{IsLaurent-vector_of, IsVector-entries}
use Rattle.sp_fock_law.specs.Grid.{IsHeading}
use Rattle.sp_fock_law.specs.Joined.{is_nonzero}
use Rattle.sp_laurent.specs.Held.{IsHeld as IsHeldPolynomial}
use Rattle.sp_lists.proofs.Elements.{all_both, all_map, all_reverse}
use Rattle.sp_lists.proofs.Maps.{filter-map, filter-reverse, map-reverse}
use Rattle.sp_lists.proofs.Occurrence.{Occurs, at_occurs, occurs_reverse}
use Rattle.sp_lists.proofs.Places.{all_places, all_weaken}
use Rattle.sp_module_defs.specs.Cells.{place}
use Rattle.sp_partition.proofs.ColumnLengths.{conjugate_held}
use Rattle.sp_partition.specs.Held.{IsHeld as IsHeldPartition}
use Rattle.sp_shapes.proofs.Involution.{conjugate_twice}
use Rattle.sp_matrix.specs.Conjugates.{conjugate_entry, conjugate_vector, conjugates, is_among, with_place}
use Rattle.sp_matrix.proofs.Ascents.{all_permuted, keys_sorted, rebuilt, same_test}
use Rattle.sp_matrix.proofs.Conjugating.{among_occurs, conjugates_sorted, occurs_among}

-- ---- headings

occurs_back : (x : List ℕ) (xs : List (List ℕ)) → Occurs x (reverse xs) → Occurs x xs
occurs_back x xs o = subst (Occurs x) (reverse-reverse xs) (occurs_reverse x (reverse xs) o)

module _ (n : ℕ) (heading : List (List ℕ)) (h : IsHeading n heading) (ps : List (List ℕ × ℕ))
    (moved : IsPermutation (map conjugate heading) (map (λ t. t.0) ps)) (up : IsSortedByKey (λ t. t.0) order ps)
    (places : AllByRecursion (λ t. t.1 ≡ place heading (conjugate t.0)) ps) where
  ascending_moved : IsPermutation (map conjugate (reverse heading)) (map (λ t. t.0) ps)
  ascending_moved =
      IsPermutation-trans (map conjugate (reverse heading)) (map conjugate heading) (map (λ t. t.0) ps)
      (IsPermutation-sym (map conjugate heading) (map conjugate (reverse heading))
      (IsPermutation-map conjugate heading (reverse heading) (IsPermutation-reverse heading)))
      moved

  heading_keys : map (λ t. t.0) ps ≡ filter (λ lambda. is_among heading (conjugate lambda)) (partitions n)
  heading_keys =
      conjugates_sorted n (reverse heading) (map (λ t. t.0) ps)
      (all_reverse (IsPartitionOf n) heading h.partitions_of) h.descending ascending_moved (keys_sorted ps up)
      (λ lambda. is_among heading (conjugate lambda))
      (λ x p o. occurs_among heading (conjugate (conjugate x))
      (subst (λ y. Occurs y heading) (sym (conjugate_twice x p.partition)) (occurs_back x heading o)))
      (λ z p e. occurs_reverse (conjugate z) heading (among_occurs heading (conjugate z) e))

  -- The sorted pairs, from the last to the first, are the conjugates with their places.
  pub heading_sorted : reverse ps ≡ map (with_place heading) (conjugates n heading)
  unfolding conjugates
  heading_sorted =
      ap reverse
      (sym (rebuilt (λ lambda. place heading (conjugate lambda)) ps places)
      ∙ ap (map (with_place heading)) heading_keys)
      ∙ sym (map-reverse (with_place heading) passed)
      ∙ ap (map (with_place heading))
      (sym (filter-reverse (λ lambda. is_among heading (conjugate lambda)) (partitions n)))
    where
      passed : List (List ℕ)
      passed = filter (λ lambda. is_among heading (conjugate lambda)) (partitions n)

-- ---- vectors

nonzero_test : (p : Laurent) → p ≢ [] → is_nonzero p ≡ true
nonzero_test [] ne = absurd (ne refl)
nonzero_test (t ∷ p) ne = lt-ltb 0 (length (t ∷ p)) (omega arith)

-- A vector has an entry where it isn't 0.
key_occurs : (es : Entries) (mu : List ℕ) → is_nonzero (vector_of es mu) ≡ true → Occurs mu (map (λ t. t.0) es)
unfolding vector_of
key_occurs [] mu h = absurd (let k : false ≡ true = h in cc)
key_occurs ((kappa, p) ∷ es) mu h = settle (is_eq (compare kappa mu)) refl h (key_occurs es mu)
  where
    settle : (b : Bool) → is_eq (compare kappa mu) ≡ b → is_nonzero (cond b p (vector_of es mu)) ≡ true →
        (is_nonzero (vector_of es mu) ≡ true → Occurs mu (map (λ t. t.0) es)) →
        (mu ≡ kappa) ⊎ Occurs mu (map (λ t. t.0) es)
    settle true e k later = inl (sym (same_test kappa mu e))
    settle false e k later = inr (later k)

module _ (n : ℕ) (es fs : Entries) (v : IsVector n es) (moved : IsPermutation (map conjugate_entry es) fs)
    (up : IsSortedByKey (λ t. t.0) order fs) where
  abbrev turned : Vector
  turned = conjugate_vector (vector_of es)

  own_values : AllByRecursion (λ t. vector_of es t.0 ≡ t.1) es
  own_values =
      all_places (λ t. vector_of es t.0 ≡ t.1) es ([], []) (λ i lt. vector_of-at es v.ascending i ([], []) lt)

  values : AllByRecursion (λ t. t.1 ≡ turned t.0) fs
  values =
      all_permuted (λ t. t.1 ≡ turned t.0) (map conjugate_entry es) fs moved
      (all_map (λ t. t.1 ≡ turned t.0) conjugate_entry es
      (all_weaken (λ t. IsPartitionOf n t.0 × (vector_of es t.0 ≡ t.1))
      (λ t. t.1 ≡ vector_of es (conjugate (conjugate t.0))) es
      (λ t h. sym (ap (vector_of es) (conjugate_twice t.0 h.0.partition) ∙ h.1))
      (all_both (λ t. IsPartitionOf n t.0) (λ t. vector_of es t.0 ≡ t.1) es v.partitions_of own_values)))

  keys_moved : IsPermutation (map conjugate (map (λ t. t.0) es)) (map (λ t. t.0) fs)
  keys_moved =
      subst (λ ks. IsPermutation ks (map (λ t. t.0) fs))
      (map-map (λ t. t.0) conjugate_entry es ∙ sym (map-map conjugate (λ t. t.0) es))
      (IsPermutation-map (λ t. t.0) (map conjugate_entry es) fs moved)

  nonzero_values : AllByRecursion (λ x. is_nonzero (vector_of es x) ≡ true) (map (λ t. t.0) es)
  nonzero_values =
      all_map (λ x. is_nonzero (vector_of es x) ≡ true) (λ t. t.0) es
      (all_weaken (λ t. (vector_of es t.0 ≡ t.1) × (IsLaurent t.1 × (t.1 ≢ [])))
      (λ t. is_nonzero (vector_of es t.0) ≡ true) es
      (λ t h. ap is_nonzero h.0 ∙ nonzero_test t.1 h.1.1)
      (all_both (λ t. vector_of es t.0 ≡ t.1) (λ t. IsLaurent t.1 × (t.1 ≢ [])) es own_values v.polynomials))

  keys : map (λ t. t.0) fs ≡ filter (λ x. is_nonzero (turned x)) (partitions n)
  keys =
      conjugates_sorted n (map (λ t. t.0) es) (map (λ t. t.0) fs)
      (all_map (IsPartitionOf n) (λ t. t.0) es v.partitions_of) v.ascending keys_moved (keys_sorted fs up)
      (λ x. is_nonzero (turned x))
      (λ x p o. at_occurs (λ y. is_nonzero (vector_of es y) ≡ true) (conjugate (conjugate x)) (map (λ t. t.0) es)
      (subst (λ y. Occurs y (map (λ t. t.0) es)) (sym (conjugate_twice x p.partition)) o) nonzero_values)
      (λ z p e. key_occurs es (conjugate z) e)

  -- The entries at the conjugates, sorted, are those of the conjugate of the vector.
  pub entries_sorted : fs ≡ entries n (conjugate_vector (vector_of es))
  entries_sorted =
      sym (rebuilt turned fs values)
      ∙ ap (map (λ x. (x, turned x))) keys
      ∙ sym (filter-map (λ t. is_nonzero t.1) (λ x. (x, turned x)) (partitions n))

  -- The type has room for them.
  pub held_sorted : ArePairs es → IsHeld (held_as n fs)
  held_sorted h = record {
    vector =
        subst (IsVector n) (sym entries_sorted)
        (IsVector-entries n turned (λ lambda. IsLaurent-vector_of es v.polynomials (conjugate lambda)));
    pairs =
        all_permuted (λ t. IsHeldPartition t.0 × IsHeldPolynomial t.1) (map conjugate_entry es) fs moved
        (all_map (λ t. IsHeldPartition t.0 × IsHeldPolynomial t.1) conjugate_entry es
        (all_weaken (λ t. IsHeldPartition t.0 × IsHeldPolynomial t.1)
        (λ t. IsHeldPartition (conjugate t.0) × IsHeldPolynomial t.1) es
        (λ t k. (conjugate_held t.0 k.0, k.1)) h));
  }
