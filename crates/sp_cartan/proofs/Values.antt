-- The values in a line at v = 1, as a vector.
use Rattle.std.proofs.Common.{◌≡◌, ℕ, zero, suc, ◌+◌, ◌-◌, ◌<◌, ◌≤◌, nat_lt, List, [], ◌∷◌, ◌++◌, map, filter, length}
use Rattle.std.proofs.Common.{reverse, get_or, refl, sym, ◌∙◌, ap, ap₂, subst, arith, ◌⊎◌, inl, inr, pos, append-nil}
use Rattle.std.proofs.Common.{append_assoc, true, false, cond, Less, Equal, Greater, ◌≢◌}
use Rattle.std.proofs.lemmas.List.{get_or-map, length-map, reverse-append}
use Rattle.std.proofs.lemmas.List.FromFn.{fill_by_all}
use Rattle.std.specs.List.{AllByRecursion, range_with_len}
use Rattle.std.specs.Ordering.{is_eq}
use Rattle.std.specs.declared.cmp.Ordering.{Ordering}
use Rattle.sp_defs.specs.Laurent.{Laurent, IsLaurent, add_term, collect, int_sum, monomial, value_at_one}
use Rattle.sp_defs.specs.Partition.{Ascending, IsPartitionOf, compare}
use Rattle.sp_defs.specs.Power.{Entries, IsVector, entries, fock_vector, vector_of}
use Rattle.sp_algebra.proofs.Coefficients.{IsLaurent-collect}
use Rattle.sp_lists.proofs.Elements.{all_append, all_filter, all_reverse, filter_append, le_or_lt, range_snoc}
use Rattle.sp_lists.proofs.Maps.{map-reverse}
use Rattle.sp_lists.proofs.Occurrence.{occurs_reverse}
use Rattle.sp_lists.proofs.Places.{all_weaken}
use Rattle.sp_shapes.proofs.Order.{same_lists}
use Rattle.sp_fock.specs.Held.{ArePairs, IsHeld, held_as}
use Rattle.sp_fock_law.specs.Grid.{GridValue, IsGrid, cell_of}
use Rattle.sp_fock_law.proofs.Vectors.{all_at as entries_keep, ascending_at, entries-alike, entries-vector_of}
use Rattle.sp_fock_law.proofs.Vectors.{entries_at}
use Rattle.sp_fock_law.proofs.Vectors.{vector_of-entries_at}
use Rattle.sp_module_defs.specs.Cells.{cell_at, place}
use Rattle.sp_partition.specs.Held.{IsHeld as IsHeldPartition}
use Rattle.sp_laurent.specs.Held.{IsHeld as IsHeldPolynomial}
use Rattle.sp_cartan.specs.Characters.{simple_character, values_below}
use Rattle.sp_cartan.proofs.Placing.{cell_along, cell_behind, cell_below, placed_occurs}

-- ---- along the walk

-- A range from its last number down.
range_back : (k : ℕ) → 0 < k → reverse (range_with_len 0 k) ≡ (k - 1) ∷ reverse (range_with_len 0 (k - 1))
range_back zero some = absurd (omega arith)
range_back (suc k) some =
    ap reverse (range_snoc 0 k)
    ∙ reverse-append (range_with_len 0 k) ((0 + k) ∷ [])
    ∙ ap (λ i. i ∷ reverse (range_with_len 0 k)) {x = 0 + k} {y = k} (omega arith)
    ∙ ap (λ i. i ∷ reverse (range_with_len 0 i)) {x = k} {y = suc k - 1} (omega arith)

module _ (g : GridValue) (line k : ℕ) (some : 0 < k) (p : List ℕ) (q : Laurent) (at : p ≡ get_or g.columns (k - 1) [])
    (value : q ≡ monomial (pos 0) (value_at_one (cell_of g line (k - 1)))) where
  -- The values from a column down are its own and those below.
  next_below : values_below g line k
      ≡ filter (λ t. nat_lt 0 (length t.1)) ((p, q) ∷ []) ++ values_below g line (k - 1)
  next_below =
      ap (λ ks. filter (λ t. nat_lt 0 (length t.1))
      (map (λ j. (get_or g.columns j [], monomial (pos 0) (value_at_one (cell_of g line j)))) ks)) (range_back k some)
      ∙ ap₂ (λ x y. filter (λ t. nat_lt 0 (length t.1)) ((x, y) ∷ map (λ j. (
        get_or g.columns j [],
        monomial (pos 0) (value_at_one (cell_of g line j)),
      )) (reverse (range_with_len 0 (k - 1))))) (sym at) (sym value)
      ∙ filter_append (λ t. nat_lt 0 (length t.1)) ((p, q) ∷ []) (map (λ j. (
        get_or g.columns j [],
        monomial (pos 0) (value_at_one (cell_of g line j)),
      )) (reverse (range_with_len 0 (k - 1))))

  -- With it at the end of the list, fewer are still to come.
  pub values_more : (items more whole : Entries) → more ≡ items ++ filter (λ t. nat_lt 0 (length t.1)) ((p, q) ∷ []) →
      items ++ values_below g line k ≡ whole → more ++ values_below g line (k - 1) ≡ whole
  values_more items more whole grown h =
      ap (λ es. es ++ values_below g line (k - 1)) grown
      ∙ append_assoc items (filter (λ t. nat_lt 0 (length t.1)) ((p, q) ∷ [])) (values_below g line (k - 1))
      ∙ ap (λ es. items ++ es) (sym next_below)
      ∙ h

-- Before the first column there are none.
pub values_none : (g : GridValue) (line k : ℕ) (items whole : Entries) → k ≤ 0 →
    items ++ values_below g line k ≡ whole → items ≡ whole
values_none g line k items whole le h =
    sym (append-nil items)
    ∙ ap (λ n. items ++ values_below g line n) {x = 0} {y = k} (omega (arith, le))
    ∙ h

-- One pair more is held.
pub pairs_kept : (items more : Entries) (p : List ℕ) (q : Laurent) → ArePairs items → IsHeldPartition p →
    IsHeldPolynomial q → more ≡ items ++ filter (λ t. nat_lt 0 (length t.1)) ((p, q) ∷ []) → ArePairs more
pairs_kept items more p q all held polynomial grown =
    subst ArePairs (sym grown)
    (all_append (λ (t : List ℕ × Laurent). IsHeldPartition t.0 × IsHeldPolynomial t.1) items
    (filter (λ t. nat_lt 0 (length t.1)) ((p, q) ∷ [])) all
    (all_filter (λ (t : List ℕ × Laurent). IsHeldPartition t.0 × IsHeldPolynomial t.1) (λ t. nat_lt 0 (length t.1))
    ((p, q) ∷ [])
    ((λ _. (held, polynomial)), tt)))

-- ---- the whole line

module _ (g : GridValue) (h : IsGrid g) (mu : List ℕ) where
  constant : (lambda : List ℕ) → IsLaurent (simple_character g mu lambda)
  unfolding simple_character collect add_term
  constant lambda = IsLaurent-collect ((pos 0, value_at_one (cell_at g mu lambda)) ∷ [])

  nothing : (lambda : List ℕ) → cell_at g mu lambda ≡ [] → simple_character g mu lambda ≡ []
  unfolding simple_character int_sum
  nothing lambda none = ap (λ p. monomial (pos 0) (value_at_one p)) none

  ascend : Ascending (reverse g.columns)
  ascend = h.columns.descending

  partitions_of : AllByRecursion (IsPartitionOf g.degree) (reverse g.columns)
  partitions_of = all_reverse (IsPartitionOf g.degree) g.columns h.columns.partitions_of

  -- The partitions with its values make a vector.
  gathered : IsVector g.degree (entries_at (reverse g.columns) (simple_character g mu))
  gathered = record {
    partitions_of =
        entries_keep (λ t. IsPartitionOf g.degree t.0) (reverse g.columns) (simple_character g mu)
        (all_weaken (IsPartitionOf g.degree) (λ x. (simple_character g mu x ≢ []) → IsPartitionOf g.degree x)
        (reverse g.columns) (λ x k _. k) partitions_of);
    ascending = ascending_at (reverse g.columns) (simple_character g mu) ascend;
    polynomials =
        entries_keep (λ t. IsLaurent t.1 × (t.1 ≢ [])) (reverse g.columns) (simple_character g mu)
        (all_weaken (IsPartitionOf g.degree)
        (λ x. (simple_character g mu x ≢ []) → IsLaurent (simple_character g mu x) × (simple_character g mu x ≢ []))
        (reverse g.columns) (λ x k ne. (constant x, ne)) partitions_of);
  }

  -- What is 0 at a partition has no entry there.
  no_entry : (lambda : List ℕ) (xs : List (List ℕ)) → simple_character g mu lambda ≡ [] →
      vector_of (entries_at xs (simple_character g mu)) lambda ≡ []
  unfolding vector_of
  no_entry lambda [] none = refl
  no_entry lambda (x ∷ xs) none =
      elim (nat_lt 0 (length (simple_character g mu x))) as
      (λ b. vector_of (cond b ((x, simple_character g mu x) ∷ entries_at xs (simple_character g mu))
      (entries_at xs (simple_character g mu))) lambda ≡ []) [
        | true ↦ by_order (compare x lambda) refl (no_entry lambda xs none)
        | false ↦ no_entry lambda xs none
      ]
    where
      by_order : (o : Ordering) → compare x lambda ≡ o →
          vector_of (entries_at xs (simple_character g mu)) lambda ≡ [] →
          cond (is_eq o) (simple_character g mu x) (vector_of (entries_at xs (simple_character g mu)) lambda) ≡ []
      by_order Less is later = later
      by_order Greater is later = later
      by_order Equal is later = ap (simple_character g mu) (same_lists x lambda is) ∙ none

  -- Where mu is no line, it is 0.
  pub no_line : length g.lines ≤ place g.lines mu →
      fock_vector g.degree (λ lambda. []) ≡ fock_vector g.degree (simple_character g mu)
  unfolding cell_at
  no_line le =
      ap (λ es. held_as g.degree es)
      (entries-alike g.degree (λ lambda. []) (simple_character g mu)
      (λ lambda k. sym (nothing lambda (cell_below g h (place g.lines mu) (place g.columns lambda) le))))

  module _ (line : place g.lines mu < length g.lines) where
    elsewhere : (lambda : List ℕ) → length g.columns ≤ place g.columns lambda → cell_at g mu lambda ≡ []
    unfolding cell_at
    elsewhere lambda le = cell_behind g h (place g.lines mu) (place g.columns lambda) line le

    -- They are all its values.
    all_values : entries_at (reverse g.columns) (simple_character g mu) ≡ entries g.degree (simple_character g mu)
    all_values =
        sym (entries-vector_of g.degree (entries_at (reverse g.columns) (simple_character g mu)) gathered)
        ∙ entries-alike g.degree (vector_of (entries_at (reverse g.columns) (simple_character g mu)))
        (simple_character g mu) (λ lambda k. settle lambda (le_or_lt (length g.columns) (place g.columns lambda)))
      where
        settle : (lambda : List ℕ) → (length g.columns ≤ place g.columns lambda) ⊎
            (place g.columns lambda < length g.columns) →
            vector_of (entries_at (reverse g.columns) (simple_character g mu)) lambda ≡ simple_character g mu lambda
        settle lambda (inl le) =
            let none = nothing lambda (elsewhere lambda le) in
            no_entry lambda (reverse g.columns) none ∙ sym none
        settle lambda (inr lt) =
            vector_of-entries_at (reverse g.columns) (simple_character g mu) lambda ascend
            (occurs_reverse lambda g.columns (placed_occurs g.columns lambda lt))

    abbrev entry : List ℕ → List ℕ × Laurent
    entry lambda = (lambda, simple_character g mu lambda)

    abbrev value : ℕ → List ℕ × Laurent
    value k = (get_or g.columns k [], monomial (pos 0) (value_at_one (cell_of g (place g.lines mu) k)))

    value_at : (k : ℕ) → k < length g.columns → get_or (map entry g.columns) k ([], []) ≡ value k
    unfolding simple_character
    value_at k lt =
        get_or-map entry g.columns k [] ([], []) lt
        ∙ ap (λ p. (get_or g.columns k [], monomial (pos 0) (value_at_one p))) (cell_along g h mu line k lt)

    -- The walk along the line gives them.
    walked : values_below g (place g.lines mu) (length g.columns)
        ≡ entries_at (reverse g.columns) (simple_character g mu)
    walked =
        ap (filter (λ t. nat_lt 0 (length t.1)))
        (map-reverse value (range_with_len 0 (length g.columns))
        ∙ ap reverse (sym (fill_by_all value (map entry g.columns) (length g.columns) ([], [])
        (length-map g.columns entry) value_at))
        ∙ sym (map-reverse entry g.columns))

    -- So they make the vector.
    pub values_held : (n : ℕ) (items : Entries) → n ≡ g.degree →
        items ≡ values_below g (place g.lines mu) (length g.columns) → ArePairs items → IsHeld (held_as n items)
    values_held n items degree is pairs = record {
      vector =
          subst (λ m. IsVector m items) (sym degree)
          (subst (IsVector g.degree) (sym (is ∙ walked)) gathered);
      pairs = pairs;
    }

    pub values_vector : (n : ℕ) (items : Entries) → n ≡ g.degree →
        items ≡ values_below g (place g.lines mu) (length g.columns) →
        held_as n items ≡ fock_vector g.degree (simple_character g mu)
    values_vector n items degree is = ap₂ (λ m es. held_as m es) degree (is ∙ walked ∙ all_values)
