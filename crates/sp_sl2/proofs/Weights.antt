-- When a restriction and a commutator are within a limit, and what they are.
use Rattle.std.proofs.Common.{◌≡◌, ◌≢◌, ℕ, ◌+◌, ◌-◌, ◌*◌, ◌<◌, ◌≤◌, cond, nat_eq, nat_lt, List, [], ◌∷◌, ◌++◌}
use Rattle.std.proofs.Common.{map, filter, flat_map, length, drop, get_or, refl, sym, ◌∙◌, ap, ap₂, subst, arith, ◌⊎◌}
use Rattle.std.proofs.Common.{inl, inr, append_assoc, drop-cons, add-one, eq-eqb, ne_eqb}
use Rattle.std.specs.Int.RustNames.{unsigned_abs}
use Rattle.std.specs.List.{AllByRecursion}
use Rattle.sp_defs.specs.Partition.{partitions, IsPartitionOf}
use Rattle.sp_defs.specs.Laurent.{Laurent, times, size}
use Rattle.sp_defs.specs.Power.{Vector, Entries, IsVector, vector_of, entries, fock_vector, greatest}
use Rattle.sp_lists.proofs.Elements.{le_or_lt, all_append, all_map, all_both, all_filter, filter_append, nil_or_not}
use Rattle.sp_lists.proofs.Greatest.{greatest_within, within_greatest, map_within, within_map}
use Rattle.sp_lists.proofs.Occurrence.{Occurs, at_occurs, occurs_map}
use Rattle.sp_lists.proofs.Places.{all_weaken}
use Rattle.sp_algebra.proofs.Laws.{IsLaurent-times, times_nought}
use Rattle.sp_algebra.proofs.Sums.{IsLaurent-sum_over}
use Rattle.sp_shapes.proofs.Listing.{all_partitions, each_partition}
use Rattle.sp_partition.specs.Held.{IsHeld as IsHeldPartition}
use Rattle.sp_laurent.specs.Held.{IsHeld as IsHeldPolynomial}
use Rattle.sp_fock.specs.Held.{IsHeld, held_as, ArePairs}
use Rattle.sp_fock_law.proofs.Vectors.{entries_at, entries-alike}
use Rattle.sp_sl2_law.specs.Restriction.{enlarged, restriction, restricted_size, restriction_weight}
use Rattle.sp_sl2_law.specs.Balanced.{balanced, corner_difference}
use Rattle.sp_sl2_law.specs.Commutator.{commutator, corner_multiple, commutator_weight}
use Rattle.sp_sl2_law.specs.Marks.{shrunken}
use Rattle.sp_sl2_law.proofs.Relation.{relation}
use Rattle.sp_sl2_law.proofs.Targets.{Nothing, target_or_nothing, entry_there}
use Rattle.sp_sl2.specs.Targets.{AreTargets, restricted_entries}
use Rattle.sp_sl2.specs.Multiples.{multiple_entries, MultipleFits}
use Rattle.sp_sl2.proofs.Gathered.{entries_vector, entries_gathered, at_entries}

-- ---- restriction

module _ (e i n : ℕ) (he : 2 ≤ e) (es : Entries) (ts : List (List ℕ)) (are : AreTargets e i n es ts) where
  reached : (mu : List ℕ) → IsPartitionOf (n - 1) mu → Occurs mu ts ⊎ Nothing e i es mu
  reached mu p = by_case (target_or_nothing e i n es he are.vector.partitions_of mu p.partition)
    where
      by_case : Occurs mu (flat_map (λ t. shrunken e i t.0) es) ⊎ Nothing e i es mu → Occurs mu ts ⊎ Nothing e i es mu
      by_case (inl o) = inl (are.all mu o)
      by_case (inr z) = inr z

  -- The entries at the targets are the restriction.
  pub restricted_is : restricted_entries e i (vector_of es) ts ≡ entries (n - 1) (restriction e i (vector_of es))
  unfolding restriction
  restricted_is = entries_gathered (n - 1) (restriction e i (vector_of es))
      (λ mu. IsLaurent-sum_over (enlarged e i mu) _) ts are.ascending are.partitions_of
      (λ mu p. by_case mu (reached mu p))
    where
      by_case : (mu : List ℕ) → Occurs mu ts ⊎ Nothing e i es mu →
          Occurs mu ts ⊎ (restriction e i (vector_of es) mu ≡ [])
      by_case mu (inl o) = inl o
      by_case mu (inr z) = inr z.zero_there

  -- They make a vector.
  pub restricted_vector : IsVector (n - 1) (restricted_entries e i (vector_of es) ts)
  unfolding restriction
  restricted_vector = entries_vector (n - 1) (restriction e i (vector_of es))
      (λ mu. IsLaurent-sum_over (enlarged e i mu) _) ts are.ascending are.partitions_of

  -- Where all sizes at the targets are within a limit, so is the weight.
  pub weight_within : (limit : ℕ) → AllByRecursion (λ mu. restricted_size e i (vector_of es) mu ≤ limit) ts →
      restriction_weight e i n (vector_of es) ≤ limit
  weight_within limit all =
      greatest_within limit (map (restricted_size e i (vector_of es)) (partitions (n - 1)))
      (map_within (restricted_size e i (vector_of es)) limit (partitions (n - 1))
      (all_weaken (IsPartitionOf (n - 1)) (λ mu. restricted_size e i (vector_of es) mu ≤ limit) (partitions (n - 1))
      (λ mu p. by_case mu (reached mu p)) (all_partitions (n - 1))))
    where
      by_case : (mu : List ℕ) → Occurs mu ts ⊎ Nothing e i es mu → restricted_size e i (vector_of es) mu ≤ limit
      by_case mu (inl o) = at_occurs (λ x. restricted_size e i (vector_of es) x ≤ limit) mu ts o all
      by_case mu (inr z) = omega (arith, z.no_size)

  -- And where they are not, the weight is past it.
  pub weight_past : (limit : ℕ) → ¬ AllByRecursion (λ mu. restricted_size e i (vector_of es) mu ≤ limit) ts →
      limit < restriction_weight e i n (vector_of es)
  weight_past limit not = by_case (le_or_lt (restriction_weight e i n (vector_of es)) limit)
    where
      by_case : (restriction_weight e i n (vector_of es) ≤ limit) ⊎ (limit < restriction_weight e i n (vector_of es)) →
          limit < restriction_weight e i n (vector_of es)
      by_case (inr lt) = lt
      by_case (inl le) = absurd (not
          (all_weaken (IsPartitionOf (n - 1)) (λ mu. restricted_size e i (vector_of es) mu ≤ limit) ts
          (λ mu p. at_occurs (λ x. restricted_size e i (vector_of es) x ≤ limit) mu (partitions (n - 1))
          (each_partition (n - 1) mu p.partition p.total)
          (within_map (restricted_size e i (vector_of es)) limit (partitions (n - 1))
          (within_greatest limit (map (restricted_size e i (vector_of es)) (partitions
          (n - 1))) le))) are.partitions_of))

  -- As the code has it: what the sums make.
  pub restricted_held : (k : ℕ) (now : List (List ℕ)) (items : Entries) → k ≡ n - 1 → now ≡ ts →
      items ≡ restricted_entries e i (vector_of es) now → ArePairs items → IsHeld (held_as k items)
  restricted_held k now items degree_is same is pairs = record {
    vector = subst (λ j. IsVector j items) (sym degree_is)
        (subst (IsVector (n - 1)) (sym (is ∙ ap (restricted_entries e i (vector_of es)) same)) restricted_vector);
    pairs = pairs;
  }

  pub restricted_whole : (k : ℕ) (now : List (List ℕ)) (items : Entries) → k ≡ n - 1 → now ≡ ts →
      items ≡ restricted_entries e i (vector_of es) now →
      held_as k items ≡ fock_vector (n - 1) (restriction e i (vector_of es))
  restricted_whole k now items degree_is same is =
      ap₂ held_as degree_is (is ∙ ap (restricted_entries e i (vector_of es)) same ∙ restricted_is)

-- ---- the commutator

-- The commutator as a vector, in its closed form.
pub commutator_vector : (e i j n : ℕ) (w : Vector) → 2 ≤ e →
    fock_vector n (commutator e i j w) ≡ fock_vector n (λ lambda. cond (nat_eq i j) (corner_multiple e i w lambda) [])
commutator_vector e i j n w he =
    ap (λ es. record { degree = n; entries = es })
    (entries-alike n (commutator e i j w) (λ lambda. cond (nat_eq i j) (corner_multiple e i w lambda) [])
    (λ lambda p. relation e i j he w lambda p.partition))

-- Where the residues differ it is 0.
pub commutator_apart : (e i j n : ℕ) (w : Vector) → 2 ≤ e → i ≢ j →
    fock_vector n (λ lambda. []) ≡ fock_vector n (commutator e i j w)
commutator_apart e i j n w he ne =
    ap (λ b. fock_vector n (λ lambda. cond b (corner_multiple e i w lambda) [])) (sym (ne_eqb i j ne))
    ∙ sym (commutator_vector e i j n w he)

module _ (e i n : ℕ) (es : Entries) (v : IsVector n es) where
  entry_or_zero : (lambda : List ℕ) → (vector_of es lambda ≡ []) ⊎ Occurs (lambda, vector_of es lambda) es
  entry_or_zero lambda = by_case (nil_or_not (vector_of es lambda))
    where
      by_case : (vector_of es lambda ≡ []) ⊎ (vector_of es lambda ≢ []) →
          (vector_of es lambda ≡ []) ⊎ Occurs (lambda, vector_of es lambda) es
      by_case (inl z) = inl z
      by_case (inr ne) =
          let entry = entry_there es lambda ne in
          let same : vector_of es lambda ≡ entry.0 =
          at_occurs (λ t. vector_of es t.0 ≡ t.1) (lambda, entry.0) es entry.1 (at_entries es v.ascending) in
          inr (subst (λ p. Occurs (lambda, p) es) (sym same) entry.1)

  keyed : multiple_entries e i es ≡ entries_at (map (λ t. t.0) es) (corner_multiple e i (vector_of es))
  unfolding corner_multiple
  keyed = ap (filter (λ t. nat_lt 0 (length t.1))) (each es (at_entries es v.ascending))
    where
      each : (fs : Entries) → AllByRecursion (λ t. vector_of es t.0 ≡ t.1) fs →
          map {B = List ℕ × Laurent} (λ t. (t.0, times (balanced (corner_difference e i t.0)) t.1)) fs ≡
          map {B = List ℕ × Laurent} (λ mu. (mu, times (balanced (corner_difference e i mu)) (vector_of es mu)))
          (map (λ t. t.0) fs)
      each [] h = refl
      each (t ∷ fs) (h, hs) =
          ap₂ (λ p l. (t.0, times (balanced (corner_difference e i t.0)) p) ∷ l) (sym h) (each fs hs)

  keys : AllByRecursion (IsPartitionOf n) (map (λ t. t.0) es)
  keys = all_map (IsPartitionOf n) (λ t. t.0) es v.partitions_of

  -- The products are the closed form.
  pub multiples_are : multiple_entries e i es ≡ entries n (corner_multiple e i (vector_of es))
  unfolding corner_multiple
  multiples_are = keyed ∙ entries_gathered n (corner_multiple e i (vector_of es))
      (λ mu. IsLaurent-times (balanced (corner_difference e i mu)) (vector_of es mu)) (map
      (λ t. t.0) es) v.ascending keys
      (λ mu p. by_case mu (entry_or_zero mu))
    where
      by_case : (mu : List ℕ) → (vector_of es mu ≡ []) ⊎ Occurs (mu, vector_of es mu) es →
          Occurs mu (map (λ t. t.0) es) ⊎ (corner_multiple e i (vector_of es) mu ≡ [])
      by_case mu (inl z) = inr (ap (times (balanced (corner_difference e i mu))) z
          ∙ times_nought (balanced (corner_difference e i mu)))
      by_case mu (inr o) = inl (occurs_map (λ t. t.0) (mu, vector_of es mu) es o)

  -- They make a vector.
  pub multiples_vector : IsVector n (multiple_entries e i es)
  unfolding corner_multiple
  multiples_vector = subst (IsVector n) (sym keyed)
      (entries_vector n (corner_multiple e i (vector_of es))
      (λ mu. IsLaurent-times (balanced (corner_difference e i mu)) (vector_of es mu)) (map
      (λ t. t.0) es) v.ascending keys)

  abbrev product_size : List ℕ → ℕ
  product_size lambda = unsigned_abs (corner_difference e i lambda) * size (vector_of es lambda)

  -- Where all products are within a limit, so is the weight.
  pub products_within : (limit : ℕ) → AllByRecursion (MultipleFits e i limit) es →
      greatest (map product_size (partitions n)) ≤ limit
  products_within limit all =
      greatest_within limit (map product_size (partitions n))
      (map_within product_size limit (partitions n)
      (all_weaken (IsPartitionOf n) (λ mu. product_size mu ≤ limit) (partitions n) (λ mu p. by_case mu
      (entry_or_zero mu))
      (all_partitions n)))
    where
      none : (a b : ℕ) → b ≡ 0 → a * b ≤ limit
      none a b z = subst (λ k. a * k ≤ limit) (sym z) (omega arith)

      by_case : (mu : List ℕ) → (vector_of es mu ≡ []) ⊎ Occurs (mu, vector_of es mu) es → product_size mu ≤ limit
      by_case mu (inl z) = none (unsigned_abs (corner_difference e i mu)) (size (vector_of es mu)) (ap size z)
      by_case mu (inr o) = at_occurs (MultipleFits e i limit) (mu, vector_of es mu) es o all

  -- And where they are not, the weight is past it.
  pub products_past : (limit : ℕ) → ¬ AllByRecursion (MultipleFits e i limit) es →
      limit < greatest (map product_size (partitions n))
  products_past limit not = by_case (le_or_lt (greatest (map product_size (partitions n))) limit)
    where
      by_case : (greatest (map product_size (partitions n)) ≤ limit) ⊎
          (limit < greatest (map product_size (partitions n))) → limit < greatest (map product_size (partitions n))
      by_case (inr lt) = lt
      by_case (inl le) = absurd (not
          (all_weaken (λ t. (vector_of es t.0 ≡ t.1) × IsPartitionOf n t.0) (MultipleFits e i limit) es
          (λ t h. subst (λ p. unsigned_abs (corner_difference e i t.0) * size p ≤ limit) h.0
          (at_occurs (λ x. product_size x ≤ limit) t.0 (partitions n) (each_partition n t.0 h.1.partition h.1.total)
          (within_map product_size limit (partitions n) (within_greatest limit (map product_size (partitions n)) le))))
          (all_both (λ t. vector_of es t.0 ≡ t.1) (λ t. IsPartitionOf n t.0) es
          (at_entries es v.ascending) v.partitions_of)))

  -- As the code has it: what the products make.
  pub multiples_held : (k : ℕ) (pairs items : Entries) → k ≡ n → pairs ≡ es → items ≡ multiple_entries e i pairs →
      ArePairs items → IsHeld (held_as k items)
  multiples_held k pairs items degree_is same is held = record {
    vector = subst (λ j. IsVector j items) (sym degree_is)
        (subst (IsVector n) (sym (is ∙ ap (multiple_entries e i) same)) multiples_vector);
    pairs = held;
  }

  pub multiples_whole : (k : ℕ) (pairs items : Entries) → k ≡ n → pairs ≡ es → items ≡ multiple_entries e i pairs →
      held_as k items ≡ fock_vector n (corner_multiple e i (vector_of es))
  multiples_whole k pairs items degree_is same is =
      ap₂ held_as degree_is (is ∙ ap (multiple_entries e i) same ∙ multiples_are)

-- Where the residues are equal, the weight is that of the products.
pub equal_weight : (e i j n : ℕ) (w : Vector) → i ≡ j →
    greatest (map (λ lambda. unsigned_abs (corner_difference e i lambda) * size (w lambda)) (partitions n)) ≡
    commutator_weight e i j n w
equal_weight e i j n w same =
    ap (λ b. cond b (greatest (map (λ lambda. unsigned_abs (corner_difference e i lambda) * size (w lambda))
    (partitions n))) 0) (sym (eq-eqb i j same))

-- Where they are equal the closed form has the products.
pub equal_vector : (e i j n : ℕ) (w : Vector) → i ≡ j →
    fock_vector n (corner_multiple e i w) ≡ fock_vector n (λ lambda. cond (nat_eq i j)
    (corner_multiple e i w lambda) [])
equal_vector e i j n w same =
    ap (λ b. fock_vector n (λ lambda. cond b (corner_multiple e i w lambda) [])) (sym (eq-eqb i j same))

-- ---- one entry more

-- The entries so far, and one more if it isn't 0.
pub told_more : (f : List ℕ × Laurent → List ℕ × Laurent) (xs : Entries) (k : ℕ) (d : List ℕ × Laurent)
    (old new all : Entries) (t : List ℕ × Laurent) → k < length xs → d ≡ get_or xs k d → t ≡ f d →
    new ≡ old ++ filter (λ t. nat_lt 0 (length t.1)) (t ∷ []) →
    old ++ filter (λ t. nat_lt 0 (length t.1)) (map f (drop k xs)) ≡ all →
    new ++ filter (λ t. nat_lt 0 (length t.1)) (map f (drop (k + 1) xs)) ≡ all
told_more f xs k d old new all t lt is t_is new_is h =
    ap (λ l. l ++ kept (map f (drop (k + 1) xs))) (new_is ∙ ap (λ u. old ++ kept (u ∷ [])) t_is)
    ∙ append_assoc old (kept (f d ∷ [])) (kept (map f (drop (k + 1) xs)))
    ∙ ap (λ l. old ++ l) (sym (filter_append (λ t. nat_lt 0 (length t.1)) (f d ∷ []) (map f (drop (k + 1) xs)))
    ∙ ap (λ l. kept (map f l)) (sym (drop_more xs k d lt is)))
    ∙ h
  where
    kept : Entries → Entries
    kept = filter (λ t. nat_lt 0 (length t.1))

    drop_more : (xs : Entries) (k : ℕ) (d : List ℕ × Laurent) → k < length xs → d ≡ get_or xs k d →
        drop k xs ≡ d ∷ drop (k + 1) xs
    drop_more xs k d lt is = drop-cons xs k d lt ∙ ap₂ (λ a b. a ∷ drop b xs) (sym is) (sym (add-one k))

-- Each has the facts of its parts.
pub pairs_more : (old new : Entries) (t : List ℕ × Laurent) → ArePairs old → IsHeldPartition t.0 →
    IsHeldPolynomial t.1 →
    new ≡ old ++ filter (λ t. nat_lt 0 (length t.1)) (t ∷ []) → ArePairs new
pairs_more old new t held p q is =
    subst ArePairs (sym is)
    (all_append (λ t. IsHeldPartition t.0 × IsHeldPolynomial t.1) old (filter (λ t. nat_lt 0 (length t.1))
    (t ∷ [])) held
    (all_filter (λ t. IsHeldPartition t.0 × IsHeldPolynomial t.1) (λ t. nat_lt 0 (length t.1)) (t ∷ [])
    ((λ _. (p, q)), tt)))

-- What holds of the elements from one on, where it holds of that one.
pub fits_more : {X : Type 0} (P : X → Type 0) (xs : List X) (k : ℕ) (d : X) (Q : Type 0) → k < length xs →
    d ≡ get_or xs k d → P d → (AllByRecursion P (drop k xs) → Q) → AllByRecursion P (drop (k + 1) xs) → Q
fits_more P xs k d Q lt is here h rest =
    h (subst (AllByRecursion P) (sym (drop-cons xs k d lt ∙ ap₂ (λ a b. a ∷ drop b xs) (sym is) (sym (add-one k))))
    (here, rest))
