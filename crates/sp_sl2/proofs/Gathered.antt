-- The entries of a vector at some partitions are all its entries, where it is 0 at all others.
use Rattle.std.proofs.Common.{◌≡◌, ◌≢◌, ℕ, true, false, cond, nat_lt, List, [], ◌∷◌, map, length, refl}
use Rattle.std.proofs.Common.{sym, ◌∙◌, ap, ◌⊎◌, inl, inr, Less, Equal, Greater}
use Rattle.std.specs.List.{AllByRecursion}
use Rattle.std.specs.Ordering.{is_eq}
use Rattle.std.specs.declared.cmp.Ordering.{Ordering}
use Rattle.sp_defs.specs.Partition.{compare, Ascending, IsEarlier, IsPartitionOf}
use Rattle.sp_defs.specs.Laurent.{IsLaurent}
use Rattle.sp_defs.specs.Power.{Vector, Entries, IsVector, vector_of, entries}
use Rattle.sp_lists.proofs.Elements.{map_all}
use Rattle.sp_lists.proofs.Occurrence.{Occurs}
use Rattle.sp_lists.proofs.Places.{all_weaken}
use Rattle.sp_shapes.proofs.Order.{same_lists}
use Rattle.sp_fock_law.proofs.Vectors.{entries_at, all_at, ascending_at, vector_of-entries_at, entries-vector_of}
use Rattle.sp_fock_law.proofs.Vectors.{entries-alike, vector_of-head, vector_of-other}

-- Where a vector is 0, so are its entries at any partitions.
nothing_there : (w : Vector) (mu : List ℕ) (xs : List (List ℕ)) → w mu ≡ [] → vector_of (entries_at xs w) mu ≡ []
unfolding vector_of
nothing_there w mu [] z = refl
nothing_there w mu (x ∷ xs) z =
    elim (nat_lt 0 (length (w x))) as
    (λ b. vector_of (cond b ((x, w x) ∷ entries_at xs w) (entries_at xs w)) mu ≡ []) [
      | true ↦ by_order (compare x mu) refl (nothing_there w mu xs z)
      | false ↦ nothing_there w mu xs z
    ]
  where
    by_order : (o : Ordering) → compare x mu ≡ o → vector_of (entries_at xs w) mu ≡ [] →
        cond (is_eq o) (w x) (vector_of (entries_at xs w) mu) ≡ []
    by_order Less is h = h
    by_order Greater is h = h
    by_order Equal is h = ap w (same_lists x mu is) ∙ z

module _ (n : ℕ) (w : Vector) (poly : (mu : List ℕ) → IsLaurent (w mu)) (xs : List (List ℕ)) (up : Ascending xs)
    (all : AllByRecursion (IsPartitionOf n) xs) where
  -- The entries at ascending partitions make a vector.
  pub entries_vector : IsVector n (entries_at xs w)
  entries_vector = record {
    partitions_of = all_at (λ t. IsPartitionOf n t.0) xs w
        (all_weaken (IsPartitionOf n) (λ x. (w x ≢ []) → IsPartitionOf n x) xs (λ x h _. h) all);
    ascending = ascending_at xs w up;
    polynomials = all_at (λ t. IsLaurent t.1 × (t.1 ≢ [])) xs w
        (all_weaken (IsPartitionOf n) (λ x. (w x ≢ []) → IsLaurent (w x) × (w x ≢ [])) xs (λ x h ne. (poly x, ne)) all);
  }

  -- Where the vector is 0 elsewhere, they are all its entries.
  pub entries_gathered : ((mu : List ℕ) → IsPartitionOf n mu → Occurs mu xs ⊎ (w mu ≡ [])) →
      entries_at xs w ≡ entries n w
  entries_gathered left =
      sym (entries-vector_of n (entries_at xs w) entries_vector)
      ∙ entries-alike n (vector_of (entries_at xs w)) w (λ mu h. at mu (left mu h))
    where
      at : (mu : List ℕ) → Occurs mu xs ⊎ (w mu ≡ []) → vector_of (entries_at xs w) mu ≡ w mu
      at mu (inl o) = vector_of-entries_at xs w mu up o
      at mu (inr z) = nothing_there w mu xs z ∙ sym z

-- A vector has at the partition of each entry its polynomial.
pub at_entries : (es : Entries) → Ascending (map (λ t. t.0) es) → AllByRecursion (λ t. vector_of es t.0 ≡ t.1) es
at_entries [] up = tt
at_entries ((kappa, p) ∷ es) (later, up) = (
  vector_of-head kappa p es,
  further es (map_all (IsEarlier kappa) (λ t. t.0) es later) (at_entries es up),
)
  where
    further : (fs : Entries) → AllByRecursion (λ t. IsEarlier kappa t.0) fs →
        AllByRecursion (λ t. vector_of es t.0 ≡ t.1) fs →
        AllByRecursion (λ t. vector_of ((kappa, p) ∷ es) t.0 ≡ t.1) fs
    further [] e h = tt
    further (t ∷ fs) (e, es') (h, hs) =
        (vector_of-other kappa t.0 p es (ap is_eq e) ∙ h, further fs es' hs)
