-- What adding asks of each partition follows from what is known of both vectors, and the sum is a vector again.
use Rattle.std.proofs.Common.{◌≡◌, ℕ, List, ◌+◌, ◌*◌, ◌≤◌, ◌↔◌, [], refl, sym, ◌∙◌, subst}
use Rattle.std.specs.List.{AllByRecursion}
use Rattle.sp_algebra.proofs.Laws.{IsLaurent-plus, plus_nought, times_nought}
use Rattle.sp_algebra.proofs.Sizes.{product_within-right_nil}
use Rattle.sp_defs.specs.Laurent.{Laurent, IsLaurent, collect, plus, times, size}
use Rattle.sp_defs.specs.Power.{Entries, IsVector, vector_of, entries, FockVector}
use Rattle.sp_lists.proofs.Elements.{all_both}
use Rattle.sp_shapes.proofs.Order.{all_mono}
use Rattle.sp_fock_law.specs.Joined.{Joint, joined, combined}
use Rattle.sp_fock_law.specs.Addition.{plus_scaled, scaled_sum, scaled_sum_weight}
use Rattle.sp_fock_law.proofs.Vectors.{IsVector-entries}
use Rattle.sp_fock_law.proofs.Joined.{combined-entries, weight_within}
use Rattle.sp_fock_law.proofs.JoinedAll.{HoldsOfBoth, joined-all}
use Rattle.sp_partition.specs.Held.{IsHeld as IsHeldPartition}
use Rattle.sp_laurent.specs.Held.{power_limit, IsHeld as IsHeldPolynomial}
use Rattle.sp_fock.specs.Held.{IsHeld, ArePairs, held_as}
use Rattle.sp_defs.specs.Within.{ProductWithin}
use Rattle.sp_fock.specs.Sum.{CanAdd, added, AllFit}

nought_laurent : IsLaurent []
unfolding collect
nought_laurent = refl

-- where no size passes the limit, each sum along the walk can be made
pub can_add : (limit : ℕ) (a : Laurent) (es fs : Entries) → ArePairs es → ArePairs fs
    → AllByRecursion (λ t. ProductWithin power_limit a t.1) fs
    → AllByRecursion (λ j. size j.first + size a * size j.second ≤ limit) (joined es fs)
    → AllByRecursion (CanAdd a limit) (joined es fs)
can_add limit a es fs he hf within fits =
    all_mono (λ j. Parts j × (size j.first + size a * size j.second ≤ limit)) (CanAdd a limit) (joined es fs)
    (λ j h. record { partition = h.0.partition; laurent = h.0.first; powers = h.0.second; fits = h.1 })
    (all_both Parts (λ j. size j.first + size a * size j.second ≤ limit) (joined es fs) parts fits)
  where
    Parts : Joint → Type 0
    Parts = HoldsOfBoth IsHeldPartition IsLaurent (ProductWithin power_limit a)

    parts : AllByRecursion Parts (joined es fs)
    parts =
        joined-all IsHeldPartition IsLaurent (ProductWithin power_limit a) nought_laurent
        (product_within-right_nil power_limit a) es fs
        (all_mono (λ t. IsHeldPartition t.0 × IsHeldPolynomial t.1) (λ t. IsHeldPartition t.0 × IsLaurent t.1) es
        (λ t h. (h.0, h.1.laurent)) he)
        (all_mono (λ t. (IsHeldPartition t.0 × IsHeldPolynomial t.1) × ProductWithin power_limit a t.1)
        (λ t. IsHeldPartition t.0 × ProductWithin power_limit a t.1) fs (λ t h. (h.0.0, h.1))
        (all_both (λ t. IsHeldPartition t.0 × IsHeldPolynomial t.1)
        (λ t. ProductWithin power_limit a t.1) fs hf within))

-- 0 and a multiple of 0
added_nought : (a : Laurent) → added a [] [] ≡ []
added_nought a = plus_of (times_nought a)
  where
    plus_of : {q : Laurent} → q ≡ [] → plus [] q ≡ []
    plus_of {q} e = subst (λ r. plus [] r ≡ []) (sym e) (plus_nought [] nought_laurent)

-- Where the second is 0, the first is the sum.
pub added_nothing : (a p : Laurent) → IsLaurent p → p ≡ added a p []
added_nothing a p h = sym (plus_of (times_nought a))
  where
    plus_of : {q : Laurent} → q ≡ [] → plus p q ≡ p
    plus_of {q} e = subst (λ r. plus p r ≡ p) (sym e) (plus_nought p h)

sum_entries : (n : ℕ) (a : Laurent) (es fs : Entries) → IsVector n es → IsVector n fs
    → combined (added a) (joined es fs) ≡ entries n (plus_scaled (vector_of es) a (vector_of fs))
sum_entries n a es fs he hf = combined-entries n (added a) (added_nought a) es fs he hf

-- ---- by what is kept of both vectors

-- a walk fits where an equal one, with an equal size of the factor, does
pub fit_moved : (limit s t : ℕ) (js ks : List Joint) → s ≡ t → js ≡ ks → AllFit s limit js → AllFit t limit ks
fit_moved limit s t js ks e f h = subst (AllFit t limit) f (subst (λ n. AllFit n limit js) e h)

module _ (v w : FockVector) (hv : IsHeld v) (hw : IsHeld w) (one_degree : v.degree ≡ w.degree) (a : Laurent) where
  second : IsVector v.degree w.entries
  second = subst (λ n. IsVector n w.entries) (sym one_degree) hw.vector

  -- the weight is within the limit exactly where all along the walk fits
  pub weight_tested : (limit : ℕ) → (scaled_sum_weight v a w ≤ limit)
      ↔ AllFit (size a) limit (joined v.entries w.entries)
  weight_tested limit = weight_within v.degree limit a v.entries w.entries hv.vector second

  -- where the weight is within the limit, each sum along the walk can be made
  pub can_add_vectors : (limit : ℕ) → AllByRecursion (λ t. ProductWithin power_limit a t.1) w.entries
      → scaled_sum_weight v a w ≤ limit
      → AllByRecursion (CanAdd a limit) (joined v.entries w.entries)
  can_add_vectors limit within fits =
      can_add limit a v.entries w.entries hv.pairs hw.pairs within ((weight_tested limit).0 fits)

  -- the sums along the walk are the entries of the sum of the vectors
  pub sum_of_vectors : combined (added a) (joined v.entries w.entries) ≡ (scaled_sum v a w).entries
  sum_of_vectors = sum_entries v.degree a v.entries w.entries hv.vector second

  -- the sums along the walk may be held as a vector
  pub held_sum : (sums : Entries) → sums ≡ combined (added a) (joined v.entries w.entries) → ArePairs sums
      → IsHeld (held_as v.degree sums)
  held_sum sums e pairs = record {
    vector = subst (IsVector v.degree) (sym (e ∙ sum_of_vectors))
        (IsVector-entries v.degree (plus_scaled (vector_of v.entries) a (vector_of w.entries))
        (λ lambda. IsLaurent-plus (vector_of v.entries lambda) (times a (vector_of w.entries lambda))));
    pairs = pairs;
  }
