-- What is listed for the shares of a column is their rows, where the columns before it are rows.
use Rattle.std.proofs.Common.{◌≡◌, ℕ, ◌+◌, ◌*◌, max, cond, List, [], ◌∷◌, ◌++◌, map, sum_by, refl}
use Rattle.std.proofs.Common.{sym, ◌∙◌, ap, ap₂, ◌⊎◌, inl, inr, Ordering, Less, Equal, Greater}
use Rattle.std.specs.List.{AllByRecursion}
use Rattle.std.specs.Ordering.{is_eq}
use Rattle.std.proofs.lemmas.List.Sums.{sum_by-cons}
use Rattle.sp_defs.specs.Partition.{degree, partitions, compare, IsPartitionOf}
use Rattle.sp_defs.specs.Laurent.{plus, times, size, sum_over}
use Rattle.sp_defs.specs.Power.{Vector, FockVector, vector_of, greatest}
use Rattle.sp_defs.specs.Ladder.{ladder_vector, ladder_weight}
use Rattle.sp_defs.specs.Row.{Factors, combination, regular_row}
use Rattle.sp_lists.proofs.Maps.{map-alike}
use Rattle.sp_lists.proofs.Places.{all_weaken}
use Rattle.sp_lists.proofs.Occurrence.{Occurs}
use Rattle.sp_shapes.proofs.Order.{same_lists, equal_self}
use Rattle.sp_shapes.proofs.Listing.{all_partitions}
use Rattle.sp_fock_law.proofs.Vectors.{vector_of-entries}
use Rattle.sp_column_law.specs.Column.{column_size, column_weight, IsRight}
use Rattle.sp_core.specs.declared.piece.Key.{Key}
use Rattle.sp_cert.specs.declared.certificate.Column.{Column}
use Rattle.sp_cert.specs.Verdict.{listed_in, IsRowColumn}

-- ---- families that agree at the partitions of n on the shares

-- two families give the same vectors at the partitions of the shares
abbrev pub Same : ℕ → (List ℕ → Vector) → (List ℕ → Vector) → Factors → Type 0
Same n L M fs = AllByRecursion (λ a. (lambda : List ℕ) → IsPartitionOf n lambda → L a.0 lambda ≡ M a.0 lambda) fs

sums_alike : (n : ℕ) (L M : List ℕ → Vector) (fs : Factors) → Same n L M fs → (lambda : List ℕ) →
    IsPartitionOf n lambda →
    sum_by (λ a. size a.1 * size (L a.0 lambda)) fs ≡ sum_by (λ a. size a.1 * size (M a.0 lambda)) fs
sums_alike n L M [] h lambda p = refl
sums_alike n L M (a ∷ fs) (h, hs) lambda p =
    sum_by-cons (λ a. size a.1 * size (L a.0 lambda)) a fs
    ∙ ap₂ (λ q m. size a.1 * size q + m) (h lambda p) (sums_alike n L M fs hs lambda p)
    ∙ sym (sum_by-cons (λ a. size a.1 * size (M a.0 lambda)) a fs)

combinations_alike : (n : ℕ) (L M : List ℕ → Vector) (fs : Factors) → Same n L M fs → (lambda : List ℕ) →
    IsPartitionOf n lambda → combination L fs lambda ≡ combination M fs lambda
unfolding combination sum_over
combinations_alike n L M [] h lambda p = refl
combinations_alike n L M ((nu, b) ∷ fs) (h, hs) lambda p =
    ap₂ (λ q r. plus (times b q) r) (h lambda p) (combinations_alike n L M fs hs lambda p)

-- the weight is the same
pub weights_alike : (e : ℕ) (mu : List ℕ) (L M : List ℕ → Vector) (fs : Factors) → Same (degree mu) L M fs →
    column_weight e L mu fs ≡ column_weight e M mu fs
unfolding column_weight
weights_alike e mu L M fs h =
    ap (λ xs. max (ladder_weight e mu) (greatest xs))
    (map-alike (column_size e L mu fs) (column_size e M mu fs) (partitions (degree mu))
    (all_weaken (IsPartitionOf (degree mu)) (λ x. column_size e L mu fs x ≡ column_size e M mu fs x)
    (partitions (degree mu))
    (λ x p. ap (λ m. size (ladder_vector e mu x) + m) (sums_alike (degree mu) L M fs h x p))
    (all_partitions (degree mu))))

-- and so is what is right
pub right_alike : (e : ℕ) (mu : List ℕ) (L M : List ℕ → Vector) (fs : Factors) (w : Vector) →
    Same (degree mu) L M fs → IsRight e L mu fs w → IsRight e M mu fs w
right_alike e mu L M fs w h right = record {
  at_mu = right.at_mu;
  elsewhere = right.elsewhere;
  invariant = right.invariant;
  sum = λ lambda p. right.sum lambda p ∙ ap (plus (w lambda)) (combinations_alike (degree mu) L M fs h lambda p);
}

-- the other way round
pub same_back : (n : ℕ) (L M : List ℕ → Vector) (fs : Factors) → Same n L M fs → Same n M L fs
same_back n L M fs h =
    all_weaken (λ a. (lambda : List ℕ) → IsPartitionOf n lambda → L a.0 lambda ≡ M a.0 lambda)
    (λ a. (lambda : List ℕ) → IsPartitionOf n lambda → M a.0 lambda ≡ L a.0 lambda) fs
    (λ a k lambda p. sym (k lambda p)) h

-- ---- columns that are rows

module _ (key : Key) where
  row_value : (c : Column) → IsRowColumn key c → (nu : List ℕ) → c.mu ≡ nu → (lambda : List ℕ) →
      IsPartitionOf key.degree lambda → vector_of c.entries.entries lambda ≡ regular_row key.e nu lambda
  row_value c h nu is lambda p =
      ap (λ (v : FockVector). vector_of v.entries lambda) h.row
      ∙ vector_of-entries key.degree (regular_row key.e c.mu) lambda p
      ∙ ap (λ m. regular_row key.e m lambda) is

  -- what is listed for a partition among them is its row
  pub listed_row : (cs others : List Column) (nu : List ℕ) → AllByRecursion (IsRowColumn key) cs →
      Occurs nu (map (λ c. c.mu) cs) → (lambda : List ℕ) → IsPartitionOf key.degree lambda →
      listed_in (cs ++ others) nu lambda ≡ regular_row key.e nu lambda
  unfolding listed_in
  listed_row [] others nu h o lambda p = absurd o
  listed_row (c ∷ cs) others nu (h, hs) o lambda p =
      tested (compare c.mu nu) refl (λ k. listed_row cs others nu hs k lambda p) o
    where
      tested : (o : Ordering) → compare c.mu nu ≡ o →
          (Occurs nu (map (λ c. c.mu) cs) → listed_in (cs ++ others) nu lambda ≡ regular_row key.e nu lambda) →
          (nu ≡ c.mu) ⊎ Occurs nu (map (λ c. c.mu) cs) →
          cond (is_eq o) (vector_of c.entries.entries lambda) (listed_in (cs ++ others) nu lambda)
          ≡ regular_row key.e nu lambda
      tested Equal e more k = row_value c h nu (same_lists c.mu nu e) lambda p
      tested Less e more (inr k) = more k
      tested Greater e more (inr k) = more k
      tested Less e more (inl s) =
          let w : Less ≡ Equal = sym e ∙ ap (compare c.mu) s ∙ equal_self c.mu in absurd (cc)
      tested Greater e more (inl s) =
          let w : Greater ≡ Equal = sym e ∙ ap (compare c.mu) s ∙ equal_self c.mu in absurd (cc)
