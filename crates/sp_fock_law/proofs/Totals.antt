-- Totals as the entries of constants, so that what is known of vectors is known of totals.
use Rattle.std.proofs.Common.{◌≡◌, ◌≢◌, ℕ, zero, suc, ◌+◌, ◌*◌, ◌<◌, ◌≤◌, ◌↔◌, true, false, cond, List, [], ◌∷◌}
use Rattle.std.proofs.Common.{map, filter, length, get_or, pos, nat_lt, refl, sym, ◌∙◌, ap, ap₂, subst, arith, lt-ltb}
use Rattle.std.proofs.Common.{is_eq}
use Rattle.std.proofs.Math.ListN.{get_or-map}
use Rattle.std.proofs.lemmas.Int.{ints}
use Rattle.std.proofs.lemmas.List.{length-map}
use Rattle.std.proofs.lemmas.Simd.{map-map}
use Rattle.std.specs.List.{AllByRecursion}
use Rattle.sp_algebra.proofs.Canonical.{canonical-from}
use Rattle.sp_algebra.proofs.Coefficients.{IsLaurent-canonical}
use Rattle.sp_algebra.proofs.Sizes.{size-cons}
use Rattle.sp_defs.specs.Partition.{partitions, compare, Ascending, IsPartitionOf}
use Rattle.sp_defs.specs.Laurent.{Laurent, IsLaurent, collect, size}
use Rattle.sp_defs.specs.Power.{Entries, vector_of, entries, IsVector, greatest}
use Rattle.sp_lists.proofs.Elements.{all_every, all_map, map_all}
use Rattle.sp_lists.proofs.Maps.{map-filter}
use Rattle.sp_shapes.proofs.Order.{all_mono}
use Rattle.sp_fock_law.specs.Joined.{Joint, joined, is_nonzero}
use Rattle.sp_fock_law.specs.Tally.{Totals, total_of, totals, IsTotals, constant, constants}
use Rattle.sp_fock_law.proofs.Vectors.{IsVector-entries, IsLaurent-vector_of, vector_of-entries, entries-alike}
use Rattle.sp_fock_law.proofs.Vectors.{entries-vector_of}
use Rattle.sp_fock_law.proofs.Joined.{combined-entries, weight_within}
use Rattle.sp_fock_law.proofs.Places.{vector_of-at}

-- ---- constants

-- the size of a constant is the number
pub size-constant : (k : ℕ) → size (constant k) ≡ k
unfolding constant
size-constant zero = refl
size-constant (suc k) = size-cons (pos 0) (pos (suc k)) [] ∙ omega (arith, ints)

-- a constant is a polynomial
pub IsLaurent-constant : (k : ℕ) → IsLaurent (constant k)
unfolding constant collect
IsLaurent-constant zero = refl
IsLaurent-constant (suc k) =
    IsLaurent-canonical ((pos 0, pos (suc k)) ∷ []) ((λ e. omega (arith, ints, e)), (tt, tt))

is_nonzero-constant : (k : ℕ) → nat_lt 0 k ≡ is_nonzero (constant k)
unfolding constant
is_nonzero-constant zero = refl
is_nonzero-constant (suc k) = lt-ltb 0 (suc k) (omega arith)

-- equal constants are of equal numbers
pub constant_injective : (k m : ℕ) → constant k ≡ constant m → k ≡ m
constant_injective k m e = sym (size-constant k) ∙ ap size e ∙ size-constant m

positive_constant : (k : ℕ) → constant k ≢ [] → 0 < k
unfolding constant
positive_constant zero ne = absurd (ne refl)
positive_constant (suc k) ne = omega arith

-- ---- lists of totals

-- what the constants have at a partition is the constant of the total there
pub vector_of-constants : (ts : Totals) (lambda : List ℕ)
    → vector_of (constants ts) lambda ≡ constant (total_of ts lambda)
unfolding vector_of total_of constant
vector_of-constants [] lambda = refl
vector_of-constants ((kappa, t) ∷ ts) lambda =
    elim (is_eq (compare kappa lambda)) as
    (λ b. cond b (constant t) (vector_of (constants ts) lambda) ≡ constant (cond b t (total_of ts lambda))) [
      | true ↦ refl
      | false ↦ vector_of-constants ts lambda
    ]

size-vector_of : (ts : Totals) (lambda : List ℕ) → size (vector_of (constants ts) lambda) ≡ total_of ts lambda
size-vector_of ts lambda = ap size (vector_of-constants ts lambda) ∙ size-constant (total_of ts lambda)

constants_injective : (ts us : Totals) → constants ts ≡ constants us → ts ≡ us
constants_injective ts us e = sym (sizes-constants ts) ∙ ap (map (λ t. (t.0, size t.1))) e ∙ sizes-constants us
  where
    sizes-constants : (vs : Totals) → map (λ t. (t.0, size t.1)) (constants vs) ≡ vs
    sizes-constants [] = refl
    sizes-constants ((kappa, t) ∷ vs) =
        ap₂ (λ k r. (kappa, k) ∷ r) (size-constant t) (sizes-constants vs)

-- without those that are 0, the constants are the entries that aren't 0
constants-filter : (ts : Totals)
    → constants (filter (λ t. nat_lt 0 t.1) ts) ≡ filter (λ t. is_nonzero t.1) (constants ts)
constants-filter ts =
    map-filter (λ t. (t.0, constant t.1)) (λ t. nat_lt 0 t.1) (λ t. is_nonzero t.1) ts
    (all_every (λ t. nat_lt 0 t.1 ≡ is_nonzero (constant t.1)) ts (λ t. is_nonzero-constant t.1))

constants-totals : (n : ℕ) (total : List ℕ → ℕ)
    → constants (totals n total) ≡ entries n (λ lambda. constant (total lambda))
constants-totals n total =
    constants-filter (map (λ x. (x, total x)) (partitions n))
    ∙ ap (filter (λ t. is_nonzero t.1))
    (map-map (λ t. (t.0, constant t.1)) (λ x. (x, total x)) (partitions n))

-- ---- finite maps of totals

-- the constants of totals are a vector
pub IsVector-constants : (n : ℕ) (ts : Totals) → IsTotals n ts → IsVector n (constants ts)
IsVector-constants n ts h = record {
  partitions_of = all_map (λ t. IsPartitionOf n t.0) (λ t. (t.0, constant t.1)) ts h.partitions_of;
  ascending = subst Ascending (sym (map-map (λ t. t.0) (λ t. (t.0, constant t.1)) ts)) h.ascending;
  polynomials =
      all_map (λ t. IsLaurent t.1 × (t.1 ≢ [])) (λ t. (t.0, constant t.1)) ts
      (all_mono (λ t. 0 < t.1) (λ t. IsLaurent (constant t.1) × (constant t.1 ≢ [])) ts
      (λ t lt. (IsLaurent-constant t.1, (λ e. positive t.1 lt (sym (size-constant t.1) ∙ ap size e)))) h.positive);
}
  where
    positive : (k : ℕ) → 0 < k → k ≡ 0 → ⊥
    positive k lt e = omega arith

-- the totals of a function have its value at each partition of the degree
pub total_of-totals : (n : ℕ) (total : List ℕ → ℕ) (lambda : List ℕ) → IsPartitionOf n lambda
    → total_of (totals n total) lambda ≡ total lambda
total_of-totals n total lambda h =
    constant_injective _ _
    (sym (vector_of-constants (totals n total) lambda) ∙ ap (λ es. vector_of es lambda) (constants-totals n total)
    ∙ vector_of-entries n (λ x. constant (total x)) lambda h)

-- the totals of a function are totals
pub IsTotals-totals : (n : ℕ) (total : List ℕ → ℕ) → IsTotals n (totals n total)
IsTotals-totals n total = record {
  partitions_of = map_all (λ t. IsPartitionOf n t.0) (λ t. (t.0, constant t.1)) (totals n total) vector.partitions_of;
  ascending = subst Ascending (map-map (λ t. t.0) (λ t. (t.0, constant t.1)) (totals n total)) vector.ascending;
  positive =
      all_mono (λ t. constant t.1 ≢ []) (λ t. 0 < t.1) (totals n total) (λ t ne. positive_constant t.1 ne)
      (map_all (λ t. t.1 ≢ []) (λ t. (t.0, constant t.1)) (totals n total)
      (all_mono (λ t. IsLaurent t.1 × (t.1 ≢ [])) (λ t. t.1 ≢ []) (constants (totals n total)) (λ t k. k.1)
      vector.polynomials));
}
  where
    vector : IsVector n (constants (totals n total))
    vector =
        subst (IsVector n) (sym (constants-totals n total))
        (IsVector-entries n (λ x. constant (total x)) (λ x. IsLaurent-constant (total x)))

-- ---- totals that grow

-- The totals along the walk with a vector, grown by a multiple of its sizes.
pub grown-totals : (n factor : ℕ) (ts : Totals) (es : Entries) → IsTotals n ts → IsVector n es
    → filter (λ t. nat_lt 0 t.1) (map (λ j. (j.at, size j.first + factor * size j.second)) (joined (constants ts) es))
    ≡ totals n (λ lambda. total_of ts lambda + factor * size (vector_of es lambda))
unfolding constant
grown-totals n factor ts es ht he =
    constants_injective _ _
    (constants-filter (map (λ j. (j.at, size j.first + factor * size j.second)) js)
    ∙ ap (filter (λ t. is_nonzero t.1))
    (map-map (λ t. (t.0, constant t.1)) (λ j. (j.at, size j.first + factor * size j.second)) js)
    ∙ combined-entries n grown (ap constant (zero_product factor)) (constants ts) es (IsVector-constants n ts ht) he
    ∙ entries-alike n _ _ (λ lambda _. ap (λ k. constant (k + factor * size (vector_of es lambda)))
    (size-vector_of ts lambda))
    ∙ sym (constants-totals n (λ lambda. total_of ts lambda + factor * size (vector_of es lambda))))
  where
    js : List Joint
    js = joined (constants ts) es

    grown : Laurent → Laurent → Laurent
    grown p q = constant (size p + factor * size q)

    zero_product : (k : ℕ) → 0 + k * 0 ≡ 0
    zero_product k = omega arith

-- no total grows past the limit exactly where the greatest doesn't
pub growth_within : (n limit : ℕ) (a : Laurent) (ts : Totals) (es : Entries) → IsTotals n ts → IsVector n es
    → (greatest (map (λ lambda. total_of ts lambda + size a * size (vector_of es lambda)) (partitions n)) ≤ limit)
    ↔ AllByRecursion (λ j. size j.first + size a * size j.second ≤ limit) (joined (constants ts) es)
growth_within n limit a ts es ht he =
    subst (λ xs. (greatest xs ≤ limit) ↔ AllByRecursion (λ j. size j.first + size a * size j.second ≤ limit)
    (joined (constants ts) es)) (map_alike (partitions n))
    (weight_within n limit a (constants ts) es (IsVector-constants n ts ht) he)
  where
    map_alike : (xs : List (List ℕ))
        → map (λ x. size (vector_of (constants ts) x) + size a * size (vector_of es x)) xs
        ≡ map (λ x. total_of ts x + size a * size (vector_of es x)) xs
    map_alike [] = refl
    map_alike (x ∷ xs) =
        ap₂ (λ k r. (k + size a * size (vector_of es x)) ∷ r) (size-vector_of ts x) (map_alike xs)

-- ---- sizes as totals

size_positive : (p : Laurent) → IsLaurent p → is_nonzero p ≡ nat_lt 0 (size p)
size_positive [] h = refl
size_positive ((k, c) ∷ p) h =
    let some : 0 < length ((k, c) ∷ p) = omega arith in
    let ne : c ≢ pos 0 = (canonical-from ((k, c) ∷ p) h).0 in
    let lt : 0 < size ((k, c) ∷ p) = omega (arith, ints, size-cons k c p) in
    lt-ltb 0 (length ((k, c) ∷ p)) some ∙ sym (lt-ltb 0 (size ((k, c) ∷ p)) lt)

-- the sizes of the entries are the totals of the sizes of the vector
pub sizes-totals : (n : ℕ) (es : Entries) → IsVector n es
    → map (λ t. (t.0, size t.1)) es ≡ totals n (λ lambda. size (vector_of es lambda))
sizes-totals n es h =
    ap (map (λ t. (t.0, size t.1))) (sym (entries-vector_of n es h))
    ∙ map-filter (λ t. (t.0, size t.1)) (λ t. is_nonzero t.1) (λ t. nat_lt 0 t.1) all
    (all_map (λ t. is_nonzero t.1 ≡ nat_lt 0 (size t.1)) (λ x. (x, vector_of es x)) (partitions n)
    (all_every (λ x. is_nonzero (vector_of es x) ≡ nat_lt 0 (size (vector_of es x))) (partitions n)
    (λ x. size_positive (vector_of es x) (IsLaurent-vector_of es h.polynomials x))))
    ∙ ap (filter (λ t. nat_lt 0 t.1))
    (map-map (λ t. (t.0, size t.1)) (λ x. (x, vector_of es x)) (partitions n))
  where
    all : Entries
    all = map (λ x. (x, vector_of es x)) (partitions n)

-- ---- a search for a total

-- the total at the partition of a place is that of the place
pub total_of-at : (n : ℕ) (ts : Totals) → IsTotals n ts → (i : ℕ) (d : List ℕ × ℕ) → i < length ts
    → total_of ts (get_or ts i d).0 ≡ (get_or ts i d).1
total_of-at n ts h i d lt =
    constant_injective _ _
    (sym (vector_of-constants ts (get_or ts i d).0)
    ∙ ap (λ t. vector_of (constants ts) t.0) (sym place)
    ∙ vector_of-at (constants ts) (IsVector-constants n ts h).ascending i (d.0, constant d.1)
    (subst (λ k. i < k) (sym (length-map ts (λ t. (t.0, constant t.1)))) lt)
    ∙ ap (λ t. t.1) place)
  where
    place : get_or (constants ts) i (d.0, constant d.1) ≡ ((get_or ts i d).0, constant (get_or ts i d).1)
    place = get_or-map (λ t. (t.0, constant t.1)) ts i d

-- the total is 0 at a partition that no place has
pub total_of-absent : (ts : Totals) (lambda : List ℕ) (d : List ℕ × ℕ)
    → ((i : ℕ) → i < length ts → is_eq (compare (get_or ts i d).0 lambda) ≡ false) → total_of ts lambda ≡ 0
unfolding total_of
total_of-absent [] lambda d apart = refl
total_of-absent ((kappa, t) ∷ ts) lambda d apart =
    ap (λ b. cond b t (total_of ts lambda)) (apart zero (omega arith))
    ∙ total_of-absent ts lambda d (λ i lt. apart (suc i) (omega arith))
