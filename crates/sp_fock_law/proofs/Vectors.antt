-- A list of entries and its vector determine each other.
use Rattle.std.proofs.Common.{
  ◌≡◌,
  ◌≢◌,
  ℕ,
  ◌<◌,
  true,
  false,
  cond,
  List,
  [],
  ◌∷◌,
  map,
  filter,
  length,
  refl,
  sym,
  ◌∙◌,
  ap,
  ap₂,
  subst,
  arith,
  ltb-true,
  ltb-false,
  ◌≤◌,
  Less,
  Equal,
  Greater,
  is_eq,
  inl,
  inr,
}
use Rattle.std.specs.List.{AllByRecursion}
use Rattle.sp_defs.specs.Partition.{compare, partitions, Ascending, IsPartitionOf, IsEarlier}
use Rattle.sp_defs.specs.Laurent.{Laurent, IsLaurent, collect}
use Rattle.sp_defs.specs.Power.{Vector, Entries, vector_of, entries, IsVector}
use Rattle.sp_lists.proofs.Elements.{all_every, all_filter, all_map, map_all}
use Rattle.sp_lists.proofs.Occurrence.{at_occurs}
use Rattle.sp_shapes.proofs.Order.{earlier_than, later_than, less_trans, equal_self, same_lists, all_mono}
use Rattle.sp_shapes.proofs.Listing.{Occurs, all_partitions, each_partition, partitions_ascend, Ascending-filter}
use Rattle.sp_fock_law.specs.Joined.{is_nonzero}

-- Every entry is later than the partition.
abbrev pub AllLater : {X : Type 0} → List ℕ → List (List ℕ × X) → Type 0
AllLater kappa es = AllByRecursion (λ t. IsEarlier kappa t.0) es

-- The partitions of the entries ascend strictly.
abbrev pub IsAscending : {X : Type 0} → List (List ℕ × X) → Type 0
IsAscending es = Ascending (map (λ t. t.0) es)

-- the entries behind the first are later
pub later_tail : {X : Type 0} (kappa : List ℕ) (p : X) (es : List (List ℕ × X)) → IsAscending ((kappa, p) ∷ es)
    → AllLater kappa es
later_tail kappa p es h = map_all (IsEarlier kappa) (λ t. t.0) es h.0

-- what is later than a partition is later than any earlier one
pub all_later : (mu kappa : List ℕ) (es : Entries) → IsEarlier mu kappa → AllLater kappa es → AllLater mu es
all_later mu kappa es e h =
    all_mono (λ t. IsEarlier kappa t.0) (λ t. IsEarlier mu t.0) es (λ t l. less_trans mu kappa t.0 e l) h

-- ---- looking up

-- the vector has at the first partition what the first entry has
pub vector_of-head : (kappa : List ℕ) (p : Laurent) (es : Entries) → vector_of ((kappa, p) ∷ es) kappa ≡ p
unfolding vector_of
vector_of-head kappa p es = ap (λ o. cond (is_eq o) p (vector_of es kappa)) (equal_self kappa)

-- at any other partition the first entry does not count
pub vector_of-other : (kappa lambda : List ℕ) (p : Laurent) (es : Entries) → is_eq (compare kappa lambda) ≡ false
    → vector_of ((kappa, p) ∷ es) lambda ≡ vector_of es lambda
unfolding vector_of
vector_of-other kappa lambda p es e = ap (λ b. cond b p (vector_of es lambda)) e

-- the vector is 0 at a partition before all entries
pub vector_of-later : (mu : List ℕ) (es : Entries) → AllLater mu es → vector_of es mu ≡ []
unfolding vector_of
vector_of-later mu [] h = refl
vector_of-later mu ((kappa, p) ∷ es) (h, hs) =
    vector_of-other kappa mu p es (ap is_eq (later_than mu kappa h)) ∙ vector_of-later mu es hs

-- what holds of each entry's polynomial, and of 0, holds at each partition
pub vector_of-all : (P : Laurent → Type 0) → P [] → (es : Entries) → AllByRecursion (λ t. P t.1) es → (lambda : List ℕ)
    → P (vector_of es lambda)
unfolding vector_of
vector_of-all P nought [] h lambda = nought
vector_of-all P nought ((kappa, p) ∷ es) (h, hs) lambda =
    elim (is_eq (compare kappa lambda)) as (λ b. P (cond b p (vector_of es lambda))) [
      | true ↦ h
      | false ↦ vector_of-all P nought es hs lambda
    ]

-- the vector has a polynomial at each partition where the entries do
pub IsLaurent-vector_of : (es : Entries) → AllByRecursion (λ t. IsLaurent t.1 × (t.1 ≢ [])) es → (lambda : List ℕ)
    → IsLaurent (vector_of es lambda)
unfolding collect
IsLaurent-vector_of es h lambda =
    vector_of-all IsLaurent refl es
    (all_mono (λ t. IsLaurent t.1 × (t.1 ≢ [])) (λ t. IsLaurent t.1) es (λ t k. k.0) h) lambda

-- ---- extensionality

-- the entries behind the first are a vector
pub IsVector-tail : (n : ℕ) (t : List ℕ × Laurent) (es : Entries) → IsVector n (t ∷ es) → IsVector n es
IsVector-tail n t es h =
    record { partitions_of = h.partitions_of.1; ascending = h.ascending.1; polynomials = h.polynomials.1 }

abbrev AreAlike : ℕ → Entries → Entries → Type 0
AreAlike n es fs = (lambda : List ℕ) → IsPartitionOf n lambda → vector_of es lambda ≡ vector_of fs lambda

-- an entry at a partition before all of the second list is none of its vector
unmatched : (n : ℕ) (kappa : List ℕ) (p : Laurent) (es fs : Entries) → IsVector n ((kappa, p) ∷ es)
    → AllLater kappa fs → vector_of ((kappa, p) ∷ es) kappa ≡ vector_of fs kappa → ⊥
unmatched n kappa p es fs h later e =
    h.polynomials.0.1 (sym (vector_of-head kappa p es) ∙ e ∙ vector_of-later kappa fs later)

tails_alike : (n : ℕ) (kappa : List ℕ) (p q : Laurent) (es fs : Entries) → AllLater kappa es → AllLater kappa fs
    → AreAlike n ((kappa, p) ∷ es) ((kappa, q) ∷ fs) → AreAlike n es fs
tails_alike n kappa p q es fs he hf e lambda h =
    elim (compare kappa lambda) as (λ o. compare kappa lambda ≡ o → vector_of es lambda ≡ vector_of fs lambda) [
      | Less ↦ λ o. apart (ap is_eq o)
      | Equal ↦ λ o. let s : kappa ≡ lambda = same_lists kappa lambda o in
          subst (λ mu. vector_of es mu ≡ vector_of fs mu) s
          (vector_of-later kappa es he ∙ sym (vector_of-later kappa fs hf))
      | Greater ↦ λ o. apart (ap is_eq o)
    ] refl
  where
    apart : is_eq (compare kappa lambda) ≡ false → vector_of es lambda ≡ vector_of fs lambda
    apart o = sym (vector_of-other kappa lambda p es o) ∙ e lambda h ∙ vector_of-other kappa lambda q fs o

-- vectors that are alike at each partition of the degree have the same entries
pub same_entries : (n : ℕ) (es fs : Entries) → IsVector n es → IsVector n fs → AreAlike n es fs → es ≡ fs
same_entries n [] [] he hf e = refl
same_entries n [] ((lambda, q) ∷ fs) he hf e =
    absurd (unmatched n lambda q fs [] hf tt (sym (e lambda hf.partitions_of.0)))
same_entries n ((kappa, p) ∷ es) [] he hf e = absurd (unmatched n kappa p es [] he tt (e kappa he.partitions_of.0))
same_entries n ((kappa, p) ∷ es) ((lambda, q) ∷ fs) he hf e =
    elim (compare kappa lambda) as (λ o. compare kappa lambda ≡ o → (kappa, p) ∷ es ≡ (lambda, q) ∷ fs) [
      | Less ↦ λ o. absurd
          (unmatched n kappa p es ((lambda, q) ∷ fs) he (o, all_later kappa lambda fs o later_f)
          (e kappa he.partitions_of.0))
      | Equal ↦ λ o.
          let s : kappa ≡ lambda = same_lists kappa lambda o in
          let w : p ≡ q = sym (vector_of-head kappa p es) ∙ e kappa he.partitions_of.0 ∙ ap
          (vector_of ((lambda, q) ∷ fs)) s ∙ vector_of-head lambda q fs in
          let es_later : AllLater lambda es = subst (λ mu. AllLater mu es) s later_e in
          ap₂ (λ t r. t ∷ r) (ap₂ (λ x y. (x, y)) s w)
          (same_entries n es fs (IsVector-tail n (kappa, p) es he) (IsVector-tail n (lambda, q) fs hf)
          (tails_alike n lambda p q es fs es_later later_f
          (subst (λ mu. AreAlike n ((mu, p) ∷ es) ((lambda, q) ∷ fs)) s e)))
      | Greater ↦ λ o.
          let l : IsEarlier lambda kappa = earlier_than kappa lambda o in
          absurd (unmatched n lambda q fs ((kappa, p) ∷ es) hf (l, all_later lambda kappa es l later_e)
          (sym (e lambda hf.partitions_of.0)))
    ] refl
  where
    later_e : AllLater kappa es
    later_e = later_tail kappa p es he.ascending

    later_f : AllLater lambda fs
    later_f = later_tail lambda q fs hf.ascending

-- ---- the entries of a vector

-- The entries at these partitions: `entries n w` where they are all partitions of n.
abbrev pub entries_at : List (List ℕ) → Vector → Entries
entries_at xs w = filter (λ t. is_nonzero t.1) (map (λ parts. (parts, w parts)) xs)

-- a polynomial that fails the test is 0
pub nonzero_or_nil : (p : Laurent) → is_nonzero p ≡ false → p ≡ []
nonzero_or_nil [] e = refl
nonzero_or_nil (t ∷ p) e = absurd (let z : length (t ∷ p) ≤ 0 = ltb-false 0 (length (t ∷ p)) e in omega arith)

is_nonzero-ne : (p : Laurent) → is_nonzero p ≡ true → p ≢ []
is_nonzero-ne p e s =
    let z : 0 < length p = ltb-true 0 (length p) e in let y : length p ≡ 0 = ap length s in omega arith

partitions_at : (xs : List (List ℕ)) (w : Vector) → map (λ t. t.0) (entries_at xs w) ≡ filter (λ x. is_nonzero (w x)) xs
partitions_at [] w = refl
partitions_at (x ∷ xs) w =
    elim (is_nonzero (w x)) as
    (λ b. map (λ t. t.0) (cond b ((x, w x) ∷ entries_at xs w) (entries_at xs w)) ≡ cond b
    (x ∷ filter (λ y. is_nonzero (w y)) xs) (filter (λ y. is_nonzero (w y)) xs)) [
      | true ↦ ap (λ r. x ∷ r) (partitions_at xs w)
      | false ↦ partitions_at xs w
    ]

-- what holds of each partition of a list holds of the entries there that are kept
pub all_at : (P : List ℕ × Laurent → Type 0) (xs : List (List ℕ)) (w : Vector)
    → AllByRecursion (λ x. (w x ≢ []) → P (x, w x)) xs → AllByRecursion P (entries_at xs w)
all_at P xs w h =
    all_filter P (λ t. is_nonzero t.1) (map (λ x. (x, w x)) xs)
    (all_map (λ t. is_nonzero t.1 ≡ true → P t) (λ x. (x, w x)) xs
    (all_mono (λ x. (w x ≢ []) → P (x, w x)) (λ x. is_nonzero (w x) ≡ true → P (x, w x)) xs
    (λ x f e. f (is_nonzero-ne (w x) e)) h))

-- the entries at ascending partitions ascend
pub ascending_at : (xs : List (List ℕ)) (w : Vector) → Ascending xs → IsAscending (entries_at xs w)
ascending_at xs w h = subst Ascending (sym (partitions_at xs w)) (Ascending-filter (λ x. is_nonzero (w x)) xs h)

-- the entries at some partitions have the vector's values at these
pub vector_of-entries_at : (xs : List (List ℕ)) (w : Vector) (lambda : List ℕ) → Ascending xs → Occurs lambda xs
    → vector_of (entries_at xs w) lambda ≡ w lambda
vector_of-entries_at [] w lambda h o = absurd o
vector_of-entries_at (x ∷ xs) w lambda (h, hs) (inl s) =
    subst (λ mu. vector_of (entries_at (x ∷ xs) w) mu ≡ w mu) (sym s)
    (elim (is_nonzero (w x)) as
    (λ b. is_nonzero (w x) ≡ b → vector_of (cond b ((x, w x) ∷ entries_at xs w) (entries_at xs w)) x ≡ w x) [
      | true ↦ λ e. vector_of-head x (w x) (entries_at xs w)
      | false ↦ λ e. vector_of-later x (entries_at xs w) later ∙ sym (nonzero_or_nil (w x) e)
    ] refl)
  where
    later : AllLater x (entries_at xs w)
    later =
        all_at (λ t. IsEarlier x t.0) xs w (all_mono (IsEarlier x) (λ y. (w y ≢ []) → IsEarlier x y) xs (λ y l _. l) h)
vector_of-entries_at (x ∷ xs) w lambda (h, hs) (inr o) =
    elim (is_nonzero (w x)) as
    (λ b. vector_of (cond b ((x, w x) ∷ entries_at xs w) (entries_at xs w)) lambda ≡ w lambda) [
      | true ↦ vector_of-other x lambda (w x) (entries_at xs w) (ap is_eq (at_occurs (IsEarlier x) lambda xs o h))
          ∙ vector_of-entries_at xs w lambda hs o
      | false ↦ vector_of-entries_at xs w lambda hs o
    ]

-- the entries of a vector of polynomials are a vector
pub IsVector-entries : (n : ℕ) (w : Vector) → ((lambda : List ℕ) → IsLaurent (w lambda)) → IsVector n (entries n w)
IsVector-entries n w h = record {
  partitions_of =
      all_at (λ t. IsPartitionOf n t.0) (partitions n) w
      (all_mono (IsPartitionOf n) (λ x. (w x ≢ []) → IsPartitionOf n x) (partitions n) (λ x k _. k) (all_partitions n));
  ascending = ascending_at (partitions n) w (partitions_ascend n);
  polynomials =
      all_at (λ t. IsLaurent t.1 × (t.1 ≢ [])) (partitions n) w
      (all_every (λ x. (w x ≢ []) → IsLaurent (w x) × (w x ≢ [])) (partitions n) (λ x ne. (h x, ne)));
}

-- the entries have the vector's value at each partition of the degree
pub vector_of-entries : (n : ℕ) (w : Vector) (lambda : List ℕ) → IsPartitionOf n lambda
    → vector_of (entries n w) lambda ≡ w lambda
vector_of-entries n w lambda h =
    vector_of-entries_at (partitions n) w lambda (partitions_ascend n) (each_partition n lambda h.partition h.total)

-- the entries of the vector that entries make are these entries
pub entries-vector_of : (n : ℕ) (es : Entries) → IsVector n es → entries n (vector_of es) ≡ es
entries-vector_of n es h =
    same_entries n (entries n (vector_of es)) es
    (IsVector-entries n (vector_of es) (IsLaurent-vector_of es h.polynomials)) h (vector_of-entries n (vector_of es))

-- vectors that agree at the partitions of n have the same entries
pub entries-alike : (n : ℕ) (v w : Vector) → ((lambda : List ℕ) → IsPartitionOf n lambda → v lambda ≡ w lambda)
    → entries n v ≡ entries n w
entries-alike n v w e =
    entries_at-alike (partitions n) (all_mono (IsPartitionOf n) (λ x. v x ≡ w x) (partitions n) e (all_partitions n))
  where
    entries_at-alike : (xs : List (List ℕ)) → AllByRecursion (λ x. v x ≡ w x) xs → entries_at xs v ≡ entries_at xs w
    entries_at-alike [] h = refl
    entries_at-alike (x ∷ xs) (h, hs) = ap₂ (λ p r. cond (is_nonzero p) ((x, p) ∷ r) r) h (entries_at-alike xs hs)
