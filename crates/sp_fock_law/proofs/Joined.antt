-- The walk along two lists of entries meets each partition of either once, with what both vectors have there.
use Rattle.std.proofs.Common.{
  ◌≡◌,
  ℕ,
  ◌≤◌,
  ◌+◌,
  ◌*◌,
  ◌↔◌,
  Bool,
  true,
  false,
  cond,
  ◌||◌,
  List,
  [],
  ◌∷◌,
  map,
  filter,
  refl,
  sym,
  ◌∙◌,
  ap,
  ap₂,
  subst,
  arith,
}
use Rattle.std.specs.List.{AllByRecursion}
use Rattle.std.specs.Ordering.{match_ordering}
use Rattle.sp_defs.specs.Partition.{partitions, Ascending, IsEarlier}
use Rattle.sp_defs.specs.Laurent.{Laurent, size}
use Rattle.sp_defs.specs.Power.{Vector, Entries, vector_of, entries, IsVector}
use Rattle.sp_lists.proofs.Elements.{all_filter, all_map, map_all}
use Rattle.sp_lists.proofs.Greatest.{greatest_exactly}
use Rattle.sp_shapes.proofs.Order.{later_than, equal_self, all_mono}
use Rattle.sp_shapes.proofs.Listing.{partitions_ascend}
use Rattle.sp_fock_law.specs.Joined.{Joint, joint, joined, joined_from, is_nonzero, combined}
use Rattle.sp_fock_law.specs.Addition.{addition_weight}
use Rattle.sp_fock_law.proofs.Vectors.{AllLater, entries_at, all_at, nonzero_or_nil, entries-vector_of}

-- ---- one step of the walk

-- an entry of the first list before all of the second comes alone
pub joined-first : (kappa : List ℕ) (p : Laurent) (es fs : Entries) → AllLater kappa fs
    → joined ((kappa, p) ∷ es) fs ≡ joint kappa p [] ∷ joined es fs
unfolding joined joined_from
joined-first kappa p es [] h = refl
joined-first kappa p es (f ∷ fs) (h, hs) =
    ap (λ o. match_ordering o (joint kappa p [] ∷ joined es (f ∷ fs)) (joint kappa p f.1 ∷ joined es fs)
    (joint f.0 [] f.1 ∷ joined_from (kappa, p) (joined es) fs)) h

-- an entry of the second list before all of the first comes alone
pub joined-second : (kappa : List ℕ) (q : Laurent) (es fs : Entries) → AllLater kappa es
    → joined es ((kappa, q) ∷ fs) ≡ joint kappa [] q ∷ joined es fs
unfolding joined joined_from
joined-second kappa q [] fs h = refl
joined-second kappa q (e ∷ es) fs (h, hs) =
    ap (λ o. match_ordering o (joint e.0 e.1 [] ∷ joined es ((kappa, q) ∷ fs)) (joint e.0 e.1 q ∷ joined es fs)
    (joint kappa [] q ∷ joined_from e (joined es) fs)) (later_than kappa e.0 h)

-- entries at one partition come together
pub joined-both : (kappa : List ℕ) (p q : Laurent) (es fs : Entries)
    → joined ((kappa, p) ∷ es) ((kappa, q) ∷ fs) ≡ joint kappa p q ∷ joined es fs
unfolding joined joined_from
joined-both kappa p q es fs =
    ap (λ o. match_ordering o (joint kappa p [] ∷ joined es ((kappa, q) ∷ fs)) (joint kappa p q ∷ joined es fs)
    (joint kappa [] q ∷ joined_from (kappa, p) (joined es) fs)) (equal_self kappa)

-- ---- the whole walk

abbrev occurs_in : Joint → Bool
occurs_in j = is_nonzero j.first || is_nonzero j.second

-- the walk over the partitions of a list
abbrev pub joints_at : List (List ℕ) → Vector → Vector → List Joint
joints_at xs v w = filter (λ j. is_nonzero j.first || is_nonzero j.second) (map (λ x. joint x (v x) (w x)) xs)

later_at : (x : List ℕ) (xs : List (List ℕ)) (w : Vector) → AllByRecursion (IsEarlier x) xs
    → AllLater x (entries_at xs w)
later_at x xs w h =
    all_at (λ t. IsEarlier x t.0) xs w (all_mono (IsEarlier x) (λ y. (w y ≡ [] → ⊥) → IsEarlier x y) xs (λ y l _. l) h)

joined-at : (xs : List (List ℕ)) (v w : Vector) → Ascending xs
    → joined (entries_at xs v) (entries_at xs w) ≡ joints_at xs v w
unfolding joined
joined-at [] v w h = refl
joined-at (x ∷ xs) v w (h, hs) = by_cases (is_nonzero (v x)) (is_nonzero (w x)) refl refl (joined-at xs v w hs)
  where
    es : Entries
    es = entries_at xs v

    fs : Entries
    fs = entries_at xs w

    js : List Joint
    js = joints_at xs v w

    by_cases : (b c : Bool) → is_nonzero (v x) ≡ b → is_nonzero (w x) ≡ c → joined es fs ≡ js
        → joined (cond b ((x, v x) ∷ es) es) (cond c ((x, w x) ∷ fs) fs) ≡ cond (b || c) (joint x (v x) (w x) ∷ js) js
    by_cases true true p q more = joined-both x (v x) (w x) es fs ∙ ap (λ r. joint x (v x) (w x) ∷ r) more
    by_cases true false p q more =
        joined-first x (v x) es fs (later_at x xs w h) ∙ ap₂ (λ z r. joint x (v x) z ∷ r)
        (sym (nonzero_or_nil (w x) q)) more
    by_cases false true p q more =
        joined-second x (w x) es fs (later_at x xs v h) ∙ ap₂ (λ z r. joint x z (w x) ∷ r)
        (sym (nonzero_or_nil (v x) p)) more
    by_cases false false p q more = more

-- the walk along the entries of two vectors of degree n
pub joined-partitions : (n : ℕ) (es fs : Entries) → IsVector n es → IsVector n fs
    → joined es fs ≡ joints_at (partitions n) (vector_of es) (vector_of fs)
joined-partitions n es fs he hf =
    ap₂ (λ x y. joined x y) (sym (entries-vector_of n es he)) (sym (entries-vector_of n fs hf))
    ∙ joined-at (partitions n) (vector_of es) (vector_of fs) (partitions_ascend n)

-- ---- what is computed along the walk

combined-at : (h : Laurent → Laurent → Laurent) → h [] [] ≡ [] → (xs : List (List ℕ)) (v w : Vector)
    → combined h (joints_at xs v w) ≡ entries_at xs (λ x. h (v x) (w x))
combined-at h z [] v w = refl
combined-at h z (x ∷ xs) v w = by_cases (is_nonzero (v x)) (is_nonzero (w x)) refl refl (combined-at h z xs v w)
  where
    js : List Joint
    js = joints_at xs v w

    rest : Entries
    rest = entries_at xs (λ x. h (v x) (w x))

    kept : combined h js ≡ rest → combined h (joint x (v x) (w x) ∷ js) ≡ entries_at (x ∷ xs) (λ x. h (v x) (w x))
    kept more = ap (λ r. cond (is_nonzero (h (v x) (w x))) ((x, h (v x) (w x)) ∷ r) r) more

    by_cases : (b c : Bool) → is_nonzero (v x) ≡ b → is_nonzero (w x) ≡ c → combined h js ≡ rest
        → combined h (cond (b || c) (joint x (v x) (w x) ∷ js) js) ≡ entries_at (x ∷ xs) (λ x. h (v x) (w x))
    by_cases true c p q more = kept more
    by_cases false true p q more = kept more
    by_cases false false p q more =
        let nought : h (v x) (w x) ≡ [] = ap₂ h (nonzero_or_nil (v x) p) (nonzero_or_nil (w x) q) ∙ z in
        more ∙ ap (λ r. cond (is_nonzero r) ((x, r) ∷ rest) rest) (sym nought)

-- two vectors combined at each partition
pub combined-entries : (n : ℕ) (h : Laurent → Laurent → Laurent) → h [] [] ≡ [] → (es fs : Entries) → IsVector n es
    → IsVector n fs
    → combined h (joined es fs) ≡ entries n (λ lambda. h (vector_of es lambda) (vector_of fs lambda))
combined-entries n h z es fs he hf =
    ap (combined h) (joined-partitions n es fs he hf) ∙ combined-at h z (partitions n) (vector_of es) (vector_of fs)

-- a bound that holds where both are 0 holds along the walk exactly where it holds at each partition
bounded_at : (f : Laurent → Laurent → ℕ) (limit : ℕ) → f [] [] ≤ limit → (xs : List (List ℕ)) (v w : Vector)
    → AllByRecursion (λ j. f j.first j.second ≤ limit) (joints_at xs v w)
    → AllByRecursion (λ x. f (v x) (w x) ≤ limit) xs
bounded_at f limit z [] v w h = tt
bounded_at f limit z (x ∷ xs) v w h =
    by_cases (is_nonzero (v x)) (is_nonzero (w x)) refl refl h (bounded_at f limit z xs v w)
  where
    js : List Joint
    js = joints_at xs v w

    Bounded : List Joint → Type 0
    Bounded js = AllByRecursion (λ j. f j.first j.second ≤ limit) js

    by_cases : (b c : Bool) → is_nonzero (v x) ≡ b → is_nonzero (w x) ≡ c
        → Bounded (cond (b || c) (joint x (v x) (w x) ∷ js) js)
        → (Bounded js → AllByRecursion (λ x. f (v x) (w x) ≤ limit) xs)
        → AllByRecursion (λ x. f (v x) (w x) ≤ limit) (x ∷ xs)
    by_cases true c p q (k, ks) more = (k, more ks)
    by_cases false true p q (k, ks) more = (k, more ks)
    by_cases false false p q ks more =
        (subst (λ n. n ≤ limit) (sym (ap₂ f (nonzero_or_nil (v x) p) (nonzero_or_nil (w x) q))) z, more ks)

at_bounded : (f : Laurent → Laurent → ℕ) (limit : ℕ) (xs : List (List ℕ)) (v w : Vector)
    → AllByRecursion (λ x. f (v x) (w x) ≤ limit) xs
    → AllByRecursion (λ j. f j.first j.second ≤ limit) (joints_at xs v w)
at_bounded f limit xs v w h =
    all_filter (λ j. f j.first j.second ≤ limit) occurs_in (map (λ x. joint x (v x) (w x)) xs)
    (all_map (λ j. occurs_in j ≡ true → f j.first j.second ≤ limit) (λ x. joint x (v x) (w x)) xs
    (all_mono (λ x. f (v x) (w x) ≤ limit) (λ x. occurs_in (joint x (v x) (w x)) ≡ true → f (v x) (w x) ≤ limit) xs
    (λ x k _. k) h))

-- ---- the weight of an addition

-- the sums of the sizes along the walk are within the limit exactly where the weight is
pub weight_within : (n limit : ℕ) (a : Laurent) (es fs : Entries) → IsVector n es → IsVector n fs
    → (addition_weight n (vector_of es) a (vector_of fs) ≤ limit) ↔ AllByRecursion
    (λ j. size j.first + size a * size j.second ≤ limit) (joined es fs)
weight_within n limit a es fs he hf = (along, everywhere)
  where
    f : Laurent → Laurent → ℕ
    f p q = size p + size a * size q

    xs : List (List ℕ)
    xs = partitions n

    v : Vector
    v = vector_of es

    w : Vector
    w = vector_of fs

    weights : List ℕ
    weights = map (λ x. f (v x) (w x)) xs

    Within : List Joint → Type 0
    Within js = AllByRecursion (λ j. f j.first j.second ≤ limit) js

    walk : joined es fs ≡ joints_at xs v w
    walk = joined-partitions n es fs he hf

    along : addition_weight n v a w ≤ limit → Within (joined es fs)
    along h =
        let all = map_all (λ x. x ≤ limit) (λ x. f (v x) (w x)) xs ((greatest_exactly limit weights).0 h) in
        subst Within (sym walk) (at_bounded f limit xs v w all)

    everywhere : Within (joined es fs) → addition_weight n v a w ≤ limit
    everywhere h =
        let all = bounded_at f limit (omega arith) xs v w (subst Within walk h) in
        (greatest_exactly limit weights).1 (all_map (λ x. x ≤ limit) (λ x. f (v x) (w x)) xs all)
