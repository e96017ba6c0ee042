-- Ascending lists of partitions: by what occurs in them, and by a sort.
use Rattle.std.proofs.Common.{◌≡◌, ℕ, zero, suc, ◌+◌, ◌<◌, ◌≤◌, Bool, true, false, cond, List, [], ◌∷◌, map, length}
use Rattle.std.proofs.Common.{get_or, refl, sym, ◌∙◌, ap, ap₂, subst, arith, inl, inr, count_by}
use Rattle.std.proofs.Common.{Less, Equal, Greater, is_eq, is_lt}
use Rattle.std.proofs.lemmas.List.{get_or-map, length-map}
use Rattle.std.proofs.lemmas.List.Elements.{All-from_recursion, recursion_from_All}
use Rattle.std.proofs.lemmas.List.Sorted.{All-permutation, Contains-permutation, ranks_by, sorted_far}
use Rattle.std.specs.List.{AllByRecursion}
use Rattle.std.specs.List.Sorted.{IsPermutation, IsSorted, IsSortedByKey}
use Rattle.std.specs.Ordering.{ordering_reverse}
use Rattle.std.specs.Cmp.{Equal-is}
use Rattle.sp_defs.specs.Partition.{compare, order, Ascending, IsEarlier, IsPartitionOf}
use Rattle.sp_lists.proofs.Comparing.{test_same}
use Rattle.sp_lists.proofs.Counts.{count-cons}
use Rattle.sp_lists.proofs.Elements.{count_zero}
use Rattle.sp_lists.proofs.Occurrence.{Occurs, all_occur, at_occurs, contains, occurs}
use Rattle.sp_lists.proofs.Places.{all_at, all_places, all_weaken}
use Rattle.sp_partition.specs.OrderLaws.{order_equal, order_one_degree, order_total}
use Rattle.sp_shapes.proofs.Order.{equal_self, later_than, less_trans, same_lists}

-- ---- tests of two lists of parts

-- Lists that pass the test are one.
pub same_test : (x y : List ℕ) → is_eq (compare x y) ≡ true → x ≡ y
same_test x y h = same_lists x y ((Equal-is (compare x y)).0 h)

itself : (x : List ℕ) → IsEarlier x x → ⊥
itself x h = let k : Less ≡ Equal = sym h ∙ equal_self x in cc

-- ---- elements in another order

-- What holds of each element of a list holds of each of a permutation.
pub all_permuted : {X : Type 0} (P : X → Type 0) (xs ys : List X) → IsPermutation xs ys → AllByRecursion P xs →
    AllByRecursion P ys
all_permuted P xs ys moved h =
    recursion_from_All P ys (All-permutation P xs ys moved (All-from_recursion P xs h))

-- What occurs in a list occurs in each permutation.
pub occurs_permuted : {X : Type 0} (x : X) (xs ys : List X) → IsPermutation xs ys → Occurs x xs → Occurs x ys
occurs_permuted x xs ys moved o = occurs x ys (Contains-permutation xs ys x moved (contains x xs o))

-- ---- one ascending list for each set of partitions

others_occur : (x y : List ℕ) → x ≡ y → (xs ys : List (List ℕ)) → AllByRecursion (IsEarlier x) xs →
    AllByRecursion (λ z. Occurs z (y ∷ ys)) xs → AllByRecursion (λ z. Occurs z ys) xs
others_occur x y same [] ys later among = tt
others_occur x y same (z ∷ xs) ys (l, later) (o, among) = (settle o, others_occur x y same xs ys later among)
  where
    settle : Occurs z (y ∷ ys) → Occurs z ys
    settle (inl e) = absurd (itself x (subst (IsEarlier x) (e ∙ sym same) l))
    settle (inr k) = k

-- Ascending lists in which the same partitions occur are one.
pub same_ascending : (xs ys : List (List ℕ)) → Ascending xs → Ascending ys →
    AllByRecursion (λ x. Occurs x ys) xs → AllByRecursion (λ y. Occurs y xs) ys → xs ≡ ys
same_ascending [] [] up ups f g = refl
same_ascending [] (y ∷ ys) up ups f (g, gs) = absurd g
same_ascending (x ∷ xs) [] up ups (f, fs) g = absurd f
same_ascending (x ∷ xs) (y ∷ ys) (later, up) (laters, ups) (f, fs) (g, gs) =
    ap₂ (λ z zs. z ∷ zs) same
    (same_ascending xs ys up ups (others_occur x y same xs ys later fs) (others_occur y x (sym same) ys xs laters gs))
  where
    first : Occurs x (y ∷ ys) → Occurs y (x ∷ xs) → x ≡ y
    first (inl e) k = e
    first (inr o) (inl e) = sym e
    first (inr o) (inr k) =
        absurd (itself x
        (less_trans x y x (at_occurs (IsEarlier x) y xs k later) (at_occurs (IsEarlier y) x ys o laters)))

    same : x ≡ y
    same = first f g

-- A list in which each partition is earlier than those in later places ascends.
pub ascending_places : (xs : List (List ℕ)) →
    ((i j : ℕ) → i < j → j < length xs → IsEarlier (get_or xs i []) (get_or xs j [])) → Ascending xs
ascending_places [] f = tt
ascending_places (x ∷ xs) f = (
  all_places (IsEarlier x) xs [] (λ j lt. f 0 (suc j) (omega arith) (omega arith)),
  ascending_places xs (λ i j lt within. f (suc i) (suc j) (omega arith) (omega arith)),
)

-- ---- how often an element stands in a list

-- The places in which a partition stands.
abbrev pub times : List ℕ → List (List ℕ) → ℕ
times x xs = count_by (λ y. is_eq (compare y x)) xs

-- In an ascending list no partition stands twice.
pub once : (xs : List (List ℕ)) → Ascending xs → (x : List ℕ) → times x xs ≤ 1
once [] up x = omega arith
once (y ∷ xs) (later, up) x = settle (is_eq (compare y x)) refl (once xs up x)
  where
    differ : y ≡ x → AllByRecursion (λ z. is_eq (compare z x) ≡ false) xs
    differ same =
        all_weaken (IsEarlier y) (λ z. is_eq (compare z x) ≡ false) xs
        (λ z l. ap is_eq (later_than x z (subst (λ w. IsEarlier w z) same l))) later

    settle : (b : Bool) → is_eq (compare y x) ≡ b → times x xs ≤ 1 → times x (y ∷ xs) ≤ 1
    settle true e few =
        subst (λ n. n ≤ 1)
        (sym (count-cons (λ z. is_eq (compare z x)) y xs
        ∙ ap₂ (λ b n. cond b 1 0 + n) e (count_zero (λ z. is_eq (compare z x)) xs (differ (same_test y x e)))))
        (omega arith)
    settle false e few =
        subst (λ n. n ≤ 1)
        (sym (count-cons (λ z. is_eq (compare z x)) y xs ∙ ap (λ b. cond b 1 0 + times x xs) e)) (omega arith)

module _ {X : Type 0} (p : X → Bool) where
  counted_once : (xs : List X) (i : ℕ) (d : X) → i < length xs → p (get_or xs i d) ≡ true → 1 ≤ count_by p xs
  counted_once [] i d lt h = absurd (omega arith)
  counted_once (x ∷ xs) zero d lt h =
      let e : count_by p (x ∷ xs) ≡ 1 + count_by p xs = count-cons p x xs ∙ ap (λ b. cond b 1 0 + count_by p xs) h in
      omega arith
  counted_once (x ∷ xs) (suc i) d lt h =
      let more = counted_once xs i d (omega arith) h in
      omega (arith, count-cons p x xs)

  -- Two places that pass a test count for two.
  pub counted_twice : (xs : List X) (i j : ℕ) (d : X) → i < j → j < length xs → p (get_or xs i d) ≡ true →
      p (get_or xs j d) ≡ true → 2 ≤ count_by p xs
  counted_twice [] i j d lt within h k = absurd (omega arith)
  counted_twice (x ∷ xs) zero zero d lt within h k = absurd (omega arith)
  counted_twice (x ∷ xs) (suc i) zero d lt within h k = absurd (omega arith)
  counted_twice (x ∷ xs) zero (suc j) d lt within h k =
      let e : count_by p (x ∷ xs) ≡ 1 + count_by p xs = count-cons p x xs ∙ ap (λ b. cond b 1 0 + count_by p xs) h in
      let more = counted_once xs j d (omega arith) k in
      omega arith
  counted_twice (x ∷ xs) (suc i) (suc j) d lt within h k =
      let more = counted_twice xs i j d (omega arith) (omega arith) h k in
      omega (arith, count-cons p x xs)

-- ---- sorted lists

less_from : (a b : List ℕ) → is_lt (order b a) ≡ false → (a ≡ b → ⊥) → order a b ≡ Less
less_from a b after apart = elim (order a b) as (λ o. order a b ≡ o → order a b ≡ Less) [
  | Less ↦ λ e. e
  | Equal ↦ λ e. absurd (apart (order_equal a b e))
  | Greater ↦ λ e. absurd
      (let k : true ≡ false = sym (ap is_lt (order_total.antisymm b a ∙ ap ordering_reverse e)) ∙ after in cc)
] refl

module _ (n : ℕ) (ks : List (List ℕ)) (all : AllByRecursion (IsPartitionOf n) ks) (up : IsSorted order ks)
    (few : (x : List ℕ) → Occurs x ks → times x ks ≤ 1) where
  apart : (i j : ℕ) → i < j → j < length ks → get_or ks i [] ≡ get_or ks j [] → ⊥
  apart i j lt within same =
      let x = get_or ks j [] in
      let two = counted_twice (λ y. is_eq (compare y x)) ks i j [] lt within (test_same (get_or ks i []) x same)
      (test_same x x refl) in
      let one = few x (all_at (λ y. Occurs y ks) ks j [] (all_occur ks) within) in
      omega arith

  -- Partitions of n in order, of which none stands twice, ascend strictly.
  pub sorted_ascends : Ascending ks
  sorted_ascends =
      ascending_places ks (λ i j lt within.
      sym (order_one_degree (get_or ks i []) (get_or ks j [])
      ((all_at (IsPartitionOf n) ks i [] all (omega arith)).total
      ∙ sym (all_at (IsPartitionOf n) ks j [] all within).total))
      ∙ less_from (get_or ks i []) (get_or ks j [])
      (sorted_far (λ a b. is_lt (order a b)) (ranks_by order_total (λ a. a)) ks up i j [] (omega arith) within)
      (apart i j lt within))

-- ---- pairs behind partitions

-- The partitions of sorted pairs are sorted.
pub keys_sorted : {X : Type 0} (ps : List (List ℕ × X)) → IsSortedByKey (λ t. t.0) order ps →
    IsSorted order (map (λ t. t.0) ps)
keys_sorted [] up = λ k d low lt. absurd (omega arith)
keys_sorted {X} (p ∷ ps) up = λ k d low lt.
    let same : length (map (λ (t : List ℕ × X). t.0) (p ∷ ps)) ≡ length (p ∷ ps) = length-map (p ∷ ps) (λ t. t.0) in
    ap₂ (λ a b. is_lt (order a b)) (get_or-map (λ (t : List ℕ × X). t.0) (p ∷ ps) (k + 1) p d (omega arith))
    (get_or-map (λ (t : List ℕ × X). t.0) (p ∷ ps) k p d (omega arith))
    ∙ up k p low (omega arith)

-- Pairs whose second part is a function of the first are made of their first parts.
pub rebuilt : {X : Type 0} (f : List ℕ → X) (ps : List (List ℕ × X)) → AllByRecursion (λ t. t.1 ≡ f t.0) ps →
    map (λ x. (x, f x)) (map (λ t. t.0) ps) ≡ ps
rebuilt f [] h = refl
rebuilt f (p ∷ ps) (h, hs) = ap₂ (λ b bs. b ∷ bs) (ap (λ v. (p.0, v)) (sym h)) (rebuilt f ps hs)
