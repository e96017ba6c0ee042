-- The list of all partitions of n: each entry is one, each partition occurs, and they ascend. So too the e-regular
-- ones. The list is made of blocks: the partitions with exactly k parts m, for each k.
use Rattle.std.proofs.Common.{◌≡◌, ℕ, zero, suc, ◌+◌, ◌-◌, ◌*◌, ◌/◌, ◌<◌, ◌≤◌, Bool, true, false, cond, nat_eq, List}
use Rattle.std.proofs.Common.{[], ◌∷◌, ◌++◌, map, filter, flat_map, replicate, length, refl, sym, ◌∙◌, ap, ap₂, subst}
use Rattle.std.proofs.Common.{arith, sum, slice_index, ◌⊎◌, inl, inr, eqb-true, eq-eqb, lt-ltb, Less, Equal, Greater}
use Rattle.std.proofs.Common.{nat_cmp, le-div_iff_mul-le, zero-lt-suc, div-mul-le_self, le_trans}
use Rattle.std.proofs.Common.{mul-le-mul_right, ◌↔◌, Contains}
use Rattle.std.specs.List.{AllByRecursion, range_with_len}
use Rattle.std.specs.Ordering.{ordering_then}
use Rattle.std.proofs.lemmas.List.Sums.{sum_by-cons}
use Rattle.sp_defs.specs.Partition.{IsPartitionOf, IsRegularOf, degree, IsPartition, compare, partitions}
use Rattle.sp_defs.specs.Partition.{partitions_within, is_regular, regulars, Ascending, IsEarlier}
use Rattle.sp_lists.proofs.Elements.{all_append, all_every, all_map, all_flat, all_filter, range_all, le_or_lt}
pub use Rattle.sp_lists.proofs.Occurrence.{Occurs, at_occurs, occurs_left, occurs_right, occurs_map, occurs_flat}
pub use Rattle.sp_lists.proofs.Occurrence.{occurs_filter, occurs_range}
use Rattle.sp_lists.proofs.Occurrence.{contains, occurs}
use Rattle.sp_lists.proofs.Places.{all_weaken}
use Rattle.sp_lists.proofs.Sums.{first-le-sum}
use Rattle.sp_shapes.proofs.Diagram.{IsPartition-tail, IsPartition-head}

-- ---- the empty partition, and one part more in front

-- no parts make a partition
pub IsPartition-nil : IsPartition []
IsPartition-nil = record { descending = λ k. omega arith; positive = λ k d h. absurd (omega arith) }

-- a part in front that is as great as the first makes a partition
pub IsPartition-cons : (p : ℕ) (parts : List ℕ) → 0 < p → slice_index parts 0 ≤ p → IsPartition parts →
    IsPartition (p ∷ parts)
IsPartition-cons p parts hp hd h = record { descending = down; positive = above_0 }
  where
    down : (k : ℕ) → slice_index (p ∷ parts) (k + 1) ≤ slice_index (p ∷ parts) k
    down zero = hd
    down (suc k) = subst (λ n. slice_index (p ∷ parts) n ≤ slice_index parts k) (moved k) (h.descending k)
      where
        moved : (k : ℕ) → suc (k + 1) ≡ suc k + 1
        moved k = omega arith

    above_0 : (k : ℕ) (d : ℕ) → k < length (p ∷ parts) → 0 < lib.ListN.get_or (p ∷ parts) k d
    above_0 zero d lt = hp
    above_0 (suc k) d lt = h.positive k d (omega arith)

-- ---- each entry of the list is a partition

-- a partition of n with parts at most m
pub record Fits (m n : ℕ) (parts : List ℕ) : Type 0 where
  pub partition : IsPartition parts
  pub within : slice_index parts 0 ≤ m
  pub total : sum parts ≡ n

-- with k parts p in front
abbrev with_block : ℕ → ℕ → List ℕ → List ℕ
with_block k p rest = replicate k p ++ rest

-- the partitions of n with parts at most m + 1, k of which are m + 1
abbrev blocks : ℕ → ℕ → ℕ → List (List ℕ)
blocks m n k = map (with_block k (suc m)) (partitions_within m (n - k * suc m))

-- k parts p in front of smaller ones
block : (k p m n : ℕ) (rest : List ℕ) → 0 < p → m ≤ p → Fits m n rest → Fits p (k * p + n) (replicate k p ++ rest)
block zero p m n rest hp hm h =
    record { partition = h.partition; within = omega (arith, h.within); total = h.total ∙ none p n }
  where
    none : (p n : ℕ) → n ≡ 0 * p + n
    none p n = omega arith
block (suc k) p m n rest hp hm h =
    let ih : Fits p (k * p + n) (replicate k p ++ rest) = block k p m n rest hp hm h in
    record {
      partition = IsPartition-cons p (replicate k p ++ rest) hp ih.within ih.partition;
      within = omega arith;
      total = sum_by-cons (λ x. x) p (replicate k p ++ rest) ∙ ap (λ x. p + x) ih.total ∙ more k p n;
    }
  where
    more : (k p n : ℕ) → p + (k * p + n) ≡ suc k * p + n
    more k p n = omega arith

-- each entry is a partition of n with parts at most m
pub all_within : (m n : ℕ) → AllByRecursion (Fits m n) (partitions_within m n)
unfolding partitions_within
all_within zero n = tested (nat_eq n 0) refl
  where
    tested : (b : Bool) → nat_eq n 0 ≡ b → AllByRecursion (Fits 0 n) (cond b ([] ∷ []) [])
    tested true e = (record { partition = IsPartition-nil; within = omega arith; total = sym (eqb-true n 0 e) }, tt)
    tested false e = tt
all_within (suc m) n =
    all_flat (Fits (suc m) n) (blocks m n) (range_with_len 0 (n / suc m + 1))
    (range_all (λ k. AllByRecursion (Fits (suc m) n) (blocks m n k)) 0 (n / suc m + 1)
    (λ k lo hi. one_block k (omega arith) (all_within m (n - k * suc m))))
  where
    fits : (k : ℕ) → k ≤ n / suc m → k * suc m + (n - k * suc m) ≡ n
    fits k few = back (le_trans (mul-le-mul_right (suc m) few) (div-mul-le_self n (suc m)))
      where
        back : k * suc m ≤ n → k * suc m + (n - k * suc m) ≡ n
        back h = omega arith

    one : (k : ℕ) → k ≤ n / suc m → (rest : List ℕ) → Fits m (n - k * suc m) rest →
        Fits (suc m) n (with_block k (suc m) rest)
    one k few rest h = subst (λ x. Fits (suc m) x (with_block k (suc m) rest)) (fits k few)
        (block k (suc m) m (n - k * suc m) rest (omega arith) (omega arith) h)

    one_block : (k : ℕ) → k ≤ n / suc m →
        AllByRecursion (Fits m (n - k * suc m)) (partitions_within m (n - k * suc m)) →
        AllByRecursion (Fits (suc m) n) (blocks m n k)
    one_block k few h = all_map (Fits (suc m) n) (with_block k (suc m)) (partitions_within m (n - k * suc m))
        (all_weaken (Fits m (n - k * suc m)) (λ rest. Fits (suc m) n (with_block k (suc m) rest))
        (partitions_within m (n - k * suc m)) (one k few) h)

-- ---- each partition occurs

-- the parts m + 1 of a partition, and the rest of it
record Stripped (m : ℕ) (parts : List ℕ) : Type 0 where
  count : ℕ
  rest : List ℕ
  split : parts ≡ with_block count (suc m) rest
  fits : Fits m (sum rest) rest
  total : sum parts ≡ count * suc m + sum rest

strip : (m : ℕ) (parts : List ℕ) → IsPartition parts → slice_index parts 0 ≤ suc m → Stripped m parts
strip m [] h w = record {
  count = 0;
  rest = [];
  split = refl;
  fits = record { partition = h; within = omega arith; total = refl };
  total = omega arith;
}
strip m (p ∷ parts) h w = settle (strip m parts (IsPartition-tail p parts h)) (le_or_lt p m)
  where
    down : slice_index parts 0 ≤ p
    down = h.descending 0

    settle : (slice_index parts 0 ≤ suc m → Stripped m parts) → (p ≤ m) ⊎ (m < p) → Stripped m (p ∷ parts)
    settle more (inl l) = record {
      count = 0;
      rest = p ∷ parts;
      split = refl;
      fits = record { partition = h; within = l; total = refl };
      total = none (sum (p ∷ parts));
    }
      where
        none : (x : ℕ) → x ≡ 0 * suc m + x
        none x = omega arith
    settle more (inr g) = one_more (more (omega (arith, down, w)))
      where
        is : p ≡ suc m
        is = omega (arith, w)

        one_more : Stripped m parts → Stripped m (p ∷ parts)
        one_more s = record {
          count = suc s.count;
          rest = s.rest;
          split = ap₂ (λ x y. x ∷ y) is s.split;
          fits = s.fits;
          total = sum_by-cons (λ x. x) p parts ∙ ap₂ (λ x y. x + y) is s.total ∙ sides m s.count (sum s.rest);
        }
          where
            sides : (m k s : ℕ) → suc m + (k * suc m + s) ≡ suc k * suc m + s
            sides m k s = omega arith

-- each such partition is an entry
pub each_within : (m n : ℕ) (parts : List ℕ) → Fits m n parts → Occurs parts (partitions_within m n)
unfolding partitions_within
each_within zero n [] h =
    subst (λ b. Occurs {X = List ℕ} [] (cond b ([] ∷ []) [])) (sym (eq-eqb n 0 (sym h.total))) (inl refl)
each_within zero n (p ∷ parts) h = absurd (omega (arith, IsPartition-head p parts h.partition, h.within))
each_within (suc m) n parts h = place (strip m parts h.partition h.within) (each_within m)
  where
    place : Stripped m parts → ((n : ℕ) (parts : List ℕ) → Fits m n parts → Occurs parts (partitions_within m n)) →
        Occurs parts (flat_map (blocks m n) (range_with_len 0 (n / suc m + 1)))
    place s ih =
        let left : sum s.rest ≡ n - s.count * suc m = omega (arith, h.total, s.total) in
        let few : s.count ≤ n / suc m = (le-div_iff_mul-le (zero-lt-suc m)).1 (omega (arith, h.total, s.total)) in
        let smaller : Occurs s.rest (partitions_within m (n - s.count * suc m)) = ih (n - s.count * suc m) s.rest
        (subst (λ x. Fits m x s.rest) left s.fits) in
        let in_block : Occurs parts (blocks m n s.count) = subst (λ x. Occurs x (blocks m n s.count)) (sym s.split)
        (occurs_map (with_block s.count (suc m)) s.rest (partitions_within m (n - s.count * suc m)) smaller) in
        occurs_flat (blocks m n) s.count (range_with_len 0 (n / suc m + 1)) parts
        (occurs_range s.count 0 (n / suc m + 1) (omega arith) (omega arith)) in_block

-- ---- they ascend

nat_less : (x y : ℕ) → x < y → nat_cmp x y ≡ Less
nat_less x y h = ap (λ b. cond b Less (cond (nat_eq x y) Equal Greater)) (lt-ltb x y h)

nat_same : (x : ℕ) → nat_cmp x x ≡ Equal
nat_same x = grind arith

-- fewer parts p in front of smaller ones come earlier
less_block : (k j p : ℕ) (xs ys : List ℕ) → k < j → slice_index xs 0 < p →
    compare (replicate k p ++ xs) (replicate j p ++ ys) ≡ Less
less_block zero zero p xs ys h lt = absurd (omega arith)
less_block zero (suc j) p [] ys h lt = refl
less_block zero (suc j) p (x ∷ xs) ys h lt =
    ap (λ o. ordering_then o (compare xs (replicate j p ++ ys))) (nat_less x p lt)
less_block (suc k) zero p xs ys h lt = absurd (omega arith)
less_block (suc k) (suc j) p xs ys h lt =
    ap (λ o. ordering_then o (compare (replicate k p ++ xs) (replicate j p ++ ys))) (nat_same p)
    ∙ less_block k j p xs ys (omega arith) lt

-- equally many are compared by the rest
same_block : (k p : ℕ) (xs ys : List ℕ) → compare (replicate k p ++ xs) (replicate k p ++ ys) ≡ compare xs ys
same_block zero p xs ys = refl
same_block (suc k) p xs ys =
    ap (λ o. ordering_then o (compare (replicate k p ++ xs) (replicate k p ++ ys))) (nat_same p) ∙ same_block k p xs ys

-- two ascending lists, the first before the second
Ascending-append : (xs ys : List (List ℕ)) → Ascending xs → Ascending ys →
    AllByRecursion (λ x. AllByRecursion (λ y. compare x y ≡ Less) ys) xs → Ascending (xs ++ ys)
Ascending-append [] ys h k b = k
Ascending-append (x ∷ xs) ys (h, hs) k (b, bs) =
    (all_append (λ y. compare x y ≡ Less) xs ys h b, Ascending-append xs ys hs k bs)

-- a block ascends
Ascending-map : (k p : ℕ) (xs : List (List ℕ)) → Ascending xs → Ascending (map (with_block k p) xs)
Ascending-map k p [] h = tt
Ascending-map k p (x ∷ xs) (h, hs) =
    (all_map (IsEarlier (with_block k p x)) (with_block k p) xs later, Ascending-map k p xs hs)
  where
    later : AllByRecursion (λ y. IsEarlier (with_block k p x) (with_block k p y)) xs
    later = all_weaken (IsEarlier x) (λ y. IsEarlier (with_block k p x) (with_block k p y)) xs
        (λ y e. same_block k p x y ∙ e) h

-- the blocks with a, a + 1, .. a + n - 1 parts p, one after the other
abbrev blocks_from : ℕ → (ℕ → List (List ℕ)) → ℕ → ℕ → List (List ℕ)
blocks_from p f a n = flat_map (λ k. map (with_block k p) (f k)) (range_with_len a n)

Ascending-blocks : (p : ℕ) (f : ℕ → List (List ℕ)) → ((k : ℕ) → Ascending (f k)) →
    ((k : ℕ) → AllByRecursion (λ x. slice_index x 0 < p) (f k)) → (a n : ℕ) → Ascending (blocks_from p f a n)
Ascending-blocks p f up low a zero = tt
Ascending-blocks p f up low a (suc n) =
    Ascending-append (map (with_block a p) (f a)) (blocks_from p f (a + 1) n)
    (Ascending-map a p (f a) (up a)) (Ascending-blocks p f up low (a + 1) n)
    (all_map (λ x. AllByRecursion (IsEarlier x) (blocks_from p f (a + 1) n)) (with_block a p) (f a)
    (all_weaken (λ x. slice_index x 0 < p)
    (λ x. AllByRecursion (IsEarlier (with_block a p x)) (blocks_from p f (a + 1) n)) (f a) before_rest (low a)))
  where
    before_block : (x : List ℕ) → slice_index x 0 < p → (k : ℕ) → a < k →
        AllByRecursion (IsEarlier (with_block a p x)) (map (with_block k p) (f k))
    before_block x lt k h = all_map (IsEarlier (with_block a p x)) (with_block k p) (f k)
        (all_every (λ y. IsEarlier (with_block a p x) (with_block k p y)) (f k) (λ y. less_block a k p x y h lt))

    before_rest : (x : List ℕ) → slice_index x 0 < p →
        AllByRecursion (IsEarlier (with_block a p x)) (blocks_from p f (a + 1) n)
    before_rest x lt =
        all_flat (IsEarlier (with_block a p x)) (λ k. map (with_block k p) (f k)) (range_with_len (a + 1) n)
        (range_all (λ k. AllByRecursion (IsEarlier (with_block a p x)) (map (with_block k p) (f k))) (a + 1) n
        (λ k lo hi. before_block x lt k (omega arith)))

-- the entries ascend
pub within_ascend : (m n : ℕ) → Ascending (partitions_within m n)
unfolding partitions_within
within_ascend zero n = elim (nat_eq n 0) as (λ b. Ascending (cond b ([] ∷ []) [])) [ true ↦ (tt, tt) | false ↦ tt ]
within_ascend (suc m) n =
    Ascending-blocks (suc m) (λ k. partitions_within m (n - k * suc m)) (λ k. within_ascend m (n - k * suc m))
    (λ k. all_weaken (Fits m (n - k * suc m)) (λ x. slice_index x 0 < suc m) (partitions_within m (n - k * suc m))
    (λ x h. omega (arith, h.within)) (all_within m (n - k * suc m))) 0 (n / suc m + 1)

-- ---- the partitions of n, and the e-regular ones

-- each entry of the list of partitions of n is one
pub all_partitions : (n : ℕ) → AllByRecursion (IsPartitionOf n) (partitions n)
unfolding partitions
all_partitions n = all_weaken (Fits n n) (IsPartitionOf n) (partitions_within n n)
    (λ x h. record { partition = h.partition; total = h.total }) (all_within n n)

-- each partition of n is an entry
pub each_partition : (n : ℕ) (parts : List ℕ) → IsPartition parts → degree parts ≡ n → Occurs parts (partitions n)
unfolding partitions
each_partition n parts h e =
    each_within n n parts (record { partition = h; within = omega (arith, first-le-sum parts, e); total = e })

-- they ascend
pub partitions_ascend : (n : ℕ) → Ascending (partitions n)
unfolding partitions
partitions_ascend n = within_ascend n n

-- what passes a test ascends, as the list does
pub Ascending-filter : (t : List ℕ → Bool) (xs : List (List ℕ)) → Ascending xs → Ascending (filter t xs)
Ascending-filter t [] h = tt
Ascending-filter t (x ∷ xs) (h, hs) = tested (t x) (Ascending-filter t xs hs)
  where
    later : AllByRecursion (IsEarlier x) (filter t xs)
    later = all_filter (IsEarlier x) t xs (all_weaken (IsEarlier x) (λ y. t y ≡ true → IsEarlier x y) xs (λ y e _. e) h)

    tested : (b : Bool) → Ascending (filter t xs) → Ascending (cond b (x ∷ filter t xs) (filter t xs))
    tested true rest = (later, rest)
    tested false rest = rest

-- each entry of the list of e-regular partitions of n is one
pub all_regulars : (e n : ℕ) → AllByRecursion (IsRegularOf e n) (regulars e n)
unfolding regulars
all_regulars e n = all_filter (IsRegularOf e n) (is_regular e) (partitions n)
    (all_weaken (IsPartitionOf n) (λ x. is_regular e x ≡ true → IsRegularOf e n x) (partitions n)
    (λ x h r. record { partition = h.partition; total = h.total; regular = r }) (all_partitions n))

-- each of them is an entry
pub each_regular : (e n : ℕ) (parts : List ℕ) → IsRegularOf e n parts → Occurs parts (regulars e n)
unfolding regulars
each_regular e n parts h =
    occurs_filter (is_regular e) parts (partitions n) h.regular (each_partition n parts h.partition h.total)

-- they ascend
pub regulars_ascend : (e n : ℕ) → Ascending (regulars e n)
unfolding regulars
regulars_ascend e n = Ascending-filter (is_regular e) (partitions n) (partitions_ascend n)

-- ---- the lists have what the words say, and nothing else

-- a partition of n is in the list, and the list has no other
pub partitions_contain : (n : ℕ) (parts : List ℕ) → Contains (partitions n) parts ↔ IsPartitionOf n parts
partitions_contain n parts = (
  λ c. at_occurs (IsPartitionOf n) parts (partitions n) (occurs parts (partitions n) c) (all_partitions n),
  λ h. contains parts (partitions n) (each_partition n parts h.partition h.total),
)

-- so too an e-regular one
pub regulars_contain : (e n : ℕ) (parts : List ℕ) → Contains (regulars e n) parts ↔ IsRegularOf e n parts
regulars_contain e n parts = (
  λ c. at_occurs (IsRegularOf e n) parts (regulars e n) (occurs parts (regulars e n) c) (all_regulars e n),
  λ h. contains parts (regulars e n) (each_regular e n parts h),
)
