-- Conjugates of lists of partitions: in another order, and as headings of a grid.
use Rattle.std.proofs.Common.{◌≡◌, ℕ, ◌≤◌, Bool, true, cond, List, map, filter, reverse, refl, sym, ◌∙◌, ap}
use Rattle.std.proofs.Common.{subst}
use Rattle.std.proofs.lemmas.List.{reverse-reverse}
use Rattle.std.proofs.lemmas.List.Sorted.{sum_by-IsPermutation}
use Rattle.std.specs.List.{AllByRecursion}
use Rattle.std.specs.List.Sorted.{IsPermutation, IsSorted}
use Rattle.std.specs.Ordering.{is_eq}
use Rattle.sp_defs.specs.Partition.{Ascending, IsPartition, IsPartitionOf, compare, conjugate, order, partitions}
use Rattle.sp_fock_law.specs.Grid.{IsHeading}
use Rattle.sp_lists.proofs.Counts.{count-alike, count-map}
use Rattle.sp_lists.proofs.Elements.{all_both, all_every, all_filter, all_map, all_reverse}
use Rattle.sp_lists.proofs.Comparing.{test_same}
use Rattle.sp_lists.proofs.Elements.{filter_alike, same_tests}
use Rattle.sp_lists.proofs.Maps.{filter-reverse}
use Rattle.sp_lists.proofs.Occurrence.{Occurs, all_occur, at_occurs, from_filter, occurs_filter, occurs_map}
use Rattle.sp_lists.proofs.Occurrence.{occurs_reverse, passing, some_passes}
use Rattle.sp_lists.proofs.Places.{all_weaken}
use Rattle.sp_shapes.proofs.Conjugates.{conjugate_partition, degree-conjugate}
use Rattle.sp_shapes.proofs.Involution.{conjugate_twice}
use Rattle.sp_shapes.proofs.Listing.{Ascending-filter, all_partitions, each_partition, partitions_ascend}
use Rattle.sp_matrix.specs.Conjugates.{conjugates, is_among}
use Rattle.sp_matrix.specs.Matrix.{lines_of}
use Rattle.sp_matrix.proofs.Ascents.{all_permuted, occurs_permuted, once, same_ascending, same_test, sorted_ascends}
use Rattle.sp_matrix.proofs.Ascents.{times}

-- The conjugate of a partition of n is one too.
pub conjugate_of_degree : (n : ℕ) (x : List ℕ) → IsPartitionOf n x → IsPartitionOf n (conjugate x)
conjugate_of_degree n x h = record {
  partition = conjugate_partition x h.partition;
  total = degree-conjugate x h.partition ∙ h.total;
}

-- One is the conjugate of the other exactly where that is the conjugate of this.
conjugate_test : (x y : List ℕ) → IsPartition x → IsPartition y →
    is_eq (compare (conjugate y) x) ≡ is_eq (compare y (conjugate x))
conjugate_test x y hx hy =
    same_tests (is_eq (compare (conjugate y) x)) (is_eq (compare y (conjugate x)))
    (λ e. test_same y (conjugate x) (sym (conjugate_twice y hy) ∙ ap conjugate (same_test (conjugate y) x e)))
    (λ e. test_same (conjugate y) x (ap conjugate (same_test y (conjugate x) e) ∙ conjugate_twice x hx))

-- ---- conjugates in another order

module _ (n : ℕ) (xs ks : List (List ℕ)) (all : AllByRecursion (IsPartitionOf n) xs) (up : Ascending xs)
    (moved : IsPermutation (map conjugate xs) ks) (sorted : IsSorted order ks) (t : List ℕ → Bool)
    (into : (x : List ℕ) → IsPartitionOf n x → Occurs x xs → t (conjugate x) ≡ true)
    (back : (z : List ℕ) → IsPartitionOf n z → t z ≡ true → Occurs (conjugate z) xs) where
  all_conjugates : AllByRecursion (IsPartitionOf n) ks
  all_conjugates =
      all_permuted (IsPartitionOf n) (map conjugate xs) ks moved
      (all_map (IsPartitionOf n) conjugate xs
      (all_weaken (IsPartitionOf n) (λ x. IsPartitionOf n (conjugate x)) xs (conjugate_of_degree n) all))

  seldom : (x : List ℕ) → IsPartition x → times x ks ≤ 1
  seldom x hx =
      subst (λ m. m ≤ 1)
      (sym (sum_by-IsPermutation (λ y. cond (is_eq (compare y x)) 1 0) (map conjugate xs) ks moved
      ∙ count-map (λ y. is_eq (compare y x)) conjugate xs
      ∙ count-alike (λ y. is_eq (compare (conjugate y) x)) (λ y. is_eq (compare y (conjugate x))) xs
      (all_weaken (IsPartitionOf n) (λ y. is_eq (compare (conjugate y) x) ≡ is_eq (compare y (conjugate x))) xs
      (λ y h. conjugate_test x y hx h.partition) all)))
      (once xs up (conjugate x))

  at_partition : (x : List ℕ) → Occurs x ks → IsPartition x
  at_partition x o = (at_occurs (IsPartitionOf n) x ks o all_conjugates).partition

  passes : (x : List ℕ) → IsPartitionOf n x → Occurs x xs → Occurs (conjugate x) (filter t (partitions n))
  passes x h o =
      let c = conjugate_of_degree n x h in
      occurs_filter t (conjugate x) (partitions n) (into x h o) (each_partition n (conjugate x) c.partition c.total)

  all_pass : AllByRecursion (λ x. Occurs x (filter t (partitions n))) ks
  all_pass =
      all_permuted (λ x. Occurs x (filter t (partitions n))) (map conjugate xs) ks moved
      (all_map (λ x. Occurs x (filter t (partitions n))) conjugate xs
      (all_weaken (λ x. IsPartitionOf n x × Occurs x xs) (λ x. Occurs (conjugate x) (filter t (partitions n))) xs
      (λ x h. passes x h.0 h.1) (all_both (IsPartitionOf n) (λ x. Occurs x xs) xs all (all_occur xs))))

  passing_occurs : (z : List ℕ) → IsPartitionOf n z → t z ≡ true → Occurs z ks
  passing_occurs z h e =
      occurs_permuted z (map conjugate xs) ks moved
      (subst (λ y. Occurs y (map conjugate xs)) (conjugate_twice z h.partition)
      (occurs_map conjugate (conjugate z) xs (back z h e)))

  -- Sorted conjugates are the partitions of n that pass a test, where their conjugates are those that pass it.
  pub conjugates_sorted : ks ≡ filter t (partitions n)
  conjugates_sorted =
      same_ascending ks (filter t (partitions n))
      (sorted_ascends n ks all_conjugates sorted (λ x o. seldom x (at_partition x o)))
      (Ascending-filter t (partitions n) (partitions_ascend n)) all_pass
      (all_filter (λ z. Occurs z ks) t (partitions n)
      (all_weaken (IsPartitionOf n) (λ z. t z ≡ true → Occurs z ks) (partitions n) passing_occurs (all_partitions n)))

-- ---- what is among a list

-- What passes the test occurs.
pub among_occurs : (xs : List (List ℕ)) (x : List ℕ) → is_among xs x ≡ true → Occurs x xs
among_occurs xs x e = settle (passing (λ y. is_eq (compare y x)) xs e)
  where
    settle : (y : List ℕ) × Occurs y xs × (is_eq (compare y x) ≡ true) → Occurs x xs
    settle (y, o, same) = subst (λ z. Occurs z xs) (same_test y x same) o

-- What occurs passes it.
pub occurs_among : (xs : List (List ℕ)) (x : List ℕ) → Occurs x xs → is_among xs x ≡ true
occurs_among xs x o = some_passes (λ y. is_eq (compare y x)) x xs o (test_same x x refl)

-- ---- conjugates as headings

-- The partitions of n that pass a test, descending, are a heading.
passed_heading : (n : ℕ) (t : List ℕ → Bool) → IsHeading n (filter t (lines_of n))
passed_heading n t = record {
  partitions_of =
      all_filter (IsPartitionOf n) t (lines_of n)
      (all_weaken (IsPartitionOf n) (λ x. t x ≡ true → IsPartitionOf n x) (lines_of n) (λ x h e. h)
      (all_reverse (IsPartitionOf n) (partitions n) (all_partitions n)));
  descending =
      subst Ascending
      (sym (ap reverse (filter-reverse t (partitions n)) ∙ reverse-reverse (filter t (partitions n))))
      (Ascending-filter t (partitions n) (partitions_ascend n));
}

-- Conjugates are a heading.
pub conjugates_heading : (n : ℕ) (xs : List (List ℕ)) → IsHeading n (conjugates n xs)
unfolding conjugates
conjugates_heading n xs = passed_heading n (λ lambda. is_among xs (conjugate lambda))

line_occurs : (n : ℕ) (x : List ℕ) → IsPartitionOf n x → Occurs x (lines_of n)
line_occurs n x h = occurs_reverse x (partitions n) (each_partition n x h.partition h.total)

-- The conjugate of a partition is among the conjugates where it is among the partitions, and nowhere else.
pub conjugate_among : (n : ℕ) (xs : List (List ℕ)) (x : List ℕ) → IsPartitionOf n x →
    is_among (conjugates n xs) (conjugate x) ≡ is_among xs x
unfolding conjugates
conjugate_among n xs x h =
    same_tests (is_among (conjugates n xs) (conjugate x)) (is_among xs x)
    (λ e. twice (from_filter t (conjugate x) (lines_of n) (among_occurs (conjugates n xs) (conjugate x) e)).1)
    (λ e. occurs_among (conjugates n xs) (conjugate x)
    (occurs_filter t (conjugate x) (lines_of n) (once_more e)
    (line_occurs n (conjugate x) (conjugate_of_degree n x h))))
  where
    t : List ℕ → Bool
    t lambda = is_among xs (conjugate lambda)

    twice : is_among xs (conjugate (conjugate x)) ≡ true → is_among xs x ≡ true
    twice e = subst (λ y. is_among xs y ≡ true) (conjugate_twice x h.partition) e

    once_more : is_among xs x ≡ true → is_among xs (conjugate (conjugate x)) ≡ true
    once_more e = subst (λ y. is_among xs y ≡ true) (sym (conjugate_twice x h.partition)) e

-- The partitions that are among a heading are the heading.
heading_kept : (n : ℕ) (xs : List (List ℕ)) → IsHeading n xs → filter (is_among xs) (lines_of n) ≡ xs
heading_kept n xs h =
    filter-reverse (is_among xs) (partitions n)
    ∙ ap reverse (same_ascending (filter (is_among xs) (partitions n)) (reverse xs)
    (Ascending-filter (is_among xs) (partitions n) (partitions_ascend n)) h.descending listed kept)
    ∙ reverse-reverse xs
  where
    listed : AllByRecursion (λ x. Occurs x (reverse xs)) (filter (is_among xs) (partitions n))
    listed =
        all_filter (λ x. Occurs x (reverse xs)) (is_among xs) (partitions n)
        (all_every (λ x. is_among xs x ≡ true → Occurs x (reverse xs)) (partitions n)
        (λ x e. occurs_reverse x xs (among_occurs xs x e)))

    kept : AllByRecursion (λ x. Occurs x (filter (is_among xs) (partitions n))) (reverse xs)
    kept =
        all_reverse (λ x. Occurs x (filter (is_among xs) (partitions n))) xs
        (all_weaken (λ x. IsPartitionOf n x × Occurs x xs) (λ x. Occurs x (filter (is_among xs) (partitions n))) xs
        (λ x k. occurs_filter (is_among xs) x (partitions n) (occurs_among xs x k.1)
        (each_partition n x k.0.partition k.0.total))
        (all_both (IsPartitionOf n) (λ x. Occurs x xs) xs h.partitions_of (all_occur xs)))

as_filter : (n : ℕ) (xs : List (List ℕ)) →
    conjugates n xs ≡ filter (λ lambda. is_among xs (conjugate lambda)) (lines_of n)
unfolding conjugates
as_filter n xs = refl

-- The conjugates of the conjugates of a heading are the heading.
pub conjugates_twice : (n : ℕ) (xs : List (List ℕ)) → IsHeading n xs → conjugates n (conjugates n xs) ≡ xs
conjugates_twice n xs h =
    as_filter n (conjugates n xs)
    ∙ filter_alike (λ lambda. is_among (conjugates n xs) (conjugate lambda)) (is_among xs) (lines_of n)
    (all_weaken (IsPartitionOf n) (λ lambda. is_among (conjugates n xs) (conjugate lambda) ≡ is_among xs lambda)
    (lines_of n) (conjugate_among n xs) (all_reverse (IsPartitionOf n) (partitions n) (all_partitions n)))
    ∙ heading_kept n xs h

-- The conjugate of an element of a heading occurs among the conjugates.
pub conjugate_occurs : (n : ℕ) (xs : List (List ℕ)) (x : List ℕ) → IsPartitionOf n x → Occurs x xs →
    Occurs (conjugate x) (conjugates n xs)
conjugate_occurs n xs x h o =
    among_occurs (conjugates n xs) (conjugate x) (conjugate_among n xs x h ∙ occurs_among xs x o)

-- Each of the conjugates is a partition of n whose conjugate occurs.
pub conjugates_from : (n : ℕ) (xs : List (List ℕ)) →
    AllByRecursion (λ x. IsPartitionOf n x × Occurs (conjugate x) xs) (conjugates n xs)
unfolding conjugates
conjugates_from n xs =
    all_filter (λ x. IsPartitionOf n x × Occurs (conjugate x) xs) (λ x. is_among xs (conjugate x)) (lines_of n)
    (all_weaken (IsPartitionOf n)
    (λ x. is_among xs (conjugate x) ≡ true → IsPartitionOf n x × Occurs (conjugate x) xs) (lines_of n)
    (λ x h e. (h, among_occurs xs (conjugate x) e)) (all_reverse (IsPartitionOf n) (partitions n) (all_partitions n)))
