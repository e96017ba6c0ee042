-- Chains of horizontal strips, and the tests by which they are listed.
use Rattle.std.proofs.Common.{◌≡◌, ℕ, zero, suc, ◌+◌, ◌<◌, ◌≤◌, Bool, true, ◌&&◌, nat_le, nat_eq, List, [], ◌∷◌}
use Rattle.std.proofs.Common.{length, slice_index, slice_index_or, count_by, sum, take, refl, sym, ◌∙◌, ap, arith}
use Rattle.std.proofs.Common.{◌⊎◌, inl, inr, le-leb, leb-true}
use Rattle.std.specs.List.{list_all, range_with_len}
use Rattle.std.proofs.lemmas.List.{take_all}
use Rattle.std.proofs.lemmas.List.Sums.{sum_by-cons}
use Rattle.sp_defs.specs.Partition.{IsPartitionOf, part, degree, from_one_to}
use Rattle.sp_lists.proofs.Elements.{le_or_lt, and_split, and_join, all_tests, tests_all, range_all, range_at}
use Rattle.sp_lr_defs.specs.Filling.{IsLattice}
use Rattle.sp_lr_defs.specs.Strip.{IsStrip, AreStrips, end_from}
use Rattle.sp_lr_defs.specs.Listing.{is_strip, is_lattice}
use Rattle.sp_lr_defs.proofs.Trimmed.{past_end}
use Rattle.sp_lr_defs.proofs.Words.{count-take}
use Rattle.sp_lr_defs.proofs.Forward.{part_at}

-- ---- chains of horizontal strips

-- the partitions after `last` make horizontal strips of these sizes
abbrev pub AreTableau : List ℕ → List ℕ → List (List ℕ) → Type 0
AreTableau last [] [] = Unit {0}
AreTableau last [] (shape ∷ shapes) = ⊥
AreTableau last (n ∷ ns) [] = ⊥
AreTableau last (n ∷ ns) (shape ∷ shapes) = IsStrip last shape n × AreTableau shape ns shapes

-- strips that are covered are strips
pub tableau_of_strips : (before last : List ℕ) (spare : ℕ) (ns : List ℕ) (shapes : List (List ℕ)) →
    AreStrips before last spare ns shapes → AreTableau last ns shapes
tableau_of_strips before last spare [] [] s = tt
tableau_of_strips before last spare [] (shape ∷ shapes) s = absurd s
tableau_of_strips before last spare (n ∷ ns) [] s = absurd s
tableau_of_strips before last spare (n ∷ ns) (shape ∷ shapes) (next, more) =
    (next.strip, tableau_of_strips last shape 0 ns shapes more)

-- there is a partition for each size
pub tableau_length : (last ns : List ℕ) (shapes : List (List ℕ)) → AreTableau last ns shapes →
    length shapes ≡ length ns
tableau_length last [] [] s = refl
tableau_length last [] (shape ∷ shapes) s = absurd s
tableau_length last (n ∷ ns) [] s = absurd s
tableau_length last (n ∷ ns) (shape ∷ shapes) (strip, more) = ap suc (tableau_length shape ns shapes more)

-- the strip at a place
pub strip_at : (last ns : List ℕ) (shapes : List (List ℕ)) → AreTableau last ns shapes → (k : ℕ) → k < length ns →
    IsStrip (slice_index_or (last ∷ shapes) k []) (slice_index_or shapes k []) (slice_index ns k)
strip_at last [] shapes s k lt = absurd (omega arith)
strip_at last (n ∷ ns) [] s k lt = absurd s
strip_at last (n ∷ ns) (shape ∷ shapes) (strip, more) zero lt = strip
strip_at last (n ∷ ns) (shape ∷ shapes) (strip, more) (suc k) lt = strip_at shape ns shapes more k (omega arith)

-- how many nodes the last partition has
pub tableau_degree : (last ns : List ℕ) (shapes : List (List ℕ)) → AreTableau last ns shapes →
    degree (end_from last shapes) ≡ degree last + sum ns
tableau_degree last [] [] s = omega arith
tableau_degree last [] (shape ∷ shapes) s = absurd s
tableau_degree last (n ∷ ns) [] s = absurd s
tableau_degree last (n ∷ ns) (shape ∷ shapes) (strip, more) =
    omega (arith, tableau_degree shape ns shapes more, strip.total, sum_by-cons (λ x. x) n ns)

-- ---- the test of a horizontal strip

-- the part after the one of row i, counted from 0
next_part : (parts : List ℕ) (i : ℕ) → part parts (suc i + 1) ≡ slice_index parts (i + 1)
next_part parts i = ap (slice_index parts) (omega arith)

-- the rows at r interlace
abbrev interlace : List ℕ → List ℕ → ℕ → Bool
interlace last after r = nat_le (part last r) (part after r) && nat_le (part after (r + 1)) (part last r)

-- a partition that passes is a strip
pub strip_tested : (last after : List ℕ) (n : ℕ) → IsPartitionOf (degree last + n) after →
    is_strip last after ≡ true → IsStrip last after n
strip_tested last after n h t = record {
  partition = h.partition;
  grows = λ i. grows i (le_or_lt (length last + length after) i);
  apart = λ i. apart i (le_or_lt (length last + length after) i);
  total = h.total;
}
  where
    at : (i : ℕ) → i < length last + length after → interlace last after (suc i) ≡ true
    at i lt =
        range_at (λ r. interlace last after r ≡ true) 1 (length last + length after)
        (all_tests (interlace last after) (from_one_to (length last + length after)) t) (suc i) (omega arith)
        (omega arith)

    grows : (i : ℕ) → (length last + length after ≤ i) ⊎ (i < length last + length after) →
        slice_index last i ≤ slice_index after i
    grows i (inl le) = omega (arith, past_end last i (omega arith))
    grows i (inr lt) =
        omega (
          arith,
          leb-true (part last (suc i)) (part after (suc i))
              (and_split (nat_le (part last (suc i)) (part after (suc i)))
              (nat_le (part after (suc i + 1)) (part last (suc i))) (at i lt)).0,
          part_at last i,
          part_at after i,
        )

    apart : (i : ℕ) → (length last + length after ≤ i) ⊎ (i < length last + length after) →
        slice_index after (i + 1) ≤ slice_index last i
    apart i (inl le) = omega (arith, past_end after (i + 1) (omega arith))
    apart i (inr lt) =
        omega (
          arith,
          leb-true (part after (suc i + 1)) (part last (suc i))
              (and_split (nat_le (part last (suc i)) (part after (suc i)))
              (nat_le (part after (suc i + 1)) (part last (suc i))) (at i lt)).1,
          part_at last i,
          next_part after i,
        )

-- a strip passes
pub tested_strip : (last after : List ℕ) (n : ℕ) → IsStrip last after n → is_strip last after ≡ true
tested_strip last after n s =
    tests_all (interlace last after) (from_one_to (length last + length after))
    (range_all (λ r. interlace last after r ≡ true) 1 (length last + length after) (λ r lo hi. row r lo))
  where
    row : (r : ℕ) → 1 ≤ r → interlace last after r ≡ true
    row zero lo = absurd (omega arith)
    row (suc i) lo =
        and_join (nat_le (part last (suc i)) (part after (suc i)))
        (nat_le (part after (suc i + 1)) (part last (suc i)))
        (le-leb (part last (suc i)) (part after (suc i)) (omega (arith, part_at last i, part_at after i, s.grows i)))
        (le-leb (part after (suc i + 1)) (part last (suc i))
        (omega (arith, part_at last i, next_part after i, s.apart i)))

-- ---- the test of a lattice word

-- the first n letters have at least as many k as k + 1
abbrev enough : List ℕ → ℕ → ℕ → Bool
enough letters n k = nat_le (count_by (nat_eq (k + 1)) (take n letters)) (count_by (nat_eq k) (take n letters))

-- a word of numbers up to m that passes is a lattice word
pub lattice_tested : (m : ℕ) (letters : List ℕ) →
    ((k : ℕ) → m ≤ k → count_by (nat_eq (k + 1)) letters ≡ 0) → is_lattice m letters ≡ true → IsLattice letters
lattice_tested m letters none t n k lo = settle (le_or_lt m k) (le_or_lt n (length letters))
  where
    at : (j : ℕ) → j ≤ length letters → k < m →
        count_by (nat_eq (k + 1)) (take j letters) ≤ count_by (nat_eq k) (take j letters)
    at j le lt =
        leb-true (count_by (nat_eq (k + 1)) (take j letters)) (count_by (nat_eq k) (take j letters))
        (range_at (λ i. enough letters j i ≡ true) 1 m
        (all_tests (enough letters j) (from_one_to m)
        (range_at (λ i. list_all (enough letters i) (from_one_to m) ≡ true) 0 (length letters + 1)
        (all_tests (λ i. list_all (enough letters i) (from_one_to m)) (range_with_len 0 (length letters + 1)) t) j
        (omega arith) (omega arith))) k lo (omega arith))

    whole : length letters < n → take n letters ≡ take (length letters) letters
    whole lt = take_all n letters (omega arith) ∙ sym (take_all (length letters) letters (omega arith))

    settle : (m ≤ k) ⊎ (k < m) → (n ≤ length letters) ⊎ (length letters < n) →
        count_by (nat_eq (k + 1)) (take n letters) ≤ count_by (nat_eq k) (take n letters)
    settle (inl past) w = omega (arith, none k past, count-take (nat_eq (k + 1)) letters n)
    settle (inr lt) (inl le) = at n le lt
    settle (inr lt) (inr longer) =
        omega (
          arith,
          at (length letters) (omega arith) lt,
          ap (count_by (nat_eq (k + 1))) (whole longer),
          ap (count_by (nat_eq k)) (whole longer),
        )

-- a lattice word passes
pub tested_lattice : (m : ℕ) (letters : List ℕ) → IsLattice letters → is_lattice m letters ≡ true
tested_lattice m letters h =
    tests_all (λ n. list_all (enough letters n) (from_one_to m)) (range_with_len 0 (length letters + 1))
    (range_all (λ n. list_all (enough letters n) (from_one_to m) ≡ true) 0 (length letters + 1)
    (λ n _ _. tests_all (enough letters n) (from_one_to m)
    (range_all (λ k. enough letters n k ≡ true) 1 m
    (λ k lo _. le-leb (count_by (nat_eq (k + 1)) (take n letters)) (count_by (nat_eq k) (take n letters)) (h n k lo)))))
