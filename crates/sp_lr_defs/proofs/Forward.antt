-- The chain of a filling is a chain of strips, each covered by the one before.
use Rattle.std.proofs.Common.{◌≡◌, ℕ, suc, ◌+◌, ◌-◌, ◌<◌, ◌≤◌, List, [], length, map}
use Rattle.std.proofs.Common.{slice_index, slice_index_or, nat_le, count_by, refl, sym, ◌∙◌, ap}
use Rattle.std.proofs.Common.{ap₂, subst, arith, add-one, ◌⊎◌, inl, inr}
use Rattle.std.specs.List.{AllByRecursion}
use Rattle.sp_defs.specs.Partition.{IsPartition, part, from_one_to}
use Rattle.sp_lists.proofs.Elements.{le_or_lt}
use Rattle.sp_lists.proofs.Places.{all_places, all_weaken}
use Rattle.sp_shapes.proofs.Diagram.{same_rows}
use Rattle.sp_lr_defs.specs.Filling.{IsFilling, IsOutside, row, number_in, member}
use Rattle.sp_lr_defs.proofs.Sorted.{Rises, rises, count_to, count_one, count_le_length, place_counted, counted_place}
use Rattle.sp_lr_defs.proofs.Sorted.{all_counted, none_counted}
use Rattle.sp_lr_defs.proofs.Trimmed.{mapped_at, mapped_past, past_end, Descends, trimmed_at, trimmed_partition}
use Rattle.sp_lr_defs.proofs.Trimmed.{descends}

-- ---- rows counted from 0

-- a row's length
pub part_at : (parts : List ℕ) (i : ℕ) → part parts (suc i) ≡ slice_index parts i
part_at parts i = ap (slice_index parts) (omega arith)

-- a row's numbers
pub row_at : (rows : List (List ℕ)) (i : ℕ) → row rows (suc i) ≡ slice_index_or rows i []
row_at rows i = ap (λ k. slice_index_or rows k []) (omega arith)

-- the number in the node at place j of row i
pub number_at : (lambda : List ℕ) (rows : List (List ℕ)) (i j c : ℕ) → c ≡ slice_index lambda i + suc j →
    number_in lambda rows (suc i, c) ≡ slice_index (slice_index_or rows i []) j
number_at lambda rows i j c e = ap₂ slice_index (row_at rows i) (omega (arith, part_at lambda i))

-- row i of nu is that of lambda, and the numbers
pub widths_at : (lambda mu nu : List ℕ) (rows : List (List ℕ)) → IsFilling lambda mu nu rows → (i : ℕ) →
    slice_index nu i ≡ slice_index lambda i + length (slice_index_or rows i [])
widths_at lambda mu nu rows h i =
    sym (part_at nu i)
    ∙ h.widths (suc i) (omega arith)
    ∙ ap₂ (λ a b. a + b) (part_at lambda i) (ap length (row_at rows i))

-- the node at place j of row i is outside lambda
pub outside_at : (lambda mu nu : List ℕ) (rows : List (List ℕ)) → IsFilling lambda mu nu rows → (i j c : ℕ) →
    j < length (slice_index_or rows i []) → c ≡ slice_index lambda i + suc j → IsOutside lambda nu (suc i) c
outside_at lambda mu nu rows h i j c lt e = record {
  row_least = omega arith;
  outside = omega (arith, part_at lambda i);
  inside = omega (arith, part_at nu i, widths_at lambda mu nu rows h i);
}

-- the numbers of a row increase
pub row_rises : (lambda mu nu : List ℕ) (rows : List (List ℕ)) → IsFilling lambda mu nu rows → (i : ℕ) →
    Rises (slice_index_or rows i [])
row_rises lambda mu nu rows h i = rises (slice_index_or rows i []) (λ j lt.
    let c : ℕ = slice_index lambda i + suc j in
    let e : c + 1 ≡ slice_index lambda i + suc (suc j) = omega arith in
    let le : number_in lambda rows (suc i, c) ≤ number_in lambda rows (suc i, c + 1) =
    h.along_rows (suc i) c (outside_at lambda mu nu rows h i j c (omega arith) refl)
    (outside_at lambda mu nu rows h i (suc j) (c + 1) lt e) in
    omega (arith, le, number_at lambda rows i j c refl, number_at lambda rows i (suc j) (c + 1) e))

-- they are from 1 to the number of parts of mu
pub row_numbers : (lambda mu nu : List ℕ) (rows : List (List ℕ)) → IsFilling lambda mu nu rows → (i : ℕ) →
    AllByRecursion (λ k. (1 ≤ k) × (k ≤ length mu)) (slice_index_or rows i [])
row_numbers lambda mu nu rows h i = all_places (λ k. (1 ≤ k) × (k ≤ length mu)) (slice_index_or rows i []) 0 (λ j lt.
    let c : ℕ = slice_index lambda i + suc j in
    let o : IsOutside lambda nu (suc i) c = outside_at lambda mu nu rows h i j c lt refl in
    let at : number_in lambda rows (suc i, c) ≡ slice_index (slice_index_or rows i []) j = number_at lambda rows i j c
    refl in
    (omega (arith, h.least (suc i) c o), omega (arith, h.greatest (suc i) c o)))

-- ---- members of the chain

-- how long row i is with the nodes up to number k
abbrev pub reach : List ℕ → List (List ℕ) → ℕ → ℕ → ℕ
reach lambda rows k i = slice_index lambda i + count_to k (slice_index_or rows i [])

-- up to k + 1 a row reaches no further than the one above does up to k
pub apart_at : (lambda mu nu : List ℕ) (rows : List (List ℕ)) → IsPartition lambda → IsFilling lambda mu nu rows →
    (k i : ℕ) → reach lambda rows (k + 1) (suc i) ≤ reach lambda rows k i
apart_at lambda mu nu rows hl h k i = settle (le_or_lt (reach lambda rows (k + 1) (suc i)) (reach lambda rows k i))
  where
    past : (c j j' : ℕ) → reach lambda rows k i < c → c ≡ slice_index lambda (suc i) + suc j' →
        j' < count_to (k + 1) (slice_index_or rows (suc i) []) → c ≡ slice_index lambda i + suc j → ⊥
    past c j j' beyond e' lt' e =
        let below : Rises (slice_index_or rows (suc i) []) = row_rises lambda mu nu rows h (suc i) in
        let short : count_to (k + 1) (slice_index_or rows (suc i) []) ≤ length (slice_index_or rows (suc i) []) =
        count_le_length (k + 1) (slice_index_or rows (suc i) []) in
        let within' : j' < length (slice_index_or rows (suc i) []) = omega (arith, lt', short) in
        let width' : slice_index nu (suc i) ≡ slice_index lambda (suc i) + length (slice_index_or rows (suc i) []) =
        widths_at lambda mu nu rows h (suc i) in
        let width : slice_index nu i ≡ slice_index lambda i + length (slice_index_or rows i []) =
        widths_at lambda mu nu rows h i in
        let falls : slice_index nu (suc i) ≤ slice_index nu i = descends nu h.outer i in
        let within : j < length (slice_index_or rows i []) = omega arith in
        let small : slice_index (slice_index_or rows (suc i) []) j' ≤ k + 1 =
        counted_place (k + 1) (slice_index_or rows (suc i) []) below j' lt' in
        let apart : number_in lambda rows (suc i, c) < number_in lambda rows (suc i + 1, c) =
        h.down_columns (suc i) c (outside_at lambda mu nu rows h i j c within e)
        (subst (λ r. IsOutside lambda nu r c) (sym (add-one (suc i)))
        (outside_at lambda mu nu rows h (suc i) j' c within' e')) in
        let low : number_in lambda rows (suc i + 1, c) ≡ slice_index (slice_index_or rows (suc i) []) j' =
        ap (λ r. number_in lambda rows (r, c)) (add-one (suc i)) ∙ number_at lambda rows (suc i) j' c e' in
        let high : number_in lambda rows (suc i, c) ≡ slice_index (slice_index_or rows i []) j =
        number_at lambda rows i j c e in
        let least : slice_index (slice_index_or rows i []) j ≤ k = omega (arith, apart, low, high, small) in
        let inside : j < count_to k (slice_index_or rows i []) =
        place_counted k (slice_index_or rows i []) (row_rises lambda mu nu rows h i) j within least in
        omega arith

    settle : (reach lambda rows (k + 1) (suc i) ≤ reach lambda rows k i)
        ⊎ (reach lambda rows k i < reach lambda rows (k + 1) (suc i)) →
        reach lambda rows (k + 1) (suc i) ≤ reach lambda rows k i
    settle (inl le) = le
    settle (inr lt) =
        let falls : slice_index lambda (suc i) ≤ slice_index lambda i = descends lambda hl i in
        absurd (past (reach lambda rows (k + 1) (suc i)) (reach lambda rows (k + 1) (suc i) - slice_index lambda i - 1)
        (count_to (k + 1) (slice_index_or rows (suc i) []) - 1) lt (omega arith) (omega arith) (omega arith))

-- the list that a member is without its zeros
abbrev lengths : List ℕ → List (List ℕ) → ℕ → List ℕ
lengths lambda rows k =
    map (λ r. part lambda r + count_by (λ n. nat_le n k) (row rows r)) (from_one_to (length rows))

lengths_at : (lambda : List ℕ) (rows : List (List ℕ)) (k i : ℕ) → i < length rows →
    slice_index (lengths lambda rows k) i ≡ reach lambda rows k i
lengths_at lambda rows k i lt =
    mapped_at (λ r. part lambda r + count_by (λ n. nat_le n k) (row rows r)) 0 1 (length rows) i lt
    ∙ ap (λ r. part lambda r + count_by (λ n. nat_le n k) (row rows r)) (one_more i)
    ∙ ap₂ (λ a b. a + b) (part_at lambda i) (ap (count_to k) (row_at rows i))
  where
    one_more : (i : ℕ) → 1 + i ≡ suc i
    one_more i = omega arith

lengths_past : (lambda : List ℕ) (rows : List (List ℕ)) (k i : ℕ) → length rows ≤ i →
    slice_index (lengths lambda rows k) i ≡ 0
lengths_past lambda rows k i le =
    mapped_past (λ r. part lambda r + count_by (λ n. nat_le n k) (row rows r)) 0 1 (length rows) i le

-- a greater number reaches as far
pub reach_more : (lambda : List ℕ) (rows : List (List ℕ)) (k i : ℕ) →
    reach lambda rows k i ≤ reach lambda rows (k + 1) i
reach_more lambda rows k i = omega (arith, count_one k (slice_index_or rows i []))

lengths_descend : (lambda mu nu : List ℕ) (rows : List (List ℕ)) → IsPartition lambda → IsFilling lambda mu nu rows →
    (k : ℕ) → Descends (lengths lambda rows k)
lengths_descend lambda mu nu rows hl h k i = settle (le_or_lt (length rows) (suc i))
  where
    settle : (length rows ≤ suc i) ⊎ (suc i < length rows) →
        slice_index (lengths lambda rows k) (suc i) ≤ slice_index (lengths lambda rows k) i
    settle (inl le) = omega (arith, lengths_past lambda rows k (suc i) le)
    settle (inr lt) =
        omega (
          arith,
          lengths_at lambda rows k (suc i) lt,
          lengths_at lambda rows k i (omega arith),
          apart_at lambda mu nu rows hl h k i,
          reach_more lambda rows k (suc i),
        )

-- the rows of a member
pub member_at : (lambda mu nu : List ℕ) (rows : List (List ℕ)) → IsPartition lambda → IsFilling lambda mu nu rows →
    (k i : ℕ) → slice_index (member lambda rows k) i ≡ reach lambda rows k i
member_at lambda mu nu rows hl h k i =
    trimmed_at (lengths lambda rows k) (lengths_descend lambda mu nu rows hl h k) i
    ∙ settle (le_or_lt (length rows) i)
  where
    settle : (length rows ≤ i) ⊎ (i < length rows) → slice_index (lengths lambda rows k) i ≡ reach lambda rows k i
    settle (inl le) =
        omega (
          arith,
          lengths_past lambda rows k i le,
          widths_at lambda mu nu rows h i,
          past_end nu i (omega (arith, h.height)),
          count_le_length k (slice_index_or rows i []),
        )
    settle (inr lt) = lengths_at lambda rows k i lt

-- members are partitions
pub member_partition : (lambda mu nu : List ℕ) (rows : List (List ℕ)) → IsPartition lambda →
    IsFilling lambda mu nu rows → (k : ℕ) → IsPartition (member lambda rows k)
member_partition lambda mu nu rows hl h k =
    trimmed_partition (lengths lambda rows k) (lengths_descend lambda mu nu rows hl h k)

-- the first is lambda
pub member_first : (lambda mu nu : List ℕ) (rows : List (List ℕ)) → IsPartition lambda → IsFilling lambda mu nu rows →
    member lambda rows 0 ≡ lambda
member_first lambda mu nu rows hl h =
    same_rows (member lambda rows 0) lambda (member_partition lambda mu nu rows hl h 0) hl (λ i.
    omega (
      arith,
      member_at lambda mu nu rows hl h 0 i,
      none_counted 0 (slice_index_or rows i [])
          (all_weaken (λ k. (1 ≤ k) × (k ≤ length mu)) (λ k. 0 < k) (slice_index_or rows i [])
          (λ k (lo, hi). omega arith) (row_numbers lambda mu nu rows h i)),
    ))

-- the last is nu
pub member_last : (lambda mu nu : List ℕ) (rows : List (List ℕ)) → IsPartition lambda → IsFilling lambda mu nu rows →
    member lambda rows (length mu) ≡ nu
member_last lambda mu nu rows hl h =
    same_rows (member lambda rows (length mu)) nu (member_partition lambda mu nu rows hl h (length mu)) h.outer (λ i.
    omega (
      arith,
      member_at lambda mu nu rows hl h (length mu) i,
      widths_at lambda mu nu rows h i,
      all_counted (length mu) (slice_index_or rows i [])
          (all_weaken (λ k. (1 ≤ k) × (k ≤ length mu)) (λ k. k ≤ length mu) (slice_index_or rows i [])
          (λ k (lo, hi). hi) (row_numbers lambda mu nu rows h i)),
    ))
