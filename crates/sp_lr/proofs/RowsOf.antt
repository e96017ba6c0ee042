-- The rows of a partition, and the strips over them: what is listed is each next member of a chain of strips.
use Rattle.std.proofs.Common.{◌≡◌, ℕ, zero, suc, ◌+◌, ◌-◌, ◌<◌, ◌≤◌, List, [], ◌∷◌, map, refl, sym, ◌∙◌, ap, ap₂}
use Rattle.std.proofs.Common.{subst, arith}
use Rattle.std.proofs.Common.{length, slice_index, sum, ◌⊎◌, inl, inr, add-one, le_trans}
use Rattle.std.specs.List.{AllByRecursion, range_with_len}
use Rattle.std.proofs.lemmas.List.Elements.{All-from_recursion, recursion_from_All}
use Rattle.std.proofs.lemmas.List.Sums.{sum_by-cons}
use Rattle.sp_defs.specs.Partition.{part, IsPartition, degree}
use Rattle.sp_lists.proofs.Elements.{all_map, map_all, all_every, le_or_lt}
use Rattle.sp_lists.proofs.Places.{all_weaken}
use Rattle.sp_lists.proofs.Occurrence.{Occurs}
use Rattle.sp_lr_defs.specs.Strip.{gained, IsNext}
use Rattle.sp_lr_defs.proofs.Sums.{first-alike}
use Rattle.sp_lr_defs.proofs.Strips.{strip_within}
use Rattle.sp_lr_defs.proofs.Trimmed.{mapped_is, past_end, Descends, descends}
use Rattle.sp_lr.specs.Strips.{rows_of, Falls, all_gained, strips_after, AreHeld}
use Rattle.sp_lr.specs.declared.strips.Row.{Row}
use Rattle.sp_partition.specs.Held.{IsHeld}
use Rattle.sp_lr.proofs.Rounds.{row_made}
use Rattle.sp_lr.proofs.Tails.{lengths, got, IsTail, AreRows, listed_tails, tails_listed}

lengths-made : (before last : List ℕ) (rs : List ℕ) → lengths (map (row_made before last) rs)
    ≡ map (λ r. part last r) rs
lengths-made before last [] = refl
lengths-made before last (r ∷ rs) = ap (λ xs. part last r ∷ xs) (lengths-made before last rs)

part_next : (parts : List ℕ) (i : ℕ) → part parts (1 + i) ≡ slice_index parts i
part_next parts i = ap (slice_index parts) (omega arith)

-- the lengths of the rows are the parts
pub lengths-rows : (before last : List ℕ) → lengths (rows_of before last) ≡ last
lengths-rows before last =
    lengths-made before last (range_with_len 1 (length last))
    ∙ mapped_is (λ r. part last r) 0 1 last (λ i lt. part_next last i)

got-made : (before last : List ℕ) (a n i : ℕ) → i < n →
    got (map (row_made before last) (range_with_len a n)) i ≡ part last (a + i) - part before (a + i)
got-made before last a zero i lt = absurd (omega arith)
got-made before last a (suc n) zero lt = ap (λ r. part last r - part before r) (omega arith)
got-made before last a (suc n) (suc i) lt =
    got-made before last (a + 1) n i (omega arith) ∙ ap (λ r. part last r - part before r) (moved a i)
  where
    moved : (a i : ℕ) → a + 1 + i ≡ a + suc i
    moved a i = omega arith

got-past : (before last : List ℕ) (a n i : ℕ) → n ≤ i → got (map (row_made before last) (range_with_len a n)) i ≡ 0
got-past before last a zero i h = refl
got-past before last a (suc n) zero h = absurd (omega arith)
got-past before last a (suc n) (suc i) h = got-past before last (a + 1) n i (omega arith)

-- what they have more is what the partition has more
pub got-rows : (before last : List ℕ) (i : ℕ) → got (rows_of before last) i ≡ gained before last i
got-rows before last i = settle (le_or_lt (length last) i)
  where
    settle : (length last ≤ i) ⊎ (i < length last) → got (rows_of before last) i ≡ gained before last i
    settle (inl le) = omega (arith, got-past before last 1 (length last) i le, past_end last i le)
    settle (inr lt) =
        got-made before last 1 (length last) i lt ∙ ap₂ (λ a b. a - b) (part_next last i) (part_next before i)

-- ---- what is known of the rows

falls_of : (above : ℕ) (rows : List Row) → slice_index (lengths rows) 0 ≤ above → Descends (lengths rows) →
    Falls above rows
falls_of above [] h d = tt
falls_of above (row ∷ rows) h d = (h, falls_of row.length rows (d 0) (λ i. d (suc i)))

-- no row is longer than the one above
pub rows_fall : (before last : List ℕ) (above : ℕ) → IsPartition last → part last 1 ≤ above →
    Falls above (rows_of before last)
rows_fall before last above h top =
    let is : lengths (rows_of before last) ≡ last = lengths-rows before last in
    falls_of above (rows_of before last) (subst (λ xs. slice_index xs 0 ≤ above) (sym is) (subst
    (λ x. x ≤ above) refl top))
    (subst Descends (sym is) (descends last h))

-- each row has a node
pub rows_positive : (before last : List ℕ) → IsPartition last → AreRows (rows_of before last)
rows_positive before last h =
    map_all (λ p. 0 < p) (λ row. row.length) (rows_of before last)
    (subst (AllByRecursion (λ p. 0 < p)) (sym (lengths-rows before last))
    (recursion_from_All (λ p. 0 < p) last h.positive))

gained_of : (rows : List Row) → AllByRecursion (λ row. row.gained ≤ row.length) rows →
    all_gained rows ≤ sum (lengths rows)
gained_of [] h = omega arith
gained_of (row ∷ rows) (h, hs) = omega (arith, h, gained_of rows hs, sum_by-cons (λ x. x) row.length (lengths rows))

-- all rows together have no more than the degree
pub rows_gained : (before last : List ℕ) → all_gained (rows_of before last) ≤ degree last
rows_gained before last =
    le_trans (gained_of (rows_of before last)
    (all_map (λ row. row.gained ≤ row.length) (row_made before last) (range_with_len 1 (length last))
    (all_every (λ r. part last r - part before r ≤ part last r) (range_with_len 1 (length last)) (λ r. omega arith))))
    (subst (λ xs. sum (lengths (rows_of before last)) ≤ sum xs) (lengths-rows before last) (omega arith))

-- ---- ways to go on, and next members of a chain of strips

row_is : (before last : List ℕ) (i : ℕ) → slice_index (lengths (rows_of before last)) i ≡ slice_index last i
row_is before last i = ap (λ xs. slice_index xs i) (lengths-rows before last)

next_of_tail : (before last xs : List ℕ) (spare n : ℕ) → IsTail (rows_of before last) (part last 1 + n) spare n xs →
    IsNext before last spare n xs
next_of_tail before last xs spare n h = record {
  strip = record {
    partition = record {
      descending = λ i.
          omega (arith, ap (slice_index xs) (add-one i), h.apart i, h.grows i);
      positive = All-from_recursion (λ p. 0 < p) xs h.positive;
    };
    grows = λ i. omega (arith, h.grows i, row_is before last i);
    apart = λ i. omega (arith, ap (slice_index xs) (add-one i), h.apart i, row_is before last i);
    total = omega (arith, h.total, ap sum (lengths-rows before last));
  };
  covered = λ i.
      omega (
        arith,
        h.covered i,
        first-alike i (got (rows_of before last)) (gained before last) (got-rows before last),
        first-alike (suc i) (gained (lengths (rows_of before last)) xs) (gained last xs)
            (λ j. ap (λ l. slice_index xs j - l) (row_is before last j)),
      );
}

tail_of_next : (before last xs : List ℕ) (spare n : ℕ) → IsNext before last spare n xs →
    IsTail (rows_of before last) (part last 1 + n) spare n xs
tail_of_next before last xs spare n h = record {
  grows = λ i. omega (arith, h.strip.grows i, row_is before last i);
  top = omega (arith, strip_within last xs n 1 h.strip, h.strip.grows 0);
  apart = λ i. omega (arith, ap (slice_index xs) (add-one i), h.strip.apart i, row_is before last i);
  total = omega (arith, h.strip.total, ap sum (lengths-rows before last));
  covered = λ i.
      omega (
        arith,
        h.covered i,
        first-alike i (got (rows_of before last)) (gained before last) (got-rows before last),
        first-alike (suc i) (gained (lengths (rows_of before last)) xs) (gained last xs)
            (λ j. ap (λ l. slice_index xs j - l) (row_is before last j)),
      );
  positive = recursion_from_All (λ p. 0 < p) xs h.strip.partition.positive;
}

-- Each that is listed is a next member.
pub listed_next : (before last : List ℕ) (spare n : ℕ) → IsPartition last →
    AllByRecursion (IsNext before last spare n) (strips_after before last spare n)
listed_next before last spare n h =
    all_weaken (IsTail (rows_of before last) (part last 1 + n) spare n) (IsNext before last spare n)
    (strips_after before last spare n) (λ xs t. next_of_tail before last xs spare n t)
    (listed_tails (rows_of before last) (part last 1 + n) spare n (rows_positive before last h)
    (rows_fall before last (part last 1 + n) h (omega arith)))

-- Each next member is listed.
pub next_listed : (before last : List ℕ) (spare n : ℕ) (xs : List ℕ) → IsPartition last →
    IsNext before last spare n xs → Occurs xs (strips_after before last spare n)
next_listed before last spare n xs h next =
    tails_listed (rows_of before last) (part last 1 + n) spare n xs (rows_positive before last h)
    (tail_of_next before last xs spare n next)

-- The type of partitions has room for each that is listed.
pub listed_held : (before last : List ℕ) (spare n : ℕ) → IsPartition last → degree last + n ≤ 32 →
    AreHeld [] (strips_after before last spare n)
listed_held before last spare n h small =
    all_weaken (IsNext before last spare n) IsHeld (strips_after before last spare n)
    (λ xs next. record { partition = next.strip.partition; small = omega (arith, next.strip.total) })
    (listed_next before last spare n h)
