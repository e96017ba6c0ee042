-- The members of the chain of a filling make strips, each covered by the one before.
use Rattle.std.proofs.Common.{◌≡◌, ℕ, zero, suc, ◌+◌, ◌<◌, ◌≤◌, List, [], ◌∷◌, length, map}
use Rattle.std.proofs.Common.{slice_index, slice_index_or, nat_eq, count_by, refl, sym, ◌∙◌, ap, take}
use Rattle.std.proofs.Common.{subst, arith, add-one}
use Rattle.std.specs.List.{AllByRecursion, range_with_len}
use Rattle.sp_defs.specs.Partition.{IsPartition, part, degree}
use Rattle.sp_lists.proofs.Places.{all_places}
use Rattle.sp_lr_defs.specs.Filling.{IsFilling, member, chain_of, word}
use Rattle.sp_lr_defs.specs.Strip.{first, gained, Covers, IsStrip, IsNext, AreStrips, IsStripChain}
use Rattle.sp_lr_defs.proofs.Sorted.{Rises, count_one}
use Rattle.sp_lr_defs.proofs.Sums.{first-list, first-minus, first-alike}
use Rattle.sp_lr_defs.proofs.Words.{word-all, sums_hold}
use Rattle.sp_lr_defs.proofs.Forward.{member_at, member_partition, member_first, apart_at, row_rises, part_at}

-- ---- what a strip gains

-- degrees, by sums of rows
pub degree-first : (n : ℕ) (xs : List ℕ) → length xs ≤ n → degree xs ≡ first n (λ i. slice_index xs i)
degree-first n xs few = sym (first-list n xs few)

-- what a larger partition has more is what its rows have more
pub degree-gained : (n : ℕ) (before after : List ℕ) → length before ≤ n → length after ≤ n →
    ((i : ℕ) → slice_index before i ≤ slice_index after i) → degree after
    ≡ degree before + first n (gained before after)
degree-gained n before after few few' grows =
    omega (
      arith,
      degree-first n before few,
      degree-first n after few',
      first-minus n (λ i. slice_index after i) (λ i. slice_index before i) grows,
    )

-- how often k stands in a row
abbrev pub times : List (List ℕ) → ℕ → ℕ → ℕ
times rows k i = count_by (nat_eq k) (slice_index_or rows i [])

-- from one member to the next each row gains its numbers k + 1
pub gained_at : (lambda mu nu : List ℕ) (rows : List (List ℕ)) → IsPartition lambda → IsFilling lambda mu nu rows →
    (k i : ℕ) → gained (member lambda rows k) (member lambda rows (k + 1)) i ≡ times rows (k + 1) i
gained_at lambda mu nu rows hl h k i =
    omega (
      arith,
      member_at lambda mu nu rows hl h k i,
      member_at lambda mu nu rows hl h (k + 1) i,
      count_one k (slice_index_or rows i []),
    )

-- the members k and k + 1 make a strip
pub member_strip : (lambda mu nu : List ℕ) (rows : List (List ℕ)) → IsPartition lambda → IsFilling lambda mu nu rows →
    (k : ℕ) → k < length mu → IsStrip (member lambda rows k) (member lambda rows (k + 1)) (slice_index mu k)
member_strip lambda mu nu rows hl h k lt = record {
  partition = member_partition lambda mu nu rows hl h (k + 1);
  grows = grows;
  apart = λ i.
      omega (
        arith,
        ap (slice_index (member lambda rows (k + 1))) (add-one i),
        member_at lambda mu nu rows hl h (k + 1) (suc i),
        member_at lambda mu nu rows hl h k i,
        apart_at lambda mu nu rows hl h k i,
      );
  total = total (length (member lambda rows k) + length (member lambda rows (k + 1)) + length rows) (omega arith)
      (omega arith) (omega arith);
}
  where
    grows : (i : ℕ) → slice_index (member lambda rows k) i ≤ slice_index (member lambda rows (k + 1)) i
    grows i =
        omega (
          arith,
          member_at lambda mu nu rows hl h k i,
          member_at lambda mu nu rows hl h (k + 1) i,
          count_one k (slice_index_or rows i []),
        )

    part_is : part mu (k + 1) ≡ slice_index mu k
    part_is = ap (slice_index mu) (omega arith)

    total : (n : ℕ) → length (member lambda rows k) ≤ n → length (member lambda rows (k + 1)) ≤ n → length rows ≤ n →
        degree (member lambda rows (k + 1)) ≡ degree (member lambda rows k) + slice_index mu k
    total n few few' height =
        omega (
          arith,
          degree-gained n (member lambda rows k) (member lambda rows (k + 1)) few few' grows,
          first-alike n (gained (member lambda rows k) (member lambda rows (k + 1))) (times rows (k + 1))
              (gained_at lambda mu nu rows hl h k),
          word-all (nat_eq (k + 1)) n rows (times rows (k + 1)) height (λ i. refl),
          h.content (k + 1) (omega arith) (omega arith),
          part_is,
        )

-- what holds of each row
past_rows : (P : List ℕ → Type 0) (rows : List (List ℕ)) → ((i : ℕ) → P (slice_index_or rows i [])) →
    AllByRecursion P rows
past_rows P rows f = all_places P rows [] (λ i lt. f i)

-- a strip of the chain is covered by the one before
pub member_covers : (lambda mu nu : List ℕ) (rows : List (List ℕ)) → IsPartition lambda → IsFilling lambda mu nu rows →
    (k : ℕ) → Covers 0 (gained (member lambda rows k) (member lambda rows (k + 1)))
    (gained (member lambda rows (k + 1)) (member lambda rows (k + 1 + 1)))
member_covers lambda mu nu rows hl h k i =
    omega (
      arith,
      sums_hold (k + 1) rows (times rows (k + 1)) (times rows (k + 1 + 1)) 0 0
          (past_rows Rises rows (row_rises lambda mu nu rows h)) (λ j. refl) (λ j. refl) fronts i,
      first-alike i (gained (member lambda rows k) (member lambda rows (k + 1))) (times rows (k + 1))
          (gained_at lambda mu nu rows hl h k),
      first-alike (suc i) (gained (member lambda rows (k + 1)) (member lambda rows (k + 1 + 1)))
          (times rows (k + 1 + 1)) (gained_at lambda mu nu rows hl h (k + 1)),
    )
  where
    fronts : (n : ℕ) → 0 + count_by (nat_eq (k + 1 + 1)) (take n (word rows))
        ≤ 0 + count_by (nat_eq (k + 1)) (take n (word rows))
    fronts n = omega (arith, h.lattice n (k + 1) (omega arith))

-- ---- the chain

-- strips along a function
pub strips_along : (shape : ℕ → List ℕ) (ns : List ℕ) (a : ℕ) →
    ((i j : ℕ) → i ≡ a + j → j < length ns → IsNext (shape i) (shape (i + 1)) 0 (slice_index ns j) (shape (i + 1
    + 1))) →
    AreStrips (shape a) (shape (a + 1)) 0 ns (map shape (range_with_len (a + 1 + 1) (length ns)))
strips_along shape [] a f = tt
strips_along shape (n ∷ ns) a f = (
  f a 0 (omega arith) (omega arith),
  strips_along shape ns (a
      + 1) (λ i j e lt. f i (suc j) (omega arith) (omega arith)),
)

-- a strip has no more nodes in its first rows than in all
pub strip_within : (before after : List ℕ) (n i : ℕ) → IsStrip before after n → first i (gained before after) ≤ n
strip_within before after n i s =
    let size : ℕ = length before + length after + i in
    omega (
      arith,
      s.total,
      degree-gained size before after (omega arith) (omega arith) s.grows,
      first-least i (length before + length after) (gained before after),
    )
  where
    first-least : (i m : ℕ) (f : ℕ → ℕ) → first i f ≤ first (m + i) f
    first-least zero m f = omega arith
    first-least (suc i) m f =
        omega (arith, first-least i m (λ j. f (suc j)), ap (λ k. first k f) (moved m i))
      where
        moved : (m i : ℕ) → m + suc i ≡ suc (m + i)
        moved m i = omega arith

-- the first strip is covered by as many spare nodes as it has
pub first_covers : (lambda after : List ℕ) (n : ℕ) → IsStrip lambda after n →
    Covers n (gained lambda lambda) (gained lambda after)
first_covers lambda after n s i = omega (arith, strip_within lambda after n (suc i) s)

-- The chain of a filling is a chain of strips.
pub strips_of_filling : (lambda mu nu : List ℕ) (rows : List (List ℕ)) → IsPartition lambda →
    IsFilling lambda mu nu rows → IsStripChain lambda mu (chain_of lambda (length mu) rows)
strips_of_filling lambda mu nu rows hl h =
    subst (λ m. IsStripChain lambda mu (map (member lambda rows) (range_with_len 0 m))) (sym (add-one (length mu)))
    (member_first lambda mu nu rows hl h, along mu refl)
  where
    next : (i : ℕ) → i + 1 < length mu →
        IsNext (member lambda rows i) (member lambda rows (i + 1)) 0 (slice_index mu (i + 1))
        (member lambda rows (i + 1 + 1))
    next i lt = record {
      strip = member_strip lambda mu nu rows hl h (i + 1) lt;
      covered = member_covers lambda mu nu rows hl h i;
    }

    along : (ns : List ℕ) → mu ≡ ns →
        AreStrips lambda lambda (part mu 1) ns (map (member lambda rows) (range_with_len (0 + 1) (length ns)))
    along [] e = tt
    along (n ∷ ns) e =
        let strip : IsStrip (member lambda rows 0) (member lambda rows 1) (slice_index mu 0) =
        member_strip lambda mu nu rows hl h 0 (omega (arith, ap length e)) in
        let size : slice_index mu 0 ≡ n = ap (λ xs. slice_index xs 0) e in
        let strip' : IsStrip lambda (member lambda rows 1) n =
        subst (λ m. IsStrip lambda (member lambda rows 1) m) size
        (subst (λ x. IsStrip x (member lambda rows 1) (slice_index mu 0))
        (member_first lambda mu nu rows hl h) strip) in (
          record {
            strip = strip';
            covered = subst (λ m. Covers m (gained lambda lambda) (gained lambda (member lambda rows 1)))
                (sym size ∙ sym (part_at mu 0)) (first_covers lambda (member lambda rows 1) n strip');
          },
          subst (λ x. AreStrips x (member lambda rows 1) 0 ns (map (member lambda rows) (range_with_len 2 (length ns))))
              (member_first lambda mu nu rows hl h)
              (strips_along (member lambda rows) ns 0 (λ i j same lt.
              subst (λ m. IsNext (member lambda rows i) (member lambda rows (i + 1)) 0 m (member lambda rows (i + 1
              + 1)))
              (ap (λ k. slice_index mu k) (omega arith) ∙ ap (λ xs. slice_index xs (suc j)) e)
              (next i (omega (arith, ap length e))))),
        )
