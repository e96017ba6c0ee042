-- What the strips over some rows list: each way to go on that covers, once.
use Rattle.std.proofs.Common.{◌≡◌, ◌≢◌, ℕ, zero, suc, ◌+◌, ◌-◌, ◌<◌, ◌≤◌, min, List, [], ◌∷◌, map, refl, sym}
use Rattle.std.proofs.Common.{◌∙◌, ap, subst, arith, length, slice_index, sum, ◌⊎◌, inl, inr}
use Rattle.std.specs.List.{AllByRecursion}
use Rattle.std.proofs.lemmas.List.Sums.{sum_by-cons}
use Rattle.sp_lists.proofs.Elements.{all_flat, all_map, le_or_lt}
use Rattle.sp_lists.proofs.Places.{all_weaken}
use Rattle.sp_lists.proofs.Occurrence.{Occurs, occurs_flat, occurs_map}
use Rattle.sp_lr_defs.specs.Strip.{first, gained}
use Rattle.sp_lr_defs.proofs.Sums.{first-zeros, first-le, first-list, first-list_le}
use Rattle.sp_lr.specs.Strips.{strips, down, Falls, last_rows}
use Rattle.sp_lr.specs.declared.strips.Row.{Row}
use Rattle.sp_lr.proofs.InOrder.{down_all}
use Rattle.sp_lr.proofs.LastRows.{last_rows-none, last_rows-zero, last_rows-one}
use Rattle.sp_lr.proofs.Rounds.{block, end_of, strips-cons, strips-nil}

-- the lengths of the rows
abbrev pub lengths : List Row → List ℕ
lengths rows = map (λ row. row.length) rows

-- what each row has more
abbrev pub got : List Row → ℕ → ℕ
got [] i = 0
got (row ∷ rows) zero = row.gained
got (row ∷ rows) (suc i) = got rows i

-- a way to go on over these rows
pub record IsTail (rows : List Row) (above spare left : ℕ) (xs : List ℕ) : Type 0 where
  pub grows : (i : ℕ) → slice_index (lengths rows) i ≤ slice_index xs i
  pub top : slice_index xs 0 ≤ above
  pub apart : (i : ℕ) → slice_index xs (suc i) ≤ slice_index (lengths rows) i
  pub total : sum xs ≡ sum (lengths rows) + left
  pub covered : (i : ℕ) → first (suc i) (gained (lengths rows) xs) ≤ spare + first i (got rows)
  pub positive : AllByRecursion (λ p. 0 < p) xs

-- each row has a node
abbrev pub AreRows : List Row → Type 0
AreRows rows = AllByRecursion (λ row. 0 < row.length) rows

-- ---- each that is listed is a way to go on

tail_nothing : (above spare left : ℕ) → left ≡ 0 → IsTail [] above spare left []
tail_nothing above spare left e = record {
  grows = λ i. omega arith;
  top = omega arith;
  apart = λ i. omega arith;
  total = omega arith;
  covered = λ i. omega (arith, first-zeros (suc i) (gained [] []) (λ j. refl));
  positive = tt;
}

tail_new : (above spare left : ℕ) → left ≤ min (min left spare) above → left ≢ 0 →
    IsTail [] above spare left (left ∷ [])
tail_new above spare left h e = record {
  grows = grows;
  top = omega arith;
  apart = λ i. omega arith;
  total = sum_by-cons (λ x. x) left [] ∙ plain left;
  covered = λ i. omega (arith, first-zeros i (λ j. gained [] (left ∷ []) (suc j)) (λ j. refl));
  positive = (omega arith, tt);
}
  where
    grows : (i : ℕ) → slice_index [] i ≤ slice_index (left ∷ []) i
    grows i = omega arith

    plain : (left : ℕ) → left + 0 ≡ 0 + left
    plain left = omega arith

tail_more : (row : Row) (rows : List Row) (above spare left more : ℕ) (xs : List ℕ) → 0 < row.length →
    row.length ≤ above → more < end_of row above spare left →
    IsTail rows row.length (spare - more + row.gained) (left - more) xs →
    IsTail (row ∷ rows) above spare left ((row.length + more) ∷ xs)
tail_more row rows above spare left more xs pos below lt h = record {
  grows = grows;
  top = omega arith;
  apart = apart;
  total =
      omega (
        arith,
        sum_by-cons (λ x. x) (row.length + more) xs,
        sum_by-cons (λ x. x) row.length (lengths rows),
        h.total,
      );
  covered = covered;
  positive = (omega arith, h.positive);
}
  where
    grows : (i : ℕ) → slice_index (lengths (row ∷ rows)) i ≤ slice_index ((row.length + more) ∷ xs) i
    grows zero = omega arith
    grows (suc i) = h.grows i

    apart : (i : ℕ) → slice_index ((row.length + more) ∷ xs) (suc i) ≤ slice_index (lengths (row ∷ rows)) i
    apart zero = h.top
    apart (suc i) = h.apart i

    covered : (i : ℕ) → first (suc i) (gained (lengths (row ∷ rows)) ((row.length + more) ∷ xs))
        ≤ spare + first i (got (row ∷ rows))
    covered zero = omega arith
    covered (suc i) = omega (arith, h.covered i)

-- What is listed is a way to go on.
pub listed_tails : (rows : List Row) (above spare left : ℕ) → AreRows rows → Falls above rows →
    AllByRecursion (IsTail rows above spare left) (strips rows above spare left)
listed_tails [] above spare left pos falls =
    subst (AllByRecursion (IsTail [] above spare left))
    (sym (strips-nil [] above spare left (min (min left spare) above) (omega arith) refl))
    (settle (le_or_lt left (min (min left spare) above)) (le_or_lt left 0))
  where
    settle : (left ≤ min (min left spare) above) ⊎ (min (min left spare) above < left) → (left ≤ 0) ⊎ (0 < left) →
        AllByRecursion (IsTail [] above spare left) (last_rows (min (min left spare) above) left)
    settle (inr lt) w =
        subst (AllByRecursion (IsTail [] above spare left))
        (sym (last_rows-none (min (min left spare) above) left lt)) tt
    settle (inl le) (inl z) =
        subst (AllByRecursion (IsTail [] above spare left))
        (sym (last_rows-zero (min (min left spare) above) left le (omega arith)))
        (tail_nothing above spare left (omega arith), tt)
    settle (inl le) (inr p) =
        subst (AllByRecursion (IsTail [] above spare left))
        (sym (last_rows-one (min (min left spare) above) left le (λ e. omega arith)))
        (tail_new above spare left le (λ e. omega arith), tt)
listed_tails (row ∷ rows) above spare left (pos, poss) (below, falls) =
    subst (AllByRecursion (IsTail (row ∷ rows) above spare left)) (sym (strips-cons row rows above spare left))
    (all_flat (IsTail (row ∷ rows) above spare left) (block row rows spare left) (down (end_of row above spare left))
    (down_all (λ more. AllByRecursion (IsTail (row ∷ rows) above spare left) (block row rows spare left more))
    (end_of row above spare left)
    (λ more lt. all_map (IsTail (row ∷ rows) above spare left) (λ xs. (row.length + more) ∷ xs)
    (strips rows row.length (spare - more + row.gained) (left - more))
    (all_weaken (IsTail rows row.length (spare - more + row.gained) (left - more))
    (λ xs. IsTail (row ∷ rows) above spare left ((row.length + more) ∷ xs))
    (strips rows row.length (spare - more + row.gained) (left - more))
    (λ xs h. tail_more row rows above spare left more xs pos below lt h)
    (listed_tails rows row.length (spare - more + row.gained) (left - more) poss falls)))))

-- ---- each way to go on is listed

occurs_down : (n k : ℕ) → k < n → Occurs k (down n)
occurs_down zero k lt = absurd (omega arith)
occurs_down (suc n) k lt = settle (le_or_lt n k) (occurs_down n k)
  where
    settle : (n ≤ k) ⊎ (k < n) → (k < n → Occurs k (down n)) → Occurs k (down (suc n))
    settle (inl le) more = inl (omega arith)
    settle (inr l) more = inr (more l)

-- what grows has the greater sum
sum-grows : (xs ys : List ℕ) → ((i : ℕ) → slice_index xs i ≤ slice_index ys i) → sum xs ≤ sum ys
sum-grows xs ys h =
    omega (
      arith,
      first-list (length xs) xs (omega arith),
      first-le (length xs) (λ i. slice_index xs i) (λ i. slice_index ys i) h,
      first-list_le (length xs) ys,
    )

-- Each way to go on is listed.
pub tails_listed : (rows : List Row) (above spare left : ℕ) (xs : List ℕ) → AreRows rows →
    IsTail rows above spare left xs → Occurs xs (strips rows above spare left)
tails_listed [] above spare left [] pos h =
    let none : left ≡ 0 = omega (arith, h.total) in
    subst (Occurs []) (sym (strips-nil [] above spare left (min (min left spare) above) (omega arith) refl
    ∙ last_rows-zero (min (min left spare) above) left (omega arith) none)) (inl refl)
tails_listed [] above spare left (x ∷ []) pos h =
    let all : x ≡ left = omega (arith, h.total, sum_by-cons (λ y. y) x []) in
    let some : 0 < x = h.positive.0 in
    let least : x ≤ above = h.top in
    let spared : x ≤ spare = omega (arith, h.covered 0) in
    subst (Occurs (x ∷ [])) (sym (strips-nil [] above spare left (min (min left spare) above) (omega arith) refl
    ∙ last_rows-one (min (min left spare) above) left (omega arith) (λ e. omega arith)))
    (inl (ap (λ y. y ∷ []) all))
tails_listed [] above spare left (x ∷ y ∷ xs) pos h = absurd (omega (arith, h.apart 0, h.positive.1.0))
tails_listed (row ∷ rows) above spare left [] (pos, poss) h = absurd (omega (arith, h.grows 0))
tails_listed (row ∷ rows) above spare left (x ∷ xs) (pos, poss) h =
    subst (Occurs (x ∷ xs)) (sym (strips-cons row rows above spare left))
    (occurs_flat (block row rows spare left) (x - row.length) (down (end_of row above spare left)) (x ∷ xs)
    (occurs_down (end_of row above spare left) (x - row.length) within)
    (subst (λ y. Occurs (y ∷ xs) (block row rows spare left (x - row.length))) (sym whole)
    (occurs_map (λ below. (row.length + (x - row.length)) ∷ below) xs
    (strips rows row.length (spare - (x - row.length) + row.gained) (left - (x - row.length)))
    (tails_listed rows row.length (spare - (x - row.length) + row.gained) (left - (x - row.length)) xs poss rest))))
  where
    least : row.length ≤ x
    least = h.grows 0

    spared : x - row.length ≤ spare
    spared = omega (arith, h.covered 0)

    few : x - row.length ≤ left
    few =
        omega (
          arith,
          h.total,
          least,
          sum_by-cons (λ y. y) x xs,
          sum_by-cons (λ y. y) row.length (lengths rows),
          sum-grows (lengths rows) xs (λ i. h.grows (suc i)),
        )

    within : x - row.length < end_of row above spare left
    within = omega (arith, least, spared, few, h.top)

    whole : x ≡ row.length + (x - row.length)
    whole = omega (arith, least)

    rest : IsTail rows row.length (spare - (x - row.length) + row.gained) (left - (x - row.length)) xs
    rest = record {
      grows = λ i. h.grows (suc i);
      top = h.apart 0;
      apart = λ i. h.apart (suc i);
      total =
          omega (
            arith,
            h.total,
            least,
            few,
            sum_by-cons (λ y. y) x xs,
            sum_by-cons (λ y. y) row.length (lengths rows),
          );
      covered = λ i. omega (arith, h.covered (suc i), spared);
      positive = h.positive.1;
    }
