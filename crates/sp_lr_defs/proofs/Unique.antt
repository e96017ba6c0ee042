-- A chain is that of one filling alone.
use Rattle.std.proofs.Common.{◌≡◌, ℕ, suc, ◌+◌, ◌<◌, ◌≤◌, List, [], ◌∷◌, length, slice_index, slice_index_or, refl}
use Rattle.std.proofs.Common.{sym, ◌∙◌, ap, ap₂, arith}
use Rattle.std.specs.List.{AllByRecursion}
use Rattle.sp_defs.specs.Partition.{IsPartition}
use Rattle.sp_lists.proofs.Places.{all_at, all_weaken}
use Rattle.sp_lr_defs.specs.Filling.{IsFilling, chain_of, member}
use Rattle.sp_lr_defs.proofs.Sorted.{Rises, count_to, all_counted, place_counted, counted_place}
use Rattle.sp_lr_defs.proofs.Trimmed.{mapped_at}
use Rattle.sp_lr_defs.proofs.Forward.{member_at, member_last, row_rises, row_numbers}

-- lists of one length with the same members at each place are one
list_same : {X : Type 0} (d : X) (xs ys : List X) → length xs ≡ length ys →
    ((i : ℕ) → i < length xs → slice_index_or xs i d ≡ slice_index_or ys i d) → xs ≡ ys
list_same d [] [] e h = refl
list_same d [] (y ∷ ys) e h = absurd (omega arith)
list_same d (x ∷ xs) [] e h = absurd (omega arith)
list_same d (x ∷ xs) (y ∷ ys) e h =
    ap₂ (λ z zs. z ∷ zs) (h 0 (omega arith)) (list_same d xs ys (omega arith) (λ i lt. h (suc i) (omega arith)))

-- lists that increase are one where, for each k, as many of their numbers are at most k
pub rising_same : (m : ℕ) (xs ys : List ℕ) → Rises xs → Rises ys → AllByRecursion (λ v. v ≤ m) xs →
    AllByRecursion (λ v. v ≤ m) ys → ((k : ℕ) → k ≤ m → count_to k xs ≡ count_to k ys) → xs ≡ ys
rising_same m xs ys rx ry hx hy h = list_same 0 xs ys lengths (λ i lt. same i lt)
  where
    lengths : length xs ≡ length ys
    lengths = omega (arith, all_counted m xs hx, all_counted m ys hy, h m (omega arith))

    same : (i : ℕ) → i < length xs → slice_index xs i ≡ slice_index ys i
    same i lt =
        let within : i < length ys = omega (arith, lengths) in
        let small : slice_index xs i ≤ m = all_at (λ v. v ≤ m) xs i 0 hx lt in
        let small' : slice_index ys i ≤ m = all_at (λ v. v ≤ m) ys i 0 hy within in
        let below : slice_index ys i ≤ slice_index xs i =
        counted_place (slice_index xs i) ys ry i
        (omega (arith, place_counted (slice_index xs i) xs rx i lt (omega arith), h (slice_index xs i) small)) in
        let above : slice_index xs i ≤ slice_index ys i =
        counted_place (slice_index ys i) xs rx i
        (omega (arith, place_counted (slice_index ys i) ys ry i within (omega arith), h (slice_index ys i) small')) in
        omega arith

member_same : (lambda : List ℕ) (m : ℕ) (rows rows' : List (List ℕ)) →
    chain_of lambda m rows ≡ chain_of lambda m rows' → (k : ℕ) → k ≤ m → member lambda rows k ≡ member lambda rows' k
member_same lambda m rows rows' e k le =
    ap (member lambda rows) (omega arith)
    ∙ sym (mapped_at (member lambda rows) [] 0 (m + 1) k (omega arith))
    ∙ ap (λ c. slice_index_or c k []) e
    ∙ mapped_at (member lambda rows') [] 0 (m + 1) k (omega arith)
    ∙ ap (member lambda rows') (omega arith)

-- Two fillings over one partition, with one content and one chain, are the same.
pub one_filling : (lambda mu nu nu' : List ℕ) (rows rows' : List (List ℕ)) → IsPartition lambda →
    IsFilling lambda mu nu rows → IsFilling lambda mu nu' rows' →
    chain_of lambda (length mu) rows ≡ chain_of lambda (length mu) rows' → (nu ≡ nu') × (rows ≡ rows')
one_filling lambda mu nu nu' rows rows' hl h h' e = (outer, list_same [] rows rows' height (λ i lt. row_same i))
  where
    outer : nu ≡ nu'
    outer =
        sym (member_last lambda mu nu rows hl h)
        ∙ member_same lambda (length mu) rows rows' e (length mu) (omega arith)
        ∙ member_last lambda mu nu' rows' hl h'

    height : length rows ≡ length rows'
    height = omega (arith, h.height, h'.height, ap length outer)

    most : (nu : List ℕ) (rows : List (List ℕ)) → IsFilling lambda mu nu rows → (i : ℕ) →
        AllByRecursion (λ v. v ≤ length mu) (slice_index_or rows i [])
    most nu rows h i =
        all_weaken (λ k. (1 ≤ k) × (k ≤ length mu)) (λ k. k ≤ length mu) (slice_index_or rows i []) (λ k (lo, hi). hi)
        (row_numbers lambda mu nu rows h i)

    row_same : (i : ℕ) → slice_index_or rows i [] ≡ slice_index_or rows' i []
    row_same i =
        rising_same (length mu) (slice_index_or rows i []) (slice_index_or rows' i []) (row_rises lambda mu nu rows h i)
        (row_rises lambda mu nu' rows' h' i) (most nu rows h i) (most nu' rows' h' i) (λ k le.
        omega (
          arith,
          member_at lambda mu nu rows hl h k i,
          member_at lambda mu nu' rows' hl h' k i,
          ap (λ xs. slice_index xs i) (member_same lambda (length mu) rows rows' e k le),
        ))
