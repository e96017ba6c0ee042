-- Rounds over the numbers of nodes that a row may gain, from the most down.
use Rattle.std.proofs.Common.{◌≡◌, ℕ, zero, suc, ◌+◌, ◌-◌, ◌<◌, ◌≤◌, min, List, [], ◌∷◌, ◌++◌, map, flat_map, refl}
use Rattle.std.proofs.Common.{sym, ◌∙◌}
use Rattle.std.proofs.Common.{ap, ap₂, subst, ◌⊎◌, inl, inr, eq-or-lt_of_le, arith, append_assoc, length}
use Rattle.std.specs.List.{range_with_len}
use Rattle.std.proofs.Common.{take, drop, slice_index_or, length-append}
use Rattle.std.proofs.Math.Seq.{take-append_seam}
use Rattle.std.proofs.lemmas.List.{map-append}
use Rattle.std.proofs.lemmas.List.Concat.{flat_map-cons}
use Rattle.sp_defs.specs.Partition.{part}
use Rattle.sp_lists.proofs.Elements.{all_left, all_right, range_snoc}
use Rattle.sp_partition.specs.Held.{IsHeld}
use Rattle.sp_lists.proofs.Places.{rest-cons}
use Rattle.sp_lr.specs.Strips.{strips, down, behind, AreHeld, Falls, all_gained, last_rows}
use Rattle.sp_lr.specs.declared.strips.Row.{Row}

-- what follows where a row gains so many nodes
abbrev pub block : Row → List Row → ℕ → ℕ → ℕ → List (List ℕ)
block row rows spare left more =
    map (λ below. (row.length + more) ∷ below)
    (strips rows row.length (spare - more + row.gained) (left - more))

-- what follows where it gains fewer than n
abbrev pub blocks : Row → List Row → ℕ → ℕ → ℕ → List (List ℕ)
blocks row rows spare left n = flat_map (block row rows spare left) (down n)

-- the most that a row can gain, and one
abbrev pub end_of : Row → ℕ → ℕ → ℕ → ℕ
end_of row above spare left = min (min left spare) (above - row.length) + 1

-- a row goes on by all of these
pub strips-cons : (row : Row) (rows : List Row) (above spare left : ℕ) →
    strips (row ∷ rows) above spare left ≡ blocks row rows spare left (end_of row above spare left)
unfolding strips
strips-cons row rows above spare left = refl

-- behind one member more
pub behind-cons : {X : Type 0} (front : List X) (x : X) (tails : List (List X)) →
    behind front (map (λ below. x ∷ below) tails) ≡ behind (front ++ x ∷ []) tails
behind-cons front x [] = refl
behind-cons front x (tail ∷ tails) = ap₂ (λ t ts. t ∷ ts) (sym (append_assoc front (x ∷ []) tail))
    (behind-cons front x tails)

-- behind nothing
pub behind-nil : {X : Type 0} (tails : List (List X)) → behind [] tails ≡ tails
behind-nil [] = refl
behind-nil (tail ∷ tails) = ap (λ ts. tail ∷ ts) (behind-nil tails)

-- behind two lists joined
pub behind-append : {X : Type 0} (front : List X) (xs ys : List (List X)) →
    behind front (xs ++ ys) ≡ behind front xs ++ behind front ys
behind-append front xs ys = map-append (λ tail. front ++ tail) xs ys

-- one round of the loop
pub round : (before after all : List (List ℕ)) (front grown : List ℕ) (row : Row) (rows : List Row)
    (spare left more : ℕ) → grown ≡ front ++ (row.length + more) ∷ [] →
    after ≡ before ++ behind grown (strips rows row.length (spare - more + row.gained) (left - more)) →
    before ++ behind front (blocks row rows spare left (suc more)) ≡ all →
    after ++ behind front (blocks row rows spare left more) ≡ all
round before after all front grown row rows spare left more grows is so_far =
    ap (λ xs. xs ++ behind front (blocks row rows spare left more))
    (is ∙ ap (λ xs. before ++ behind xs tails) grows ∙ ap (λ xs. before ++ xs) (sym (behind-cons front (row.length
    + more) tails)))
    ∙ append_assoc before (behind front (block row rows spare left more)) (behind front
    (blocks row rows spare left more))
    ∙ ap (λ xs. before ++ xs)
    (sym (behind-append front (block row rows spare left more) (blocks row rows spare left more))
    ∙ ap (behind front) (sym (flat_map-cons (block row rows spare left) more (down more))))
    ∙ so_far
  where
    tails : List (List ℕ)
    tails = strips rows row.length (spare - more + row.gained) (left - more)

held_grown : (front : List ℕ) (x : ℕ) (tails : List (List ℕ)) → AreHeld front (map (λ below. x ∷ below) tails) →
    AreHeld (front ++ x ∷ []) tails
held_grown front x [] h = tt
held_grown front x (tail ∷ tails) (h, hs) =
    (subst IsHeld (sym (append_assoc front (x ∷ []) tail)) h, held_grown front x tails hs)

-- what is held of all is held of each round
pub held_round : (front grown : List ℕ) (row : Row) (rows : List Row) (spare left n more : ℕ) →
    grown ≡ front ++ (row.length + more) ∷ [] → more < n → AreHeld front (blocks row rows spare left n) →
    AreHeld grown (strips rows row.length (spare - more + row.gained) (left - more))
held_round front grown row rows spare left zero more grows lt held = absurd (omega arith)
held_round front grown row rows spare left (suc n) more grows lt held =
    settle (eq-or-lt_of_le last)
    (subst (AreHeld front) (flat_map-cons (block row rows spare left) n (down n)) held)
    (held_round front grown row rows spare left n more grows)
  where
    last : more ≤ n
    last = omega arith

    settle : (more ≡ n) ⊎ (more < n) →
        AreHeld front (block row rows spare left n ++ blocks row rows spare left n) →
        (more < n → AreHeld front (blocks row rows spare left n) →
        AreHeld grown (strips rows row.length (spare - more + row.gained) (left - more))) →
        AreHeld grown (strips rows row.length (spare - more + row.gained) (left - more))
    settle (inl e) h ih =
        subst (λ xs. AreHeld xs (strips rows row.length (spare - more + row.gained) (left - more))) (sym grows)
        (held_grown front (row.length + more) (strips rows row.length (spare - more + row.gained) (left - more))
        (subst (λ m. AreHeld front (block row rows spare left m)) (sym e)
        (all_left (λ tail. IsHeld (front ++ tail)) (block row rows spare left n) (blocks row rows spare left n) h)))
    settle (inr l) h ih =
        ih l (all_right (λ tail. IsHeld (front ++ tail)) (block row rows spare left n) (blocks row rows spare left n) h)

-- ---- the rows of a partition

-- a row as it is made
abbrev pub row_made : List ℕ → List ℕ → ℕ → Row
row_made before last r = record { length = part last r; gained = part last r - part before r }

-- one row more
pub rows_more : (before last : List ℕ) (rows new : List Row) (r a b d : ℕ) → 1 ≤ r → a ≡ part last r →
    b ≡ part last r → d ≡ part before r → rows ≡ map (row_made before last) (range_with_len 1 (r - 1)) →
    new ≡ rows ++ (record { length = a; gained = b - d }) ∷ [] →
    new ≡ map (row_made before last) (range_with_len 1 (r + 1 - 1))
rows_more before last rows new r a b d lo is_a is_b is_d so_far more =
    more
    ∙ ap₂ (λ xs x. xs ++ x ∷ []) so_far (made is_a is_b is_d ∙ ap (row_made before last) (same r lo))
    ∙ sym (map-append (row_made before last) (range_with_len 1 (r - 1)) ((1 + (r - 1)) ∷ []))
    ∙ ap (map (row_made before last)) (sym (range_snoc 1 (r - 1)))
    ∙ ap (λ n. map (row_made before last) (range_with_len 1 n)) (count r lo)
  where
    made : a ≡ part last r → b ≡ part last r → d ≡ part before r →
        (let row : Row = record { length = a; gained = b - d } in row) ≡ row_made before last r
    made is_a is_b is_d = cc

    same : (r : ℕ) → 1 ≤ r → r ≡ 1 + (r - 1)
    same r lo = omega arith

    count : (r : ℕ) → 1 ≤ r → suc (r - 1) ≡ r + 1 - 1
    count r lo = omega arith

-- ---- rows taken one by one

-- the first row, and the others, as a pattern takes them
abbrev pub head : List Row → Row
head rows = slice_index_or rows 0 (record { length = 0; gained = 0 })

abbrev pub rest : List Row → List Row
rest rows = take (length rows - 1) (drop 1 rows)

-- rows are a first one and the others
pub split_rows : (rows : List Row) → 1 ≤ length rows → rows ≡ head rows ∷ rest rows
split_rows [] h = absurd (omega arith)
split_rows (row ∷ rows) h = ap (λ xs. row ∷ xs) (sym (rest-cons row rows))

-- rows that fall, one by one
pub falls_split : (above : ℕ) (rows : List Row) → 1 ≤ length rows → Falls above rows →
    ((head rows).length ≤ above) × Falls (head rows).length (rest rows)
falls_split above rows h f = subst (Falls above) (split_rows rows h) f

-- what all rows have more, one by one
pub gained_split : (rows : List Row) → 1 ≤ length rows → all_gained rows ≡ (head rows).gained + all_gained (rest rows)
gained_split rows h = ap all_gained (split_rows rows h)

-- with some rows the strips are the rounds over the first
pub strips_split : (rows : List Row) (above spare left : ℕ) → 1 ≤ length rows →
    strips rows above spare left ≡ blocks (head rows) (rest rows) spare left (end_of (head rows) above spare left)
strips_split rows above spare left h =
    ap (λ xs. strips xs above spare left) (split_rows rows h) ∙ strips-cons (head rows) (rest rows) above spare left

-- with no rows what is left makes one
pub strips-nil : (rows : List Row) (above spare left most : ℕ) → length rows < 1 → most ≡ min (min left spare) above →
    strips rows above spare left ≡ last_rows most left
unfolding strips
strips-nil [] above spare left most h e = ap (λ m. last_rows m left) (sym e)
strips-nil (row ∷ rows) above spare left most h e = absurd (omega arith)

-- a list that lost its last member
pub without_last : {X : Type 0} (all front left : List X) (x : X) → all ≡ front ++ x ∷ [] →
    left ≡ take (length all - 1) all → left ≡ front
without_last all front left x is taken =
    taken
    ∙ ap (λ xs. take (length xs - 1) xs) is
    ∙ ap (λ n. take n (front ++ x ∷ [])) (omega (arith, length-append front (x ∷ [])))
    ∙ take-append_seam front (x ∷ [])
