-- The beta numbers of a partition descend strictly, and they show it.
use Rattle.std.proofs.Common.{◌≡◌, ℕ, zero, suc, ◌+◌, ◌-◌, ◌*◌, ◌/◌, ◌%◌, ◌<◌, ◌≤◌, List, [], ◌∷◌, map}
use Rattle.std.proofs.Common.{Bool, cond, length, refl, ap, ap₂, arith, ◌∙◌, sym, subst}
use Rattle.std.proofs.Common.{slice_index, lt-ltb, le-ltb}
use Rattle.std.specs.List.{AllByRecursion, range_with_len}
use Rattle.sp_defs.specs.Partition.{part, from_one_to, IsPartition}
use Rattle.sp_defs.specs.Abacus.{beads, beta, shown}
use Rattle.sp_lists.proofs.Places.{all_weaken}
use Rattle.sp_shapes.proofs.Diagram.{IsPartition-tail, IsPartition-head}
use Rattle.sp_abacus_law.specs.Beads.{down, numbers, Falls}

-- ---- the definition, and the recursion

numbers-map : (f : ℕ → ℕ) (a k : ℕ) (parts : List ℕ) →
    ((j : ℕ) → j < k → f (a + j) + j + 1 ≡ slice_index parts j + k) → map f (range_with_len a k) ≡ numbers parts k
numbers-map f a zero parts h = refl
numbers-map f a (suc k) [] h = ap₂ (λ x xs. x ∷ xs) (first (h 0 (omega arith))) (numbers-map f (a + 1) k [] more)
  where
    place : a + 0 ≡ a
    place = omega arith

    first : f (a + 0) + 0 + 1 ≡ 0 + suc k → f a ≡ k
    first e = ap f (sym place) ∙ omega arith

    moved : (j : ℕ) → a + suc j ≡ a + 1 + j
    moved j = omega arith

    more : (j : ℕ) → j < k → f (a + 1 + j) + j + 1 ≡ 0 + k
    more j lt = let one = h (suc j) (omega arith) in omega (arith, one, ap f (moved j))
numbers-map f a (suc k) (p ∷ parts) h =
    ap₂ (λ x xs. x ∷ xs) (first (h 0 (omega arith))) (numbers-map f (a + 1) k parts more)
  where
    place : a + 0 ≡ a
    place = omega arith

    first : f (a + 0) + 0 + 1 ≡ p + suc k → f a ≡ p + k
    first e = ap f (sym place) ∙ omega arith

    moved : (j : ℕ) → a + suc j ≡ a + 1 + j
    moved j = omega arith

    more : (j : ℕ) → j < k → f (a + 1 + j) + j + 1 ≡ slice_index parts j + k
    more j lt = let one = h (suc j) (omega arith) in omega (arith, one, ap f (moved j))

-- Row by row they are the numbers by recursion.
pub rows-numbers : (parts : List ℕ) (k : ℕ) → map (λ a. part parts a + k - a) (from_one_to k) ≡ numbers parts k
rows-numbers parts k = numbers-map (λ a. part parts a + k - a) 1 k parts here
  where
    place : (j : ℕ) → 1 + j - 1 ≡ j
    place j = omega arith

    here : (j : ℕ) → j < k → (part parts (1 + j) + k - (1 + j)) + j + 1 ≡ slice_index parts j + k
    here j lt = settle (slice_index parts (1 + j - 1)) (slice_index parts j) (ap (slice_index parts) (place j))
      where
        settle : (x y : ℕ) → x ≡ y → (x + k - (1 + j)) + j + 1 ≡ y + k
        settle x y same = omega arith

-- So are the beta numbers.
pub beta-numbers : (e : ℕ) (parts : List ℕ) → beta e parts ≡ numbers parts (beads e parts)
beta-numbers e parts = rows-numbers parts (beads e parts)

-- The beads of the empty partition stand at the first numbers.
pub numbers-nil : (k : ℕ) → numbers [] k ≡ down k
numbers-nil zero = refl
numbers-nil (suc k) = ap (λ xs. k ∷ xs) (numbers-nil k)

-- There are k beads.
pub length-numbers : (parts : List ℕ) (k : ℕ) → length (numbers parts k) ≡ k
length-numbers parts zero = refl
length-numbers [] (suc k) = ap suc (length-numbers [] k)
length-numbers (p ∷ parts) (suc k) = ap suc (length-numbers parts k)

-- ---- they descend

-- Their numbers are below the first part and k together.
pub numbers-below : (parts : List ℕ) (k q : ℕ) → IsPartition parts → slice_index parts 0 ≤ q →
    AllByRecursion (λ c. c < q + k) (numbers parts k)
numbers-below parts zero q h le = tt
numbers-below [] (suc k) q h le = (
  omega arith,
  all_weaken (λ c. c < q + k) (λ c. c < q + suc k) (numbers [] k) (λ c lt. omega arith)
      (numbers-below [] k q h le),
)
numbers-below (p ∷ parts) (suc k) q h le = (
  omega arith,
  all_weaken (λ c. c < q + k) (λ c. c < q + suc k) (numbers parts k) (λ c lt. omega arith)
      (numbers-below parts k q (IsPartition-tail p parts h) (let next : slice_index parts 0 ≤ p = h.descending 0 in
      omega arith)),
)

-- They fall.
pub numbers-falls : (parts : List ℕ) (k : ℕ) → IsPartition parts → Falls (numbers parts k)
numbers-falls parts zero h = tt
numbers-falls [] (suc k) h = (
  all_weaken (λ c. c < 0 + k) (λ c. c < k) (numbers [] k) (λ c lt. omega arith)
      (numbers-below [] k 0 h (omega arith)),
  numbers-falls [] k h,
)
numbers-falls (p ∷ parts) (suc k) h = (
  numbers-below parts k p (IsPartition-tail p parts h) (h.descending 0),
  numbers-falls parts k (IsPartition-tail p parts h),
)

-- ---- what they show

abbrev shown_first : Bool → ℕ → List ℕ → List ℕ
shown_first v b below = cond v ((b - length below) ∷ shown below) []

-- A bead with room below it shows a part,
pub shown-more : (b : ℕ) (below : List ℕ) → length below < b → shown (b ∷ below) ≡ (b - length below) ∷ shown below
shown-more b below h = ap (λ v. shown_first v b below) (lt-ltb (length below) b h)

-- and one with none shows nothing more.
pub shown-none : (b : ℕ) (below : List ℕ) → b ≤ length below → shown (b ∷ below) ≡ []
shown-none b below h = ap (λ v. shown_first v b below) (le-ltb (length below) b h)

-- The numbers of a partition show it.
pub shown-numbers : (parts : List ℕ) (k : ℕ) → IsPartition parts → length parts ≤ k → shown (numbers parts k) ≡ parts
shown-numbers [] zero h le = refl
shown-numbers (p ∷ parts) zero h le = absurd (omega arith)
shown-numbers [] (suc k) h le = shown-none k (numbers [] k) (omega (arith, length-numbers [] k))
shown-numbers (p ∷ parts) (suc k) h le =
    let positive = IsPartition-head p parts h in
    let len = length-numbers parts k in
    shown-more (p + k) (numbers parts k) (omega arith)
    ∙ ap₂ (λ x xs. x ∷ xs) (omega arith) (shown-numbers parts k (IsPartition-tail p parts h) (omega arith))

-- The beads are at least as many as the parts.
pub beads-enough : (e : ℕ) (parts : List ℕ) → 1 ≤ e → length parts ≤ beads e parts
beads-enough e parts h = enough (length parts) ((length parts + (e - 1)) / e) ((length parts + (e - 1)) % e) e
    (omega arith) (omega arith)
  where
    enough : (n q r e : ℕ) → e * q + r ≡ n + (e - 1) → r < e → n ≤ q * e
    enough n q r e eq lt = omega arith

-- So do its beta numbers.
pub shown-beta : (e : ℕ) (parts : List ℕ) → 1 ≤ e → IsPartition parts → shown (beta e parts) ≡ parts
shown-beta e parts he h =
    ap shown (beta-numbers e parts) ∙ shown-numbers parts (beads e parts) h (beads-enough e parts he)

-- They fall,
pub beta-falls : (e : ℕ) (parts : List ℕ) → IsPartition parts → Falls (beta e parts)
beta-falls e parts h = subst Falls (sym (beta-numbers e parts)) (numbers-falls parts (beads e parts) h)

-- and are as many as the beads.
pub length-beta : (e : ℕ) (parts : List ℕ) → length (beta e parts) ≡ beads e parts
length-beta e parts = ap length (beta-numbers e parts) ∙ length-numbers parts (beads e parts)
