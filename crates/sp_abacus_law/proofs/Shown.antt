-- The partition that strictly descending numbers show: it is one, it has these numbers, and its degree is their sum
-- but for the sum of those of the empty partition.
use Rattle.std.proofs.Common.{◌≡◌, ℕ, zero, suc, ◌+◌, ◌-◌, ◌<◌, ◌≤◌, List, [], ◌∷◌, ◌⊎◌, inl, inr}
use Rattle.std.proofs.Common.{length, sum, refl, ap, ap₂, arith, ◌∙◌, sym, subst, slice_index}
use Rattle.std.specs.List.{AllByRecursion}
use Rattle.std.proofs.lemmas.List.Sums.{sum_by-cons}
use Rattle.sp_defs.specs.Partition.{degree, IsPartition}
use Rattle.sp_defs.specs.Abacus.{shown}
use Rattle.sp_lists.proofs.Elements.{le_or_lt}
use Rattle.sp_shapes.proofs.Listing.{IsPartition-nil, IsPartition-cons}
use Rattle.sp_abacus_law.specs.Beads.{down, numbers, Falls}
use Rattle.sp_abacus_law.proofs.Falling.{length-down, falls-few, falls-full}
use Rattle.sp_abacus_law.proofs.Numbers.{numbers-nil, shown-more, shown-none}

-- Where the first shows no part, there is no gap at all.
full-first : (b : ℕ) (below : List ℕ) → Falls (b ∷ below) → b ≤ length below → b ∷ below ≡ down (suc (length below))
full-first b below f h = falls-full (b ∷ below) f (omega arith, less)
  where
    less : AllByRecursion (λ c. c < suc (length below)) below
    less = subst (λ n. AllByRecursion (λ c. c < n) below) (same h (falls-few below b f.1 f.0)) (wider below f.0)
      where
        same : b ≤ length below → length below ≤ b → suc b ≡ suc (length below)
        same h k = omega arith

        wider : (xs : List ℕ) → AllByRecursion (λ c. c < b) xs → AllByRecursion (λ c. c < suc b) xs
        wider [] h = tt
        wider (x ∷ xs) (h, hs) = (omega arith, wider xs hs)

-- The first numbers show the empty partition.
pub shown-down : (n : ℕ) → shown (down n) ≡ []
shown-down zero = refl
shown-down (suc n) = shown-none n (down n) (omega (arith, length-down n))

-- The degree is the sum of the numbers less that of the first ones.
pub degree-shown : (bs : List ℕ) → Falls bs → degree (shown bs) + sum (down (length bs)) ≡ sum bs
degree-shown [] f = refl
degree-shown (b ∷ below) f = settle (degree-shown below f.1) (le_or_lt b (length below))
  where
    settle : degree (shown below) + sum (down (length below)) ≡ sum below →
        (b ≤ length below) ⊎ (length below < b) →
        degree (shown (b ∷ below)) + sum (down (suc (length below))) ≡ sum (b ∷ below)
    settle rest (inl h) =
        ap (λ parts. degree parts + sum (down (suc (length below)))) (shown-none b below h)
        ∙ omega arith
        ∙ sym (ap sum (full-first b below f h))
    settle rest (inr h) =
        ap (λ parts. degree parts + sum (down (suc (length below)))) (shown-more b below h)
        ∙ ap₂ (λ m n. m + n) (sum_by-cons (λ x. x) (b - length below) (shown below))
        (sum_by-cons (λ x. x) (length below) (down (length below)))
        ∙ omega arith
        ∙ sym (sum_by-cons (λ x. x) b below)

-- The numbers of the partition that they show are the same again.
pub numbers-shown : (bs : List ℕ) → Falls bs → numbers (shown bs) (length bs) ≡ bs
numbers-shown [] f = refl
numbers-shown (b ∷ below) f = settle (numbers-shown below f.1) (le_or_lt b (length below))
  where
    settle : numbers (shown below) (length below) ≡ below → (b ≤ length below) ⊎ (length below < b) →
        numbers (shown (b ∷ below)) (suc (length below)) ≡ b ∷ below
    settle rest (inl h) =
        ap (λ parts. numbers parts (suc (length below))) (shown-none b below h)
        ∙ numbers-nil (suc (length below))
        ∙ sym (full-first b below f h)
    settle rest (inr h) =
        ap (λ parts. numbers parts (suc (length below))) (shown-more b below h)
        ∙ ap₂ (λ x xs. x ∷ xs) (omega arith) rest

-- The first part with the numbers is within any bound of the numbers.
shown-first : (bs : List ℕ) (n : ℕ) → Falls bs → AllByRecursion (λ c. c < n) bs →
    slice_index (shown bs) 0 + length bs ≤ n
shown-first [] n f h = omega arith
shown-first (b ∷ below) n f (h, hs) = settle (le_or_lt b (length below))
  where
    settle : (b ≤ length below) ⊎ (length below < b) → slice_index (shown (b ∷ below)) 0 + suc (length below) ≤ n
    settle (inl k) =
        subst (λ parts. slice_index parts 0 + suc (length below) ≤ n) (sym (shown-none b below k))
        (omega (arith, falls-few below b f.1 f.0))
    settle (inr k) =
        subst (λ parts. slice_index parts 0 + suc (length below) ≤ n) (sym (shown-more b below k)) (omega arith)

-- Numbers that fall show a partition,
pub shown-partition : (bs : List ℕ) → Falls bs → IsPartition (shown bs)
shown-partition [] f = IsPartition-nil
shown-partition (b ∷ below) f = settle (shown-partition below f.1) (le_or_lt b (length below))
  where
    settle : IsPartition (shown below) → (b ≤ length below) ⊎ (length below < b) → IsPartition (shown (b ∷ below))
    settle rest (inl h) = subst IsPartition (sym (shown-none b below h)) IsPartition-nil
    settle rest (inr h) =
        subst IsPartition (sym (shown-more b below h))
        (IsPartition-cons (b - length below) (shown below) (omega arith)
        (let first = shown-first below b f.1 f.0 in omega arith)
        rest)

-- which has no more parts than they are.
pub shown-short : (bs : List ℕ) → length (shown bs) ≤ length bs
shown-short [] = omega arith
shown-short (b ∷ below) = settle (shown-short below) (le_or_lt b (length below))
  where
    settle : length (shown below) ≤ length below → (b ≤ length below) ⊎ (length below < b) →
        length (shown (b ∷ below)) ≤ suc (length below)
    settle rest (inl h) =
        subst (λ parts. length parts ≤ suc (length below)) (sym (shown-none b below h)) (omega arith)
    settle rest (inr h) =
        subst (λ parts. length parts ≤ suc (length below)) (sym (shown-more b below h)) (omega arith)
