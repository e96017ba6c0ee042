-- One step of the merge of two ascending lists of terms.
use Rattle.std.proofs.Common.{◌≡◌, ◌≢◌, ℕ, ◌-◌, ◌≤◌, true, false, cond, [], ◌∷◌, ◌++◌, take, drop, length, get_or}
use Rattle.std.proofs.Common.{refl, sym, ◌∙◌, ap, ap₂, subst, append_assoc, inl, inr, arith, ℤ, pos, ◌+ℤ◌, ◌<ℤ◌, ◌≤ℤ◌}
use Rattle.std.proofs.Common.{int_lt}
use Rattle.std.proofs.lemmas.Int.{ints}
use Rattle.std.specs.Int.RustNames.{unsigned_abs}
use Rattle.std.proofs.lemmas.Bool.{cases_lt}
use Rattle.std.specs.List.{AllByRecursion, AllWithin}
use Rattle.std.specs.List.Sorted.{IsPartitionedBy}
use Rattle.sp_defs.specs.Laurent.{Laurent, Term, add_term, monomial, size}
use Rattle.sp_lists.proofs.Places.{all_weaken, all_take, all_drop, rest-cons}
use Rattle.sp_lists.proofs.Elements.{all_append}
use Rattle.sp_algebra.proofs.Sizes.{size-append, size-monomial}
use Rattle.sp_algebra.proofs.Coefficients.{Above, Above-lower, Canonical, by_eq}
use Rattle.sp_algebra.proofs.Places.{powers_ascend}
use Rattle.sp_algebra.proofs.Steps.{add_term-append, add_term-above, add_term-same, put-nonzero}

-- powers below k stand before the others
pub parted : (p : Laurent) → Canonical p → (k : ℤ) → IsPartitionedBy (λ t. int_lt t.0 k) p
parted p h k i j d le in_range below = elim (cases_lt i j) [
  | inl lt ↦ grind (arith, ints, powers_ascend p h i j d lt in_range)
  | inr ge ↦ subst (λ n. int_lt (get_or p n d).0 k ≡ true) {x = j} (omega arith) below
]

-- the back of a canonical list is canonical
pub canonical_right : (p q : Laurent) → Canonical (p ++ q) → Canonical q
canonical_right [] q h = h
canonical_right ((k, c) ∷ p) q (ne, (a, h)) = canonical_right p q h

-- what stands above k, element by element
pub all_above : (k : ℤ) (p : Laurent) → Above k p → AllByRecursion (λ t. k <ℤ t.0) p
all_above k [] h = tt
all_above k ((j, c) ∷ p) (lt, h) = (lt, all_above k p h)

-- terms that each stand above k stand above k as a list
pub above_all : (k : ℤ) (p : Laurent) → AllByRecursion (λ t. k <ℤ t.0) p → Above k p
above_all k [] h = tt
above_all k ((j, c) ∷ p) (lt, h) = (lt, above_all k p h)

-- the first term has the power k
pub first_there : (terms : Laurent) (k : ℤ) (d : Term) → Canonical terms → 1 ≤ length terms → (get_or terms 0 d).0 ≡ k
    → monomial k (get_or terms 0 d).1 ++ take (length terms - 1) (drop 1 terms) ≡ terms
first_there [] k d h some same = absurd (omega arith)
first_there ((j, c) ∷ rest) k d (ne, h) some same =
    ap₂ (λ p q. p ++ q) (put-nonzero k c [] ne) (rest-cons (j, c) rest) ∙ ap (λ l. (l, c) ∷ rest) (sym same)

-- the terms behind the first of a canonical list are above its power
pub rest_above : (terms : Laurent) (k : ℤ) (d : Term) → Canonical terms → 1 ≤ length terms → (get_or terms 0 d).0 ≡ k
    → AllByRecursion (λ t. k <ℤ t.0) (take (length terms - 1) (drop 1 terms))
rest_above [] k d h some same = absurd (omega arith)
rest_above ((j, c) ∷ rest) k d (ne, (a, h)) some same =
    subst (λ q. AllByRecursion (λ t. k <ℤ t.0) q) (sym (rest-cons (j, c) rest))
    (all_above k rest (subst (λ l. Above l rest) same a))

-- the first term has another power than k, which no power is below
pub all_above_other : (terms : Laurent) (k : ℤ) (d : Term) → Canonical terms → 1 ≤ length terms
    → AllByRecursion (λ t. k ≤ℤ t.0) terms
    → (get_or terms 0 d).0 ≢ k → AllByRecursion (λ t. k <ℤ t.0) terms
all_above_other [] k d h some high other = absurd (omega arith)
all_above_other ((j, c) ∷ rest) k d (ne, (a, h)) some (le, high) other =
    let e : j ≢ k = other in
    let lt : k <ℤ j = omega (arith, ints) in
    (lt, all_above k rest (Above-lower k j rest lt a))

-- a term is added where its power stands
pub merged : (k c d : ℤ) (below above : Laurent) → AllByRecursion (λ t. t.0 <ℤ k) below
    → AllByRecursion (λ t. k <ℤ t.0) above
    → add_term k c (below ++ (monomial k d ++ above)) ≡ below ++ (monomial k (c +ℤ d) ++ above)
merged k c d below above low high =
    add_term-append k c below (monomial k d ++ above) low ∙ ap (λ q. below ++ q) (by_eq d (pos 0)
    (λ b. add_term k c (cond {A = Laurent} b [] ((k, d) ∷ []) ++ above) ≡ monomial k (c +ℤ d) ++ above)
    (λ e. add_term-above k c above (above_all k above high) ∙ ap (λ x. monomial k x ++ above) (nothing c d e))
    (λ _. add_term-same k c k d above refl))
  where
    nothing : (c d : ℤ) → d ≡ pos 0 → c ≡ c +ℤ d
    nothing c d e = omega (arith, ints)

-- what a partition point at a power says of the two parts
pub below_point : (p : Laurent) (k : ℤ) (n : ℕ) → AllWithin (λ t. int_lt t.0 k ≡ true) p 0 n
    → AllByRecursion (λ t. t.0 <ℤ k) (take n p)
below_point p k n point = all_take (λ t. t.0 <ℤ k) p n
    (λ i d lt in_range. below (get_or p i d).0 k (point i d (omega arith) lt))
  where
    below : (a b : ℤ) → int_lt a b ≡ true → a <ℤ b
    below a b e = grind (arith, ints)

-- from the place where no power is below k, none is
pub above_point : (p : Laurent) (k : ℤ) (n : ℕ) → AllWithin (λ t. int_lt t.0 k ≡ false) p n (length p)
    → AllByRecursion (λ t. k ≤ℤ t.0) (drop n p)
above_point p k n point = all_drop (λ t. k ≤ℤ t.0) p n
    (λ i d le in_range. not_below (get_or p i d).0 k (point i d le in_range))
  where
    not_below : (a b : ℤ) → int_lt a b ≡ false → b ≤ℤ a
    not_below a b e = grind (arith, ints)

-- a part of a list of terms has at most its size
pub there_small : (k d : ℤ) (below others above terms : Laurent) → below ++ others ≡ terms
    → monomial k d ++ above ≡ others → unsigned_abs d ≤ size terms
there_small k d below others above terms e1 e2 =
    omega (
      arith,
      size-append below others,
      ap size e1,
      size-append (monomial k d) above,
      ap size e2,
      size-monomial k d,
    )

-- ---- what the code appends

-- two appended parts, and the rest, in one bracket
pub appended : (sum0 sum1 sum2 below m rest : Laurent) → sum1 ≡ sum0 ++ below → sum2 ≡ sum1 ++ m
    → sum2 ++ rest ≡ sum0 ++ (below ++ (m ++ rest))
appended sum0 sum1 sum2 below m rest e1 e2 =
    ap (λ s. s ++ rest) (e2 ∙ ap (λ s. s ++ m) e1) ∙ append_assoc (sum0 ++ below) m rest
    ∙ append_assoc sum0 below (m ++ rest)

-- no power is above k after parts whose powers are not were appended
pub appended_low : (sum0 sum1 sum2 below m : Laurent) (k : ℤ) → sum1 ≡ sum0 ++ below → sum2 ≡ sum1 ++ m
    → AllByRecursion (λ t. t.0 <ℤ k) below → AllByRecursion (λ t. t.0 ≤ℤ k) m
    → AllByRecursion (λ t. t.0 <ℤ k) sum0 → AllByRecursion (λ t. t.0 ≤ℤ k) sum2
appended_low sum0 sum1 sum2 below m k e1 e2 low low_m low0 =
    let le : (t : Term) → t.0 <ℤ k → t.0 ≤ℤ k = λ t h. omega (arith, ints) in
    let P : Term → Type 0 = λ t. t.0 ≤ℤ k in
    subst (λ q. AllByRecursion P q) (sym (e2 ∙ ap (λ s. s ++ m) e1))
    (all_append P (sum0 ++ below) m
    (all_append P sum0 below (all_weaken (λ t. t.0 <ℤ k) P sum0 le low0) (all_weaken (λ t. t.0 <ℤ k) P below le low))
    low_m)
