-- The sum of the products along a row, one product at a time.
use Rattle.std.proofs.Common.{◌≡◌, ℕ, zero, suc, ◌+◌, ◌-◌, ◌*◌, ◌<◌, ◌≤◌, List, [], ◌∷◌, map, take, length, get_or}
use Rattle.std.proofs.Common.{refl, sym, ◌∙◌, ap, ap₂, subst, arith, ℤ, pos, ◌+ℤ◌, ◌-ℤ◌, ◌*ℤ◌}
use Rattle.std.specs.Int.RustNames.{unsigned_abs}
use Rattle.std.specs.List.{zip}
use Rattle.std.proofs.lemmas.Int.{ints}
use Rattle.sp_defs.specs.Laurent.{Laurent, int_sum, value_at_one, slope_at_one}
use Rattle.sp_laurent.proofs.Slopes.{slope_weight, slope-more, slope_le, weight-more, weight_more_le}
use Rattle.sp_dims.specs.Equation.{products_of, products_weight}

take-zip : {X Y : Type 0} (vs : List X) (xs : List Y) (i : ℕ) → zip vs (take i xs) ≡ take i (zip vs xs)
take-zip [] xs zero = refl
take-zip [] xs (suc i) = refl
take-zip (v ∷ vs) [] zero = refl
take-zip (v ∷ vs) [] (suc i) = refl
take-zip (v ∷ vs) (x ∷ xs) zero = refl
take-zip (v ∷ vs) (x ∷ xs) (suc i) = ap (λ ts. (v, x) ∷ ts) (take-zip vs xs i)

take-products : (cells : List Laurent) (known : List ℤ) (i : ℕ) →
    products_of cells (take i known) ≡ take i (products_of cells known)
unfolding products_of
take-products cells known i = take-zip (map value_at_one cells) known i

length-products : (cells : List Laurent) (known : List ℤ) → length known ≤ length cells →
    length (products_of cells known) ≡ length known
unfolding products_of
length-products [] [] h = refl
length-products [] (x ∷ xs) h = absurd (omega arith)
length-products (p ∷ cells) [] h = refl
length-products (p ∷ cells) (x ∷ xs) h = ap suc (length-products cells xs (omega arith))

at-products : (cells : List Laurent) (known : List ℤ) (i : ℕ) → i < length known → length known ≤ length cells →
    get_or (products_of cells known) i (pos 0, pos 0) ≡ (value_at_one (get_or cells i []), get_or known i (pos 0))
unfolding products_of
at-products cells [] i lt h = absurd (omega arith)
at-products [] (x ∷ xs) i lt h = absurd (omega arith)
at-products (p ∷ cells) (x ∷ xs) zero lt h = refl
at-products (p ∷ cells) (x ∷ xs) (suc i) lt h = at-products cells xs i (omega arith) (omega arith)

-- No products leave the number.
pub products-none : (cells : List Laurent) (n : ℕ) → pos n ≡ pos n -ℤ slope_at_one (products_of cells [])
unfolding products_of int_sum
products-none [] n = omega (arith, ints)
products-none (p ∷ cells) n = omega (arith, ints)

-- No products weigh 0.
pub weight-none : (cells : List Laurent) → products_weight cells [] ≡ 0
unfolding products_of products_weight
weight-none [] = refl
weight-none (p ∷ cells) = refl

-- One product more.
module _
    (cells : List Laurent) (known : List ℤ) (i : ℕ) (m x : ℤ) (lt : i < length known)
    (wide : length known ≤ length cells) (cell : m ≡ value_at_one (get_or cells i []))
    (simple : x ≡ get_or known i (pos 0)) where
  abbrev all : Laurent
  all = products_of cells known

  here : get_or all i (pos 0, pos 0) ≡ (m, x)
  here = at-products cells known i lt wide ∙ ap₂ (λ a b. (a, b)) (sym cell) (sym simple)

  inside : i < length all
  inside = omega (arith, length-products cells known wide)

  slope_next : slope_at_one (products_of cells (take (i + 1) known)) ≡
      slope_at_one (products_of cells (take i known)) +ℤ m *ℤ x
  slope_next =
      ap slope_at_one (take-products cells known (i + 1))
      ∙ slope-more all i (pos 0, pos 0) inside
      ∙ ap₂ (λ s t. s +ℤ t.0 *ℤ t.1) (ap slope_at_one (sym (take-products cells known i))) here

  weight_next : products_weight cells (take (i + 1) known) ≡
      products_weight cells (take i known) + unsigned_abs m * unsigned_abs x
  unfolding products_weight
  weight_next =
      ap slope_weight (take-products cells known (i + 1))
      ∙ weight-more all i (pos 0, pos 0) inside
      ∙ ap₂ (λ s t. s + unsigned_abs t.0 * unsigned_abs t.1) (ap slope_weight (sym (take-products cells known i))) here

  weight_below : products_weight cells (take i known) + unsigned_abs m * unsigned_abs x ≤ products_weight cells known
  unfolding products_weight
  weight_below =
      subst (λ w. w ≤ products_weight cells known)
      (ap₂ (λ s t. s + unsigned_abs t.0 * unsigned_abs t.1) (ap slope_weight (sym (take-products cells known i))) here)
      (weight_more_le all i (pos 0, pos 0) inside)

  -- A product that doesn't fit in the room passes the limit.
  pub product_passes : (number room limit : ℕ) → number + products_weight cells (take i known) + room ≡ limit →
      room < unsigned_abs m * unsigned_abs x → limit < number + products_weight cells known
  product_passes number room limit whole heavy = omega (arith, weight_below)

  -- What a product leaves of the room.
  pub room_next : (number room limit : ℕ) → number + products_weight cells (take i known) + room ≡ limit →
      unsigned_abs m * unsigned_abs x ≤ room →
      number + products_weight cells (take (i + 1) known) + (room - unsigned_abs m * unsigned_abs x) ≡ limit
  room_next number room limit whole light = omega (arith, weight_next)

  -- What a product leaves of the number.
  pub dim_next : (dim : ℤ) (number : ℕ) → dim ≡ pos number -ℤ slope_at_one (products_of cells (take i known)) →
      dim -ℤ m *ℤ x ≡ pos number -ℤ slope_at_one (products_of cells (take (i + 1) known))
  dim_next dim number is =
      ap (λ d. d -ℤ m *ℤ x) is
      ∙ regrouped (pos number) (slope_at_one (products_of cells (take i known))) (m *ℤ x)
      (slope_at_one (products_of cells (take (i + 1) known))) slope_next
    where
      regrouped : (n s t u : ℤ) → u ≡ s +ℤ t → (n -ℤ s) -ℤ t ≡ n -ℤ u
      regrouped n s t u e = omega (arith, ints)

-- What is left of the number and the room that is left stay within the limit.
pub within_limit : (cells : List Laurent) (known : List ℤ) (dim : ℤ) (number room limit : ℕ) →
    dim ≡ pos number -ℤ slope_at_one (products_of cells known) →
    number + products_weight cells known + room ≡ limit → unsigned_abs dim + room ≤ limit
unfolding products_weight
within_limit cells known dim number room limit is whole =
    subst (λ d. unsigned_abs d + room ≤ limit) (sym is)
    (bounded (slope_at_one (products_of cells known)) (products_weight cells known)
    (slope_le (products_of cells known)) whole)
  where
    bounded : (s : ℤ) (w : ℕ) → unsigned_abs s ≤ w → number + w + room ≡ limit →
        unsigned_abs (pos number -ℤ s) + room ≤ limit
    bounded s w h e = omega (arith, ints)
