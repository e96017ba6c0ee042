-- Factorials and products of hook lengths.
use Rattle.std.proofs.Common.{◌≡◌, ℕ, zero, suc, ◌+◌, ◌-◌, ◌*◌, ◌/◌, ◌^◌, ◌<◌, ◌≤◌, true, List, [], ◌∷◌}
use Rattle.std.proofs.Common.{◌++◌, map, take}
use Rattle.std.proofs.Common.{length, get_or, sym, ◌∙◌, ap, subst, arith, mul-le-mul, lit<, mul_assoc}
use Rattle.std.specs.List.{AllByRecursion}
use Rattle.std.proofs.lemmas.List.{take_more, map-append}
use native.Mathlib.Nat.{div-div-eq-div-mul, div-one}
use Rattle.sp_defs.specs.Node.{nodes, in_diagram}
use Rattle.sp_shapes.proofs.Diagram.{all_nodes, in_node}
use Rattle.sp_module_defs.specs.Dims.{factorial, product}

factorial-rises : (n d : ℕ) → factorial n ≤ factorial (d + n)
unfolding factorial
factorial-rises n zero = subst (λ m. factorial n ≤ factorial m) (plain n) (omega arith)
  where
    plain : (n : ℕ) → n ≡ 0 + n
    plain n = omega arith
factorial-rises n (suc d) =
    subst (λ m. factorial n ≤ factorial m) (next n d)
    (grown (d + n) (factorial n) (factorial (d + n)) (factorial-rises n d))
  where
    next : (n d : ℕ) → suc (d + n) ≡ suc d + n
    next n d = omega arith

    grown : (k a b : ℕ) → a ≤ b → a ≤ suc k * b
    grown k a b h = let more : 1 * b ≤ suc k * b = mul-le-mul (omega arith) (omega arith) in omega arith

-- All factorials that are asked for are small.
pub factorial-small : (n : ℕ) → n ≤ 32 → factorial n < 2 ^ 127
unfolding factorial
factorial-small n h =
    let top : factorial 32 < 2 ^ 127 = lit< tt in
    let below : factorial n ≤ factorial (32 - n + n) = factorial-rises n (32 - n) in
    let count : 32 - n + n ≡ 32 = omega arith in
    let whole : factorial (32 - n + n) ≡ factorial 32 = ap factorial count in
    omega arith

-- The factorial of n is n times that of the number before.
pub factorial-next : (n : ℕ) → 1 ≤ n → factorial (n - 1) * n ≡ factorial (n + 1 - 1)
unfolding factorial
factorial-next n h =
    turned (n - 1) n (factorial (n - 1)) (omega arith) ∙ ap factorial (whole h)
  where
    whole : 1 ≤ n → suc (n - 1) ≡ n + 1 - 1
    whole h = omega arith

    turned : (k n f : ℕ) → n ≡ suc k → f * n ≡ suc k * f
    turned k n f e = ap (λ m. f * m) e ∙ grind arith

product-snoc : (xs : List ℕ) (x : ℕ) → product (xs ++ x ∷ []) ≡ product xs * x
unfolding product
product-snoc [] x = grind arith
product-snoc (y ∷ ys) x = ap (λ n. y * n) (product-snoc ys x) ∙ sym (mul_assoc y (product ys) x)

-- Divided by one factor more.
pub divided-next : {X : Type 0} (f : X → ℕ) (xs : List X) (i n : ℕ) (d : X) → i < length xs →
    n / product (map f (take i xs)) / f (get_or xs i d) ≡ n / product (map f (take (i + 1) xs))
divided-next f xs i n d lt =
    div-div-eq-div-mul n (product (map f (take i xs))) (f (get_or xs i d))
    ∙ ap (λ m. n / m)
    (sym (ap (λ ys. product (map f ys)) (take_more xs i d lt)
    ∙ ap product (map-append f (take i xs) (get_or xs i d ∷ []))
    ∙ product-snoc (map f (take i xs)) (f (get_or xs i d))))

-- The nodes of a diagram are in the diagram.
pub nodes_inside : (parts : List ℕ) → AllByRecursion (λ x. in_diagram parts x ≡ true) (nodes parts)
nodes_inside parts =
    all_nodes (λ x. in_diagram parts x ≡ true) parts (λ r c hr hc h. in_node parts r c hr hc h)

-- A number that is divided by no factor stays.
pub nothing-divided : (n : ℕ) → n ≡ n / product []
unfolding product
nothing-divided n = sym (div-one n)
