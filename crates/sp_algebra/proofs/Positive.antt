-- Polynomials whose coefficients are all positive: sums of them are, and so are sums of powers of v.
use Rattle.std.proofs.Common.{true, false, cond, List, [], ◌∷◌, ◌++◌, arith, ℤ, pos, ◌+ℤ◌, ◌<ℤ◌, Less, Equal}
use Rattle.std.proofs.Common.{Greater, int_cmp, int_eq}
use Rattle.std.proofs.lemmas.Int.{ints}
use Rattle.std.specs.List.{AllByRecursion}
use Rattle.sp_defs.specs.Laurent.{Laurent, put, placed, add_term, collect, plus, power, sum_over}
use Rattle.sp_lists.proofs.Elements.{all_append}

-- all coefficients are positive
abbrev pub AllPositive : Laurent → Type 0
AllPositive p = AllByRecursion (λ t. pos 0 <ℤ t.1) p

positive_put : (k c : ℤ) (p : Laurent) → pos 0 <ℤ c → AllPositive p → AllPositive (put k c p)
positive_put k c p hc h =
    elim (int_eq c (pos 0)) as (λ b. AllPositive (cond b p ((k, c) ∷ p))) [ true ↦ h | false ↦ (hc, h) ]

positive_add_term : (k c : ℤ) (p : Laurent) → pos 0 <ℤ c → AllPositive p → AllPositive (add_term k c p)
unfolding add_term
positive_add_term k c [] hc h = positive_put k c [] hc tt
positive_add_term k c ((j, d) ∷ p) hc (hd, h) =
    elim (int_cmp k j) as (λ o. AllPositive (placed o (k, c) (j, d) p (add_term k c p))) [
      | Less ↦ positive_put k c ((j, d) ∷ p) hc (hd, h)
      | Equal ↦ positive_put k (c +ℤ d) p (omega (arith, ints)) h
      | Greater ↦ (hd, positive_add_term k c p hc h)
    ]

-- collecting like powers keeps coefficients positive
pub positive_collect : (ts : Laurent) → AllPositive ts → AllPositive (collect ts)
unfolding collect
positive_collect [] h = tt
positive_collect ((k, c) ∷ ts) (hc, h) = positive_add_term k c (collect ts) hc (positive_collect ts h)

-- a sum of polynomials with positive coefficients has positive ones
pub positive_plus : (p q : Laurent) → AllPositive p → AllPositive q → AllPositive (plus p q)
unfolding plus
positive_plus p q hp hq = positive_collect (p ++ q) (all_append (λ t. pos 0 <ℤ t.1) p q hp hq)

-- a sum of powers of v
pub positive_sum : {X : Type 0} (xs : List X) (f : X → ℤ) → AllPositive (sum_over xs (λ x. power (f x)))
unfolding sum_over
positive_sum [] f = tt
positive_sum (x ∷ xs) f =
    positive_plus (power (f x)) (sum_over xs (λ x. power (f x))) ((omega (arith, ints), tt)) (positive_sum xs f)
