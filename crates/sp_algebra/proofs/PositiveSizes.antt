-- Where all coefficients are positive nothing cancels: the size of a sum is the sum of the sizes.
use Rattle.std.proofs.Common.{◌≡◌, ◌+◌, List, [], ◌∷◌, ◌++◌, refl, sym, ◌∙◌, ap, arith}
use Rattle.std.proofs.Common.{ℤ, pos, negsuc, ◌+ℤ◌, ◌<ℤ◌, Less, Equal, Greater, int_cmp, sum_by, unsigned_abs}
use Rattle.std.proofs.lemmas.Int.{ints}
use Rattle.std.specs.List.{AllByRecursion}
use Rattle.std.proofs.lemmas.List.Sums.{sum_by-cons}
use Rattle.sp_defs.specs.Laurent.{Laurent, placed, add_term, collect, plus, times, products, power, sum_over, size}
use Rattle.sp_lists.proofs.Elements.{all_append}
use Rattle.sp_algebra.proofs.Sizes.{size-cons, size-append, size-put}
use Rattle.sp_algebra.proofs.Canonical.{products-power, shifted}
use Rattle.sp_algebra.proofs.Positive.{AllPositive, positive_collect, positive_plus}

abs-sum : (c d : ℤ) → pos 0 <ℤ c → pos 0 <ℤ d → unsigned_abs (c +ℤ d) ≡ unsigned_abs c + unsigned_abs d
abs-sum (pos m) (pos n) hc hd = refl
abs-sum (pos m) (negsuc n) hc hd = absurd (omega (arith, ints, hd))
abs-sum (negsuc m) d hc hd = absurd (omega (arith, ints, hc))

size-add_term : (k c : ℤ) (p : Laurent) → pos 0 <ℤ c → AllPositive p → size (add_term k c p) ≡ unsigned_abs c + size p
unfolding add_term
size-add_term k c [] hc h = size-put k c []
size-add_term k c ((j, d) ∷ p) hc (hd, h) =
    elim (int_cmp k j) as (λ o. size (placed o (k, c) (j, d) p (add_term k c p)) ≡ unsigned_abs c + size ((j, d) ∷ p)) [
      | Less ↦ size-put k c ((j, d) ∷ p)
      | Equal ↦
          omega (arith, size-put k (c +ℤ d) p, abs-sum c d hc hd, size-cons j d p)
      | Greater ↦ omega (arith, size-cons j d (add_term k c p), size-add_term k c p hc h, size-cons j d p)
    ]

-- where all coefficients are positive, collecting like powers keeps the size
pub size-collect : (ts : Laurent) → AllPositive ts → size (collect ts) ≡ size ts
unfolding collect
size-collect [] h = refl
size-collect ((k, c) ∷ ts) (hc, h) =
    size-add_term k c (collect ts) hc (positive_collect ts h)
    ∙ ap (λ n. unsigned_abs c + n) (size-collect ts h) ∙ sym (size-cons k c ts)

-- where all coefficients are positive, the size of a sum is the sum of the sizes
pub size-plus : (p q : Laurent) → AllPositive p → AllPositive q → size (plus p q) ≡ size p + size q
unfolding plus
size-plus p q hp hq = size-collect (p ++ q) (all_append (λ t. pos 0 <ℤ t.1) p q hp hq) ∙ size-append p q

-- ---- times a power

positive-shifted : (k : ℤ) (p : Laurent) → AllPositive p → AllPositive (shifted k p)
positive-shifted k [] h = tt
positive-shifted k ((j, c) ∷ p) (hc, h) = (hc, positive-shifted k p h)

size-shifted : (k : ℤ) (p : Laurent) → size (shifted k p) ≡ size p
size-shifted k [] = refl
size-shifted k ((j, c) ∷ p) =
    size-cons (k +ℤ j) c (shifted k p) ∙ ap (λ n. unsigned_abs c + n) (size-shifted k p) ∙ sym (size-cons j c p)

-- a power of v times positive coefficients has positive ones
pub positive-power_times : (k : ℤ) (p : Laurent) → AllPositive p → AllPositive (times (power k) p)
unfolding times
positive-power_times k p h =
    let shift : AllPositive (products (power k) p) = rw (products-power k p) (positive-shifted k p h) in
    positive_collect (products (power k) p) shift

-- where all coefficients are positive, a power of v as a factor keeps the size
pub size-power_times : (k : ℤ) (p : Laurent) → AllPositive p → size (times (power k) p) ≡ size p
unfolding times
size-power_times k p h =
    ap (λ ts. size (collect ts)) (products-power k p) ∙ size-collect (shifted k p) (positive-shifted k p h)
    ∙ size-shifted k p

-- ---- sums over lists

-- a sum over a list of polynomials with positive coefficients has positive ones
pub positive-sum_over : {X : Type 0} (xs : List X) (f : X → Laurent) → AllByRecursion (λ x. AllPositive (f x)) xs →
    AllPositive (sum_over xs f)
unfolding sum_over
positive-sum_over [] f h = tt
positive-sum_over (x ∷ xs) f (h, hs) = positive_plus (f x) (sum_over xs f) h (positive-sum_over xs f hs)

-- where all coefficients are positive, the size of a sum over a list is the sum of the sizes
pub size-sum_over : {X : Type 0} (xs : List X) (f : X → Laurent) → AllByRecursion (λ x. AllPositive (f x)) xs →
    size (sum_over xs f) ≡ sum_by (λ x. size (f x)) xs
unfolding sum_over
size-sum_over [] f h = refl
size-sum_over (x ∷ xs) f (h, hs) =
    size-plus (f x) (sum_over xs f) h (positive-sum_over xs f hs)
    ∙ ap (λ n. size (f x) + n) (size-sum_over xs f hs) ∙ sym (sum_by-cons (λ x. size (f x)) x xs)
