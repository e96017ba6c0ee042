-- Sums and products built up term by term, as code builds them; products in either order.
use Rattle.std.proofs.Common.{◌≡◌, ◌≢◌, true, false, cond, [], ◌∷◌, ◌++◌, refl, sym, ◌∙◌, ap, ap₂, subst, arith, ℤ}
use Rattle.std.proofs.Common.{pos, ◌+ℤ◌, ◌-ℤ◌, ◌*ℤ◌, ◌<ℤ◌, Less, Equal, Greater, int_cmp, int_eq}
use Rattle.std.proofs.lemmas.Int.{ints}
use Rattle.std.proofs.Math.IntN.{*ℤ_comm}
use Rattle.std.specs.Ordering.{MatchOrdering}
use Rattle.std.specs.Cmp.{int_ranks}
use Rattle.std.specs.List.{AllByRecursion}
use Rattle.sp_defs.specs.Laurent.{Laurent, coefficient, put, placed, add_term, collect, plus, monomial, times}
use Rattle.sp_algebra.proofs.Whole.{times-+ℤ}
use Rattle.sp_algebra.proofs.Coefficients.{Above, at, by_eq, at-same, at-other, coefficient-append}
use Rattle.sp_algebra.proofs.Coefficients.{coefficient-collect, same_collection, same_laurent}
use Rattle.sp_algebra.proofs.Laws.{IsLaurent-plus, IsLaurent-times, act, act-append, act-sum, coefficient-plus}
use Rattle.sp_algebra.proofs.Laws.{coefficient-times}

-- ---- one term more

-- the last of a list of terms may be added first or last
pub collect-push : (ts : Laurent) (k c : ℤ) → collect (ts ++ ((k, c) ∷ [])) ≡ add_term k c (collect ts)
unfolding collect coefficient
collect-push ts k c = same_collection (ts ++ ((k, c) ∷ [])) ((k, c) ∷ ts) (λ j. coefficient-append ts ((k, c) ∷ []) j
    ∙ omega (arith, ints))

-- like powers may be collected in a part first
pub collect-part : (p q : Laurent) → collect (p ++ collect q) ≡ collect (p ++ q)
collect-part p q = same_collection (p ++ collect q) (p ++ q) (λ j.
    coefficient-append p (collect q) j ∙ ap (λ x. coefficient p j +ℤ x) (coefficient-collect q j)
    ∙ sym (coefficient-append p q j))

-- a term goes past those of lower powers
pub add_term-append : (k c : ℤ) (p q : Laurent) → AllByRecursion (λ t. t.0 <ℤ k) p
    → add_term k c (p ++ q) ≡ p ++ add_term k c q
unfolding add_term
add_term-append k c [] q low = refl
add_term-append k c ((j, d) ∷ p) q (lt, low) =
    elim (int_cmp k j) as (λ o. MatchOrdering o (k <ℤ j) (k ≡ j) (j <ℤ k) → placed o (k, c) (j, d) (p ++ q)
    (add_term k c (p ++ q)) ≡ (j, d) ∷ (p ++ add_term k c q)) [
      | Less ↦ λ h. absurd (omega (arith, ints))
      | Equal ↦ λ h. absurd (omega (arith, ints))
      | Greater ↦ λ h. ap (λ r. (j, d) ∷ r) (add_term-append k c p q low)
    ] (int_ranks k j)

-- a term that isn't 0 stands in front
pub put-nonzero : (k c : ℤ) (p : Laurent) → c ≢ pos 0 → put k c p ≡ (k, c) ∷ p
put-nonzero k c p ne = by_eq c (pos 0) (λ b. cond {A = Laurent} b p ((k, c) ∷ p) ≡ (k, c) ∷ p) (λ e. absurd (ne e))
    (λ _. refl)

-- a term in front, unless it is 0, is the list of the monomial in front
pub put-append : (k c : ℤ) (p : Laurent) → put k c p ≡ monomial k c ++ p
put-append k c p =
    elim (int_eq c (pos 0)) as (λ b. cond {A = Laurent} b p ((k, c) ∷ p) ≡ cond {A = Laurent} b []
    ((k, c) ∷ []) ++ p) [
      | true ↦ refl
      | false ↦ refl
    ]

-- it stands in front of those of higher powers
pub add_term-above : (k c : ℤ) (p : Laurent) → Above k p → add_term k c p ≡ monomial k c ++ p
unfolding add_term
add_term-above k c [] a = put-append k c []
add_term-above k c ((j, d) ∷ p) (lt, a) =
    elim (int_cmp k j) as (λ o. MatchOrdering o (k <ℤ j) (k ≡ j) (j <ℤ k)
    → placed o (k, c) (j, d) p (add_term k c p) ≡ monomial k c ++ ((j, d) ∷ p)) [
      | Less ↦ λ h. put-append k c ((j, d) ∷ p)
      | Equal ↦ λ h. absurd (omega (arith, ints))
      | Greater ↦ λ h. absurd (omega (arith, ints))
    ] (int_ranks k j)

-- at its own power it joins the term there
pub add_term-same : (k c j d : ℤ) (p : Laurent) → k ≡ j → add_term k c ((j, d) ∷ p) ≡ monomial k (c +ℤ d) ++ p
unfolding add_term
add_term-same k c j d p e =
    elim (int_cmp k j) as (λ o. MatchOrdering o (k <ℤ j) (k ≡ j) (j <ℤ k)
    → placed o (k, c) (j, d) p (add_term k c p) ≡ monomial k (c +ℤ d) ++ p) [
      | Less ↦ λ h. absurd (omega (arith, ints))
      | Equal ↦ λ h. put-append k (c +ℤ d) p
      | Greater ↦ λ h. absurd (omega (arith, ints))
    ] (int_ranks k j)

-- ---- products

-- the product of joined lists is the sum of the products
pub times-append : (p q r : Laurent) → times (p ++ q) r ≡ plus (times p r) (times q r)
times-append p q r = same_laurent _ _ (IsLaurent-times (p ++ q) r) (IsLaurent-plus (times p r) (times q r))
    (λ j. coefficient-times (p ++ q) r j ∙ act-append p q (coefficient r) j
    ∙ ap₂ (λ x y. x +ℤ y) (sym (coefficient-times p r j)) (sym (coefficient-times q r j))
    ∙ sym (coefficient-plus (times p r) (times q r) j))

at-swap : (k c l d j : ℤ) → d *ℤ at k c (j -ℤ l) ≡ c *ℤ at l d (j -ℤ k)
at-swap k c l d j =
    by_eq k (j -ℤ l) (λ b. d *ℤ cond b c (pos 0) ≡ c *ℤ at l d (j -ℤ k))
    (λ e. let s : l ≡ j -ℤ k = omega (arith, ints) in subst (λ x. d *ℤ c ≡ c *ℤ at l d x) s (*ℤ_comm d c
    ∙ ap (λ x. c *ℤ x) (sym (at-same l d))))
    (λ ne. let s : l ≢ j -ℤ k = λ e. ne (omega (arith, ints)) in nothing d c
    ∙ ap (λ x. c *ℤ x) (sym (at-other l d (j -ℤ k) s)))
  where
    nothing : (x y : ℤ) → x *ℤ pos 0 ≡ y *ℤ pos 0
    nothing x y = omega (arith, ints)

act-at : (q : Laurent) (k c j : ℤ) → act q (at k c) j ≡ c *ℤ coefficient q (j -ℤ k)
unfolding act coefficient
act-at [] k c j = omega (arith, ints)
act-at ((l, d) ∷ q) k c j = ap₂ (λ x y. x +ℤ y) (at-swap k c l d j) (act-at q k c j)
    ∙ sym (times-+ℤ c (at l d (j -ℤ k)) (coefficient q (j -ℤ k)))

act_comm : (p q : Laurent) (j : ℤ) → act p (coefficient q) j ≡ act q (coefficient p) j
unfolding act coefficient
act_comm [] q j = sym (nothing q j)
  where
    nothing : (q : Laurent) (j : ℤ) → act q (λ i. pos 0) j ≡ pos 0
    nothing [] j = refl
    nothing ((l, d) ∷ q) j = omega (arith, ints, nothing q j)
act_comm ((k, c) ∷ p) q j =
    ap₂ (λ x y. x +ℤ y) (sym (act-at q k c j)) (act_comm p q j) ∙ sym (act-sum q (at k c) (coefficient p) j)

-- a product does not depend on the order of its factors
pub times_comm : (p q : Laurent) → times p q ≡ times q p
times_comm p q = same_laurent _ _ (IsLaurent-times p q) (IsLaurent-times q p)
    (λ j. coefficient-times p q j ∙ act_comm p q j ∙ sym (coefficient-times q p j))
