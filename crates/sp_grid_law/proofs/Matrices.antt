-- Square matrices of polynomials, as functions of two places: products associate, and 1 on the diagonal is neutral.
use Rattle.std.proofs.Common.{◌≡◌, ◌≢◌, ℕ, ◌<◌, true, false, cond, nat_eq}
use Rattle.std.proofs.Common.{List, [], refl, sym, ◌∙◌, ap, ap₂, subst, arith}
use Rattle.std.proofs.Common.{eq-eqb, ne_eqb}
use Rattle.std.specs.List.{range_with_len}
use Rattle.sp_defs.specs.Laurent.{Laurent, IsLaurent, collect, one, times, sum_over, add_term}
use Rattle.sp_algebra.proofs.Laws.{one_times, times_assoc, times_nought, nought_times}
use Rattle.sp_algebra.proofs.Sums.{times-sum_over}
use Rattle.sp_grid_law.specs.Tables.{delta}
use Rattle.sp_grid_law.proofs.Sums.{sum_over-times, sum_over-exchange, sum_over-range, sum_over-single, times-collect}
use Rattle.sp_grid_law.proofs.Sums.{times_one-collect}
use Rattle.sp_algebra.proofs.Coefficients.{IsLaurent-collect}

abbrev pub Matrix : Type 0
Matrix = ℕ → ℕ → Laurent

-- The product of two matrices with n lines and columns.
abbrev pub mul : ℕ → Matrix → Matrix → Matrix
mul n A B i j = sum_over (range_with_len 0 n) (λ k. times (A i k) (B k j))

-- 1 stands at equal places.
pub delta-same : (i j : ℕ) → i ≡ j → delta i j ≡ one
delta-same i j e = ap (λ b. cond b one []) (eq-eqb i j e)

-- 0 stands at other places.
pub delta-other : (i j : ℕ) → i ≢ j → delta i j ≡ []
delta-other i j ne = ap (λ b. cond b one []) (ne_eqb i j ne)

-- Both are polynomials.
pub IsLaurent-delta : (i j : ℕ) → IsLaurent (delta i j)
unfolding collect add_term
IsLaurent-delta i j = elim (nat_eq i j) as (λ b. IsLaurent (cond b one [])) [
  | true ↦ refl
  | false ↦ refl
]

-- Products of matrices that are the same in the line and the column.
pub mul-alike : (n : ℕ) (A B C D : Matrix) (i j : ℕ) → ((k : ℕ) → k < n → A i k ≡ C i k) →
    ((k : ℕ) → k < n → B k j ≡ D k j) → mul n A B i j ≡ mul n C D i j
mul-alike n A B C D i j left right =
    sum_over-range 0 n (λ k. times (A i k) (B k j)) (λ k. times (C i k) (D k j))
    (λ k from lt. ap₂ times (left k (omega arith)) (right k (omega arith)))

-- Products of matrices associate.
pub mul-assoc : (n : ℕ) (A B C : Matrix) (i j : ℕ) → mul n (mul n A B) C i j ≡ mul n A (mul n B C) i j
mul-assoc n A B C i j =
    sum_over-range 0 n (λ k. times (mul n A B i k) (C k j))
    (λ k. sum_over places (λ l. times (times (A i l) (B l k)) (C k j)))
    (λ k from lt. sum_over-times places (λ l. times (A i l) (B l k)) (C k j))
    ∙ sum_over-exchange places places (λ k l. times (times (A i l) (B l k)) (C k j))
    ∙ sum_over-range 0 n (λ l. sum_over places (λ k. times (times (A i l) (B l k)) (C k j)))
    (λ l. times (A i l) (mul n B C l j))
    (λ l from lt. sum_over-range 0 n (λ k. times (times (A i l) (B l k)) (C k j))
    (λ k. times (A i l) (times (B l k) (C k j)))
    (λ k from lt. times_assoc (A i l) (B l k) (C k j))
    ∙ sym (times-sum_over (A i l) places (λ k. times (B l k) (C k j))))
  where
    places : List ℕ
    places = range_with_len 0 n

-- 1 on the diagonal, in front, changes nothing.
pub delta-mul : (n : ℕ) (B : Matrix) (i j : ℕ) → i < n → IsLaurent (B i j) → mul n delta B i j ≡ B i j
delta-mul n B i j lt l =
    sum_over-single (λ k. times (delta i k) (B k j)) i 0 n (omega arith) (omega arith)
    (λ k from under ne. ap (λ p. times p (B k j)) (delta-other i k (λ e. ne (sym e))) ∙ nought_times (B k j))
    (subst IsLaurent (sym own) l)
    ∙ own
  where
    own : times (delta i i) (B i j) ≡ B i j
    own = ap (λ p. times p (B i j)) (delta-same i i refl) ∙ one_times (B i j) l

-- 1 on the diagonal, behind, collects like powers.
pub mul-delta : (n : ℕ) (A : Matrix) (i j : ℕ) → j < n → mul n A delta i j ≡ collect (A i j)
mul-delta n A i j lt =
    sum_over-single (λ k. times (A i k) (delta k j)) j 0 n (omega arith) (omega arith)
    (λ k from under ne. ap (times (A i k)) (delta-other k j ne) ∙ times_nought (A i k))
    (subst IsLaurent (sym own) (IsLaurent-collect (A i j)))
    ∙ own
  where
    own : times (A i j) (delta j j) ≡ collect (A i j)
    own = ap (times (A i j)) (delta-same j j refl) ∙ times_one-collect (A i j)

-- A product doesn't see whether the cells of the second matrix were collected.
pub mul-collect : (n : ℕ) (A B : Matrix) (i j : ℕ) → mul n A (λ k l. collect (B k l)) i j ≡ mul n A B i j
mul-collect n A B i j =
    sum_over-range 0 n (λ k. times (A i k) (collect (B k j))) (λ k. times (A i k) (B k j))
    (λ k from lt. times-collect (A i k) (B k j))

-- Where a matrix has an inverse on its left, one on its right is the same.
pub one_inverse : (n : ℕ) (A L R : Matrix) → ((i j : ℕ) → i < n → j < n → mul n L A i j ≡ delta i j) →
    ((i j : ℕ) → i < n → j < n → mul n A R i j ≡ delta i j) → ((i j : ℕ) → i < n → j < n → IsLaurent (R i j)) →
    (i j : ℕ) → i < n → j < n → R i j ≡ collect (L i j)
one_inverse n A L R left right l i j hi hj =
    sym (delta-mul n R i j hi (l i j hi hj))
    ∙ sym (mul-alike n (mul n L A) R delta R i j (λ k hk. left i k hi hk) (λ k hk. refl))
    ∙ mul-assoc n L A R i j
    ∙ mul-alike n L (mul n A R) L delta i j (λ k hk. refl) (λ k hk. right k j hk hj)
    ∙ mul-delta n L i j hj
