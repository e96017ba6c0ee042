-- What is left of the ladder vector, and the sizes added up: at the start, from rank to rank, and at the end, where the
-- regular row is left.
use Rattle.std.proofs.Common.{◌≡◌, ℕ, ◌+◌, ◌*◌, ◌≤◌, Bool, true, false, cond, nat_lt, List, [], ◌∷◌, length, refl}
use Rattle.std.proofs.Common.{sym}
use Rattle.std.proofs.Common.{◌∙◌}
use Rattle.std.proofs.Common.{ap, arith, Some, None, filter, sum_by, ℤ}
use Rattle.std.proofs.lemmas.Int.{ints}
use Rattle.std.proofs.lemmas.List.Sums.{sum_by-cons}
use Rattle.sp_defs.specs.Laurent.{Laurent, coefficient, collect, plus, negate, times, sum_over, size, IsLaurent}
use Rattle.sp_defs.specs.Power.{Vector}
use Rattle.sp_defs.specs.Ladder.{ladder_vector}
use Rattle.sp_defs.specs.Row.{Factors, combination, regular_row, shares, factors, earlier}
use Rattle.sp_defs.specs.Statements.{IsLabel}
use Rattle.sp_algebra.proofs.Laws.{coefficient-plus, coefficient-negate, IsLaurent-plus, plus_nought, nought_plus}
use Rattle.sp_algebra.proofs.Laws.{nought_times}
use Rattle.sp_algebra.proofs.Coefficients.{same_laurent}
use Rattle.sp_triangle.proofs.Triangle.{combination-cons, IsLaurent-combination}
use Rattle.sp_row_law.proofs.RowsLaw.{rows_law}
use Rattle.sp_row_law.proofs.Setting.{IsLaurent-ladder_vector}
use Rattle.sp_outcome_law.specs.Asking.{is_nonzero, share_at, given, next_rank, left, total}
use Rattle.sp_outcome_law.proofs.Listed.{no_element}
use Rattle.sp_outcome_law.proofs.Reached.{given_none, Passed, step, all_passed}
use Rattle.sp_outcome_law.proofs.Ranks.{length_shares}

-- ---- what they give is a polynomial

-- The row's value is a Laurent polynomial.
pub IsLaurent-row : (e : ℕ) (mu lambda : List ℕ) → IsLaurent (regular_row e mu lambda)
unfolding regular_row
IsLaurent-row e mu lambda =
    IsLaurent-combination (ladder_vector e) (factors (ladder_vector e) mu (earlier e mu)) lambda

-- So is what is left.
pub IsLaurent-left : (e : ℕ) (mu : List ℕ) (t : ℕ) (lambda : List ℕ) → IsLaurent (left e mu t lambda)
unfolding left
IsLaurent-left e mu t lambda =
    IsLaurent-plus (ladder_vector e mu lambda) (negate (combination (regular_row e) (given e mu t) lambda))

-- ---- at the start

negate_nought : negate [] ≡ []
unfolding negate collect
negate_nought = refl

no_factors : (A : List ℕ → Vector) (lambda : List ℕ) → combination A [] lambda ≡ []
unfolding combination sum_over
no_factors A lambda = refl

-- With no share given the ladder vector is left.
pub left_start : (e : ℕ) (mu : List ℕ) (t : ℕ) → length (earlier e mu) ≤ t → (lambda : List ℕ) →
    left e mu t lambda ≡ ladder_vector e mu lambda
unfolding left
left_start e mu t h lambda =
    ap (λ fs. plus (ladder_vector e mu lambda) (negate (combination (regular_row e) fs lambda)))
    (given_none e mu t (omega (arith, h, length_shares e mu)))
    ∙ ap (λ p. plus (ladder_vector e mu lambda) (negate p)) (no_factors (regular_row e) lambda)
    ∙ ap (plus (ladder_vector e mu lambda)) negate_nought
    ∙ plus_nought (ladder_vector e mu lambda) (IsLaurent-ladder_vector e mu lambda)

-- With no share given the total is the size of the ladder vector.
pub total_start : (e : ℕ) (mu : List ℕ) (t : ℕ) → length (earlier e mu) ≤ t → (lambda : List ℕ) →
    total e mu t lambda ≡ size (ladder_vector e mu lambda)
unfolding total
total_start e mu t h lambda =
    ap (λ fs. size (ladder_vector e mu lambda) + sum_by (λ a. size a.1 * size (regular_row e a.0 lambda)) fs)
    (given_none e mu t (omega (arith, h, length_shares e mu)))
    ∙ plain (size (ladder_vector e mu lambda))
  where
    plain : (n : ℕ) → n + 0 ≡ n
    plain n = omega arith

-- ---- from rank to rank

-- ranks without shares change nothing
pub left_same : (e : ℕ) (mu : List ℕ) (i t : ℕ) → Passed e mu i t → (lambda : List ℕ) →
    left e mu i lambda ≡ left e mu t lambda
unfolding left
left_same e mu i t h lambda =
    ap (λ fs. plus (ladder_vector e mu lambda) (negate (combination (regular_row e) fs lambda))) h.same_given

-- the next share, times its row, is taken off
pub left_step : (e : ℕ) (mu : List ℕ) (t j : ℕ) → next_rank e mu t ≡ Some j → (lambda : List ℕ) →
    left e mu j lambda
    ≡ plus (left e mu t lambda)
    (negate (times (share_at e mu j).1 (regular_row e (share_at e mu j).0 lambda)))
unfolding left
left_step e mu t j h lambda =
    ap (λ fs. plus a (negate (combination (regular_row e) fs lambda))) (step e mu t j h).more
    ∙ ap (λ p. plus a (negate p))
    (combination-cons (regular_row e) (share_at e mu j).0 (share_at e mu j).1 (given e mu t) lambda)
    ∙ same_laurent _ _ (IsLaurent-plus a (negate (plus more given_before)))
    (IsLaurent-plus (plus a (negate given_before)) (negate more)) regrouped
  where
    a : Laurent
    a = ladder_vector e mu lambda

    more : Laurent
    more = times (share_at e mu j).1 (regular_row e (share_at e mu j).0 lambda)

    given_before : Laurent
    given_before = combination (regular_row e) (given e mu t) lambda

    regrouped : (k : ℤ) →
        coefficient (plus a (negate (plus more given_before))) k
        ≡ coefficient (plus (plus a (negate given_before)) (negate more)) k
    regrouped k = omega (
      arith,
      ints,
      coefficient-plus a (negate (plus more given_before)) k,
      coefficient-negate (plus more given_before) k,
      coefficient-plus more given_before k,
      coefficient-plus (plus a (negate given_before)) (negate more) k,
      coefficient-plus a (negate given_before) k,
      coefficient-negate given_before k,
      coefficient-negate more k,
    )

-- and the sizes grow by the product of its size and of the row's
pub total_step : (e : ℕ) (mu : List ℕ) (t j : ℕ) → next_rank e mu t ≡ Some j → (lambda : List ℕ) →
    total e mu j lambda
    ≡ total e mu t lambda + size (share_at e mu j).1 * size (regular_row e (share_at e mu j).0 lambda)
unfolding total
total_step e mu t j h lambda =
    ap (λ fs. size (ladder_vector e mu lambda) + sum_by f fs) (step e mu t j h).more
    ∙ ap (λ n. size (ladder_vector e mu lambda) + n) (sum_by-cons f (share_at e mu j) (given e mu t))
    ∙ regrouped (size (ladder_vector e mu lambda)) (f (share_at e mu j)) (sum_by f (given e mu t))
  where
    f : List ℕ × Laurent → ℕ
    f a = size a.1 * size (regular_row e a.0 lambda)

    regrouped : (x y z : ℕ) → x + (y + z) ≡ x + z + y
    regrouped x y z = omega arith

-- ---- shares that are 0 add nothing

-- A combination needs only the factors that aren't 0.
pub combination_nonzero : (A : List ℕ → Vector) (fs : Factors) (lambda : List ℕ) →
    combination A (filter is_nonzero fs) lambda ≡ combination A fs lambda
combination_nonzero A [] lambda = refl
combination_nonzero A ((nu, b) ∷ fs) lambda = tested (combination_nonzero A fs lambda) (nat_lt 0 (length b)) refl
  where
    tested : combination A (filter is_nonzero fs) lambda ≡ combination A fs lambda → (t : Bool) →
        nat_lt 0 (length b) ≡ t →
        combination A (cond t ((nu, b) ∷ filter is_nonzero fs) (filter is_nonzero fs)) lambda
        ≡ combination A ((nu, b) ∷ fs) lambda
    tested ih true e =
        combination-cons A nu b (filter is_nonzero fs) lambda
        ∙ ap (plus (times b (A nu lambda))) ih
        ∙ sym (combination-cons A nu b fs lambda)
    tested ih false e = ih ∙ sym
        (combination-cons A nu b fs lambda
        ∙ ap (λ p. plus (times p (A nu lambda)) (combination A fs lambda)) (no_element b e)
        ∙ ap (λ p. plus p (combination A fs lambda)) (nought_times (A nu lambda))
        ∙ nought_plus (combination A fs lambda) (IsLaurent-combination A fs lambda))

-- A sum of sizes needs only the factors that aren't 0.
pub sum_nonzero : (g : List ℕ → ℕ) (fs : Factors) →
    sum_by (λ a. size a.1 * g a.0) (filter is_nonzero fs) ≡ sum_by (λ a. size a.1 * g a.0) fs
sum_nonzero g [] = refl
sum_nonzero g ((nu, b) ∷ fs) = tested (sum_nonzero g fs) (nat_lt 0 (length b)) refl
  where
    f : List ℕ × Laurent → ℕ
    f a = size a.1 * g a.0

    tested : sum_by f (filter is_nonzero fs) ≡ sum_by f fs → (t : Bool) → nat_lt 0 (length b) ≡ t →
        sum_by f (cond t ((nu, b) ∷ filter is_nonzero fs) (filter is_nonzero fs)) ≡ sum_by f ((nu, b) ∷ fs)
    tested ih true e = sum_by-cons f (nu, b) (filter is_nonzero fs) ∙ ap (λ n. f (nu, b) + n) ih
        ∙ sym (sum_by-cons f (nu, b) fs)
    tested ih false e =
        let s : f (nu, b) ≡ 0 = ap (λ p. size p * g nu) (no_element b e) ∙ none (g nu) in
        omega (arith, ih, s, sum_by-cons f (nu, b) fs)
      where
        none : (n : ℕ) → 0 * n ≡ 0
        none n = omega arith

-- ---- at the end

-- all shares that are not 0 have been given
pub given_all : (e : ℕ) (mu : List ℕ) (t : ℕ) → next_rank e mu t ≡ None → given e mu t ≡ filter is_nonzero (shares e mu)
unfolding given
given_all e mu t h = sym (all_passed e mu t h).same_given

-- the regular row is left
pub left_end : (e : ℕ) (mu : List ℕ) (t : ℕ) → IsLabel e mu → next_rank e mu t ≡ None → (lambda : List ℕ) →
    left e mu t lambda ≡ regular_row e mu lambda
unfolding left
left_end e mu t is h lambda =
    ap (λ fs. plus a (negate (combination (regular_row e) fs lambda))) (given_all e mu t h)
    ∙ ap (λ p. plus a (negate p)) (combination_nonzero (regular_row e) (shares e mu) lambda)
    ∙ same_laurent _ _ (IsLaurent-plus a (negate others)) (IsLaurent-row e mu lambda) cancelled
  where
    a : Laurent
    a = ladder_vector e mu lambda

    others : Laurent
    others = combination (regular_row e) (shares e mu) lambda

    cancelled : (k : ℤ) → coefficient (plus a (negate others)) k ≡ coefficient (regular_row e mu lambda) k
    cancelled k = omega (
      arith,
      ints,
      coefficient-plus a (negate others) k,
      coefficient-negate others k,
      coefficient-plus (regular_row e mu lambda) others k,
      ap (λ p. coefficient p k) ((rows_law e mu is).shares_sum lambda),
    )
