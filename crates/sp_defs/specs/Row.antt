-- Regular rows, shares, weights and outcomes, over a family of vectors A, which is the ladder vectors.
-- Lascoux, Leclerc and Thibon, 1996: Hecke algebras at roots of unity and crystal bases of quantum affine algebras.
use Rattle.std.specs.Prelude.{◌≡◌, ℕ, ◌+◌, ◌*◌, Bool, cond, nat_lt, not, List, [], ◌∷◌, map, reverse, length, filter}
use Rattle.std.specs.Prelude.{find, ◌&&◌, max, sum_by, Option, Some, None, ◌≢◌, pos}
use Rattle.std.specs.List.{list_any, list_all, AllByRecursion}
use Rattle.std.specs.Ordering.{is_lt, is_eq, is_gt, int_cmp}
use Rattle.sp_defs.specs.Partition.{IsPartition, degree, partitions, regulars, compare}
use Rattle.sp_defs.specs.Laurent.{Laurent, one, plus, negate, times, lift, sum_over, size, IsBarInvariant, IsPositive}
use Rattle.sp_defs.specs.Power.{Vector, Entries, vector_of, greatest}
use Rattle.sp_defs.specs.Ladder.{ladder_vector, ladder_weight}

-- A list of partitions, each with its factor (this project's own).
abbrev pub Factors : Type 0
Factors = Entries

-- The vector that is the sum of the factors times their vectors (this project's own).
unfoldable pub combination : (List ℕ → Vector) → Factors → Vector
combination A fs lambda = sum_over fs (λ f. times f.1 (A f.0 lambda))

-- The partitions of a list that are earlier than mu (this project's own).
abbrev pub before : List ℕ → List (List ℕ) → List (List ℕ)
before mu rs = filter (λ nu. is_lt (compare nu mu)) rs

-- The factors of mu over the ascending list of the regular partitions before it: 1 at mu, and at each other one minus
-- the lift of what the later ones give there.
-- (Lascoux, Leclerc and Thibon, Comm. Math. Phys. 181, 1996, section 6)
unfoldable pub factors : (List ℕ → Vector) → List ℕ → List (List ℕ) → Factors
factors A mu [] = (mu, one) ∷ []
factors A mu (nu ∷ later) =
    let fs = factors A mu later in
    (nu, negate (lift (combination A fs nu))) ∷ fs

-- The factor of nu in the row of kappa, when `between` are the regular partitions between them.
-- (Lascoux, Leclerc and Thibon, Comm. Math. Phys. 181, 1996, section 6)
abbrev pub factor_of : (List ℕ → Vector) → List ℕ → List ℕ → List (List ℕ) → Laurent
factor_of A nu kappa between = negate (lift (combination A (factors A kappa between) nu))

-- The shares of mu over the same list: at each nu minus the sum, over mu with share 1 and the later kappa with their
-- shares, of the share times the factor of nu in the row of kappa (this project's own).
unfoldable pub shares_over : (List ℕ → Vector) → List ℕ → List (List ℕ) → Factors
shares_over A mu [] = []
shares_over A mu (nu ∷ later) =
    let s = shares_over A mu later in
    let through = sum_over s (λ a. times a.1 (factor_of A nu a.0 (before a.0 later))) in
    (nu, negate (plus (factor_of A nu mu later) through)) ∷ s

-- ---- over the ladder vectors of (e, n)

-- The regular partitions of mu's degree that are earlier than mu (this project's own).
abbrev pub earlier : ℕ → List ℕ → List (List ℕ)
earlier e mu = before mu (regulars e (degree mu))

-- The regular row C(mu): the ladder vectors with these factors, added up.
-- (Lascoux, Leclerc and Thibon, Comm. Math. Phys. 181, 1996, section 6)
unfoldable pub regular_row : ℕ → List ℕ → Vector
regular_row e mu lambda = combination (ladder_vector e) (factors (ladder_vector e) mu (earlier e mu)) lambda

-- The shares of mu: the earlier regular rows with these factors, and mu's own row, add up to mu's ladder vector
-- (this project's own).
unfoldable pub shares : ℕ → List ℕ → Factors
shares e mu = shares_over (ladder_vector e) mu (earlier e mu)

-- The share of nu, or 0 where it has none (this project's own).
abbrev pub share : ℕ → List ℕ → List ℕ → Laurent
share e mu nu = vector_of (shares e mu) nu

-- The span: sums of ladder vectors with factors that equal their bars.
-- (Lascoux, Leclerc and Thibon, Comm. Math. Phys. 181, 1996, section 5)
pub record InSpan (e n : ℕ) (w : Vector) : Type 0 where
  pub factors_of : Factors
  pub keys : map (λ f. f.0) factors_of ≡ regulars e n
  pub invariant : AllByRecursion (λ f. IsBarInvariant f.1) factors_of
  pub sum : (lambda : List ℕ) → IsPartition lambda → w lambda ≡ combination (ladder_vector e) factors_of lambda

-- A row of mu: a vector of the span with 1 at mu and a coefficient in vZ[v] at each other partition.
-- (Lascoux, Leclerc and Thibon, Comm. Math. Phys. 181, 1996, section 5)
pub record IsRow (e : ℕ) (mu : List ℕ) (w : Vector) : Type 0 where
  pub in_span : InSpan e (degree mu) w
  pub at_mu : w mu ≡ one
  pub elsewhere : (lambda : List ℕ) → IsPartition lambda → lambda ≢ mu → IsPositive (w lambda)

-- kappa is needed by mu: it is mu, or needed by a partition with a share of mu (this project's own).
pub data IsNeeded (e : ℕ) (kappa : List ℕ) : List ℕ → Type 0 where
  itself : IsNeeded e kappa kappa
  through : (mu nu : List ℕ) → share e mu nu ≢ [] → IsNeeded e kappa nu → IsNeeded e kappa mu

-- mu and the partitions before it that it needs, over the ascending list of those (this project's own).
unfoldable pub needed_among : ℕ → List ℕ → List (List ℕ) → List (List ℕ)
needed_among e mu [] = mu ∷ []
needed_among e mu (nu ∷ later) =
    let known = needed_among e mu later in
    cond (list_any (λ k. nat_lt 0 (length (share e k nu))) known) (nu ∷ known) known

-- mu and the partitions that it needs, ascending (this project's own).
abbrev pub needed : ℕ → List ℕ → List (List ℕ)
needed e mu = needed_among e mu (earlier e mu)

-- How large numbers get on the way to the row: the weight of the ladder vector, or at some partition the sizes of all
-- that is added up there (this project's own).
unfoldable pub weight : ℕ → List ℕ → ℕ
weight e mu =
    let shared : List ℕ → ℕ = λ lambda. sum_by (λ a. size a.1 * size (regular_row e a.0 lambda)) (shares e mu) in
    let size_at : List ℕ → ℕ = λ lambda. size (ladder_vector e mu lambda) + shared lambda in
    max (ladder_weight e mu) (greatest (map size_at (partitions (degree mu))))

-- What becomes of mu's row under a limit: it is too large, a partition other than mu has a coefficient that isn't in
-- vZ[v], or there is a row (this project's own).
pub data Outcome : Type 0 where
  TooLarge : Outcome
  Stray : List ℕ → Outcome
  Row : Outcome

-- Only positive powers, as a test (this project's own).
abbrev pub is_positive : Laurent → Bool
is_positive p = list_all (λ t. is_gt (int_cmp t.0 (pos 0))) p

-- The greatest partition other than mu whose coefficient isn't in vZ[v] (this project's own).
abbrev pub stray : ℕ → List ℕ → Option (List ℕ)
stray e mu =
    let is_other : List ℕ → Bool = λ lambda. not (is_eq (compare lambda mu)) in
    let is_stray : List ℕ → Bool = λ lambda. is_other lambda && not (is_positive (regular_row e mu lambda)) in
    find is_stray (reverse (partitions (degree mu)))

-- With no stray partition there is a row (this project's own).
abbrev outcome_of : Option (List ℕ) → Outcome
outcome_of None = Row
outcome_of (Some lambda) = Stray lambda

-- A row is too large where the weight of a partition that it needs is past the limit (this project's own).
unfoldable pub outcome : ℕ → ℕ → List ℕ → Outcome
outcome e limit mu =
    cond (list_any (λ kappa. nat_lt limit (weight e kappa)) (needed e mu)) TooLarge (outcome_of (stray e mu))
