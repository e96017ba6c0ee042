-- The shares over a triangle: with them the rows give the vector of mu back, and no other bar-invariant factors do.
use Rattle.sp_algebra.proofs.Sums.{IsLaurent-sum_over, sum_over-alike}
use Rattle.std.proofs.Common.{◌≤ℤ◌, ◌≡◌, ℕ, List, [], ◌∷◌, map, refl, sym, ◌∙◌, ap, ap₂, subst, ℤ, pos, neg_ℤ, arith}
use Rattle.std.proofs.Common.{Less}
use Rattle.std.proofs.lemmas.Int.{ints}
use Rattle.std.specs.List.{AllByRecursion}
use Rattle.sp_defs.specs.Partition.{compare, Ascending}
use Rattle.sp_defs.specs.Laurent.{Laurent, coefficient, plus, negate, times, lift, one, IsLaurent, IsBarInvariant}
use Rattle.sp_defs.specs.Laurent.{sum_over}
use Rattle.sp_defs.specs.Power.{Vector}
use Rattle.sp_defs.specs.Row.{Factors, combination, before, factors, factor_of, shares_over}
use Rattle.sp_algebra.proofs.Laws.{coefficient-plus, IsLaurent-plus, IsLaurent-times, plus_nought, nought_plus}
use Rattle.sp_algebra.proofs.Laws.{plus_negate, times_assoc, times_plus, plus_times, one_times, nought_times}
use Rattle.sp_algebra.proofs.Laws.{bar_invariant-times, bar_invariant-plus, bar_invariant-negate}
use Rattle.sp_algebra.proofs.Laws.{bar_invariant-nought}
use Rattle.sp_algebra.proofs.Laws.{bar_invariant-lift}
use Rattle.sp_algebra.proofs.Coefficients.{same_laurent}
use Rattle.sp_shapes.proofs.Order.{less_trans}
use Rattle.sp_shapes.proofs.Before.{before_keep, before_self, all_before, all_kept}
use Rattle.sp_triangle.proofs.Triangle.{combination-cons, IsLaurent-combination, Triangle, row_later, row_at_mu}
use Rattle.sp_triangle.proofs.Triangle.{same_factors}
use Rattle.sp_lists.proofs.Places.{all_weaken}

-- ---- the keys of the shares, and that they are bar-invariant

-- The partitions of the shares are those of the segment.
pub keys-shares : (A : List ℕ → Vector) (mu : List ℕ) (seg : List (List ℕ)) →
    map (λ f. f.0) (shares_over A mu seg) ≡ seg
unfolding shares_over
keys-shares A mu [] = refl
keys-shares A mu (nu ∷ seg) = ap (λ r. nu ∷ r) (keys-shares A mu seg)

-- what holds of the keys holds of each factor's
pub from_keys : (P : List ℕ → Type 0) (fs : Factors) → AllByRecursion P (map (λ f. f.0) fs) →
    AllByRecursion (λ f. P f.0) fs
from_keys P [] h = tt
from_keys P (f ∷ fs) (h, hs) = (h, from_keys P fs hs)

-- A factor equals its bar.
pub invariant-factor_of : (A : List ℕ → Vector) (nu kappa : List ℕ) (between : List (List ℕ)) →
    IsBarInvariant (factor_of A nu kappa between)
invariant-factor_of A nu kappa between =
    bar_invariant-negate (lift (combination A (factors A kappa between) nu))
    (bar_invariant-lift (combination A (factors A kappa between) nu))

invariant-sum : (fs : Factors) (g : List ℕ → Laurent) → ((kappa : List ℕ) → IsBarInvariant (g kappa)) →
    AllByRecursion (λ f. IsBarInvariant f.1) fs → IsBarInvariant (sum_over fs (λ a. times a.1 (g a.0)))
unfolding sum_over
invariant-sum [] g hg h = bar_invariant-nought
invariant-sum (f ∷ fs) g hg (h, hs) = bar_invariant-plus (times f.1 (g f.0)) (sum_over fs (λ a. times a.1 (g a.0)))
    (bar_invariant-times f.1 (g f.0) h (hg f.0)) (invariant-sum fs g hg hs)

-- Each share equals its bar.
pub invariant-shares : (A : List ℕ → Vector) (mu : List ℕ) (seg : List (List ℕ)) →
    AllByRecursion (λ f. IsBarInvariant f.1) (shares_over A mu seg)
unfolding shares_over
invariant-shares A mu [] = tt
invariant-shares A mu (nu ∷ seg) = (
  bar_invariant-negate (plus (factor_of A nu mu seg) through)
      (bar_invariant-plus (factor_of A nu mu seg) through (invariant-factor_of A nu mu seg)
      (invariant-sum s (λ kappa. factor_of A nu kappa (before kappa seg))
      (λ kappa. invariant-factor_of A nu kappa (before kappa seg)) (invariant-shares A mu seg))),
  invariant-shares A mu seg,
)
  where
    s : Factors
    s = shares_over A mu seg

    through : Laurent
    through = sum_over s (λ a. times a.1 (factor_of A nu a.0 (before a.0 seg)))

-- ---- sums of products

negate_times : (p q : Laurent) (j : ℤ) → coefficient (times (negate p) q) j ≡ neg_ℤ (coefficient (times p q) j)
unfolding coefficient
negate_times p q j =
    let e : coefficient (plus (times p q) (times (negate p) q)) j ≡ pos 0 =
    ap (λ w. coefficient w j)
    (sym (plus_times p (negate p) q) ∙ ap (λ w. times w q) (plus_negate p) ∙ nought_times q) in
    omega (arith, ints, e, coefficient-plus (times p q) (times (negate p) q) j)

-- a factor a that stands in each term comes out of the sum
spread : (fs : Factors) (u : List ℕ → Laurent) (a : Laurent) (c : List ℕ → Laurent) →
    sum_over fs (λ f. times f.1 (plus (times (u f.0) a) (c f.0)))
    ≡ plus (times (sum_over fs (λ f. times f.1 (u f.0))) a) (sum_over fs (λ f. times f.1 (c f.0)))
unfolding sum_over
spread [] u a c = sym (ap (λ w. plus w []) (nought_times a) ∙ nothing)
  where
    nothing : plus [] [] ≡ []
    nothing = nought_plus [] (IsLaurent-sum_over {X = ℕ} [] (λ _. []))
spread ((k, b) ∷ fs) u a c =
    ap₂ (λ x y. plus x y) first (spread fs u a c)
    ∙ same_laurent _ _ (IsLaurent-plus (plus (times bu a) bc) (plus (times us a) cs))
    (IsLaurent-plus (times (plus bu us) a) (plus bc cs)) regrouped
  where
    bu : Laurent
    bu = times b (u k)

    bc : Laurent
    bc = times b (c k)

    us : Laurent
    us = sum_over fs (λ f. times f.1 (u f.0))

    cs : Laurent
    cs = sum_over fs (λ f. times f.1 (c f.0))

    first : times b (plus (times (u k) a) (c k)) ≡ plus (times bu a) bc
    first = times_plus b (times (u k) a) (c k) ∙ ap (λ w. plus w bc) (sym (times_assoc b (u k) a))

    regrouped : (j : ℤ) →
        coefficient (plus (plus (times bu a) bc) (plus (times us a) cs)) j
        ≡ coefficient (plus (times (plus bu us) a) (plus bc cs)) j
    regrouped j = omega (
      arith,
      ints,
      coefficient-plus (plus (times bu a) bc) (plus (times us a) cs) j,
      coefficient-plus (times bu a) bc j,
      coefficient-plus (times us a) cs j,
      coefficient-plus (times (plus bu us) a) (plus bc cs) j,
      coefficient-plus bc cs j,
      ap (λ w. coefficient w j) (plus_times bu us a),
      coefficient-plus (times bu a) (times us a) j,
    )

-- ---- the rows over a list, with one partition more in front

-- the row of kappa over the partitions of the list that are before it
abbrev pub rows : (List ℕ → Vector) → List (List ℕ) → List ℕ → Vector
rows A seg kappa lambda = combination A (factors A kappa (before kappa seg)) lambda

-- with no partition before nu its row is its vector
alone : (A : List ℕ → Vector) (nu lambda : List ℕ) → IsLaurent (A nu lambda) →
    combination A (factors A nu []) lambda ≡ A nu lambda
unfolding factors combination sum_over
alone A nu lambda l =
    plus_nought (times one (A nu lambda)) (IsLaurent-times one (A nu lambda)) ∙ one_times (A nu lambda) l

with_first : (A : List ℕ → Vector) (nu kappa : List ℕ) (seg : List (List ℕ)) (lambda : List ℕ) →
    combination A (factors A kappa (nu ∷ seg)) lambda
    ≡ plus (times (factor_of A nu kappa seg) (A nu lambda)) (combination A (factors A kappa seg) lambda)
unfolding factors
with_first A nu kappa seg lambda = combination-cons A nu (factor_of A nu kappa seg) (factors A kappa seg) lambda

row_with_first : (A : List ℕ → Vector) (nu kappa : List ℕ) (seg : List (List ℕ)) (lambda : List ℕ) →
    compare nu kappa ≡ Less →
    rows A (nu ∷ seg) kappa lambda
    ≡ plus (times (factor_of A nu kappa (before kappa seg)) (A nu lambda)) (rows A seg kappa lambda)
row_with_first A nu kappa seg lambda h =
    ap (λ w. combination A (factors A kappa w) lambda) (before_keep nu kappa seg h)
    ∙ with_first A nu kappa (before kappa seg) lambda

all_rows_with_first : (A : List ℕ → Vector) (nu : List ℕ) (seg : List (List ℕ)) (lambda : List ℕ) (fs : Factors) →
    AllByRecursion (λ f. compare nu f.0 ≡ Less) fs →
    AllByRecursion
    (λ f. times f.1 (rows A (nu ∷ seg) f.0 lambda)
    ≡ times f.1 (plus (times (factor_of A nu f.0 (before f.0 seg)) (A nu lambda)) (rows A seg f.0 lambda))) fs
all_rows_with_first A nu seg lambda [] h = tt
all_rows_with_first A nu seg lambda (f ∷ fs) (h, hs) =
    (ap (λ w. times f.1 w) (row_with_first A nu f.0 seg lambda h), all_rows_with_first A nu seg lambda fs hs)

-- what the shares are made for: with f the factor of nu in the row of mu, c the later rest of that row, and w the other
-- rows' sum, the terms of a cancel and c + w is left
cancelled : (f through a c w m : Laurent) → plus c w ≡ m → (j : ℤ) →
    coefficient (plus (plus (times f a) c) (plus (times (negate (plus f through)) a) (plus (times through a) w))) j
    ≡ coefficient m j
cancelled f through a c w m cw j = omega (
  arith,
  ints,
  negate_times (plus f through) a j,
  ap (λ x. coefficient x j) (plus_times f through a),
  ap (λ x. coefficient x j) cw,
  coefficient-plus (times f a) (times through a) j,
  coefficient-plus c w j,
  coefficient-plus (plus (times f a) c) (plus (times (negate (plus f through)) a) (plus (times through a) w)) j,
  coefficient-plus (times f a) c j,
  coefficient-plus (times (negate (plus f through)) a) (plus (times through a) w) j,
  coefficient-plus (times through a) w j,
)

-- the row of mu, and the other rows times the shares, add up to the vector of mu
pub shares_sum : (A : List ℕ → Vector) → ((nu lambda : List ℕ) → IsLaurent (A nu lambda)) →
    (mu : List ℕ) (seg : List (List ℕ)) (lambda : List ℕ) → Ascending seg →
    plus (combination A (factors A mu seg) lambda) (combination (rows A seg) (shares_over A mu seg) lambda)
    ≡ A mu lambda
unfolding shares_over combination sum_over
shares_sum A l mu [] lambda up =
    plus_nought (combination A (factors A mu []) lambda) (IsLaurent-combination A (factors A mu []) lambda)
    ∙ alone A mu lambda (l mu lambda)
shares_sum A l mu (nu ∷ seg) lambda (u, us) =
    ap₂ (λ x y. plus x y) (with_first A nu mu seg lambda)
    (ap₂ (λ x y. plus x y) (ap (λ x. times (negate (plus f through)) x) own) others)
    ∙ same_laurent _ _
    (IsLaurent-plus (plus (times f a) c) (plus (times (negate (plus f through)) a) (plus (times through a) w)))
    (l mu lambda) (cancelled f through a c w (A mu lambda) (shares_sum A l mu seg lambda us))
  where
    s : Factors
    s = shares_over A mu seg

    f : Laurent
    f = factor_of A nu mu seg

    through : Laurent
    through = sum_over s (λ a. times a.1 (factor_of A nu a.0 (before a.0 seg)))

    a : Laurent
    a = A nu lambda

    c : Laurent
    c = combination A (factors A mu seg) lambda

    w : Laurent
    w = combination (rows A seg) s lambda

    own : rows A (nu ∷ seg) nu lambda ≡ a
    own = ap (λ w. combination A (factors A nu w) lambda) (before_self nu seg u) ∙ alone A nu lambda (l nu lambda)

    later : AllByRecursion (λ x. compare nu x.0 ≡ Less) s
    later = from_keys (λ kappa. compare nu kappa ≡ Less) s
        (subst (λ ks. AllByRecursion (λ kappa. compare nu kappa ≡ Less) ks) (sym (keys-shares A mu seg)) u)

    others : sum_over s (λ x. times x.1 (rows A (nu ∷ seg) x.0 lambda)) ≡ plus (times through a) w
    others =
        sum_over-alike s (λ x. times x.1 (rows A (nu ∷ seg) x.0 lambda))
        (λ x. times x.1 (plus (times (factor_of A nu x.0 (before x.0 seg)) a) (rows A seg x.0 lambda)))
        (all_rows_with_first A nu seg lambda s later)
        ∙ spread s (λ kappa. factor_of A nu kappa (before kappa seg)) a (λ kappa. rows A seg kappa lambda)

-- ---- uniqueness

module _ (Good : List ℕ → Type 0) (A : List ℕ → Vector) (tri : Triangle Good A) where
  -- the rows are a triangle too
  pub rows_triangle : (seg : List (List ℕ)) → AllByRecursion Good seg → Triangle Good (rows A seg)
  rows_triangle seg good = record {
    diagonal = λ nu gn. row_at_mu Good A tri nu (before nu seg) gn (all_kept Good nu seg good) (all_before nu seg);
    later = λ nu lambda gn gl h. row_later Good A tri nu (before nu seg) lambda gn (all_kept Good nu seg good) gl h
        (all_weaken (λ kappa. compare kappa nu ≡ Less) (λ kappa. compare kappa lambda ≡ Less) (before nu seg)
        (λ kappa k. less_trans kappa nu lambda k h) (all_before nu seg));
  }

  -- factors that give the vector of mu back are the shares
  pub only_shares : ((nu lambda : List ℕ) → IsLaurent (A nu lambda)) → (mu : List ℕ) (seg : List (List ℕ)) →
      AllByRecursion Good seg → Ascending seg → (gs : Factors) → map (λ f. f.0) gs ≡ seg →
      AllByRecursion (λ f. IsBarInvariant f.1) gs →
      ((lambda : List ℕ) → Good lambda →
      plus (combination A (factors A mu seg) lambda) (combination (rows A seg) gs lambda) ≡ A mu lambda) →
      gs ≡ shares_over A mu seg
  only_shares l mu seg good up gs kg bg e =
      same_factors Good (rows A seg) (rows_triangle seg good) seg gs (shares_over A mu seg) good up kg
      (keys-shares A mu seg) bg (invariant-shares A mu seg)
      (all_weaken Good
      (λ nu. (j : ℤ) → j ≤ℤ pos 0 →
      coefficient (combination (rows A seg) gs nu) j
      ≡ coefficient (combination (rows A seg) (shares_over A mu seg) nu) j) seg
      (λ nu g j low. cancel (combination A (factors A mu seg) nu) (combination (rows A seg) gs nu)
      (combination (rows A seg) (shares_over A mu seg) nu) j (e nu g ∙ sym (shares_sum A l mu seg nu up))) good)
    where
      cancel : (c x y : Laurent) (j : ℤ) → plus c x ≡ plus c y → coefficient x j ≡ coefficient y j
      cancel c x y j e =
          let e' : coefficient (plus c x) j ≡ coefficient (plus c y) j = ap (λ w. coefficient w j) e in
          omega (arith, ints, e', coefficient-plus c x j, coefficient-plus c y j)
