-- Rows over any family of vectors that is a triangle with ones, by algebra alone: the row of mu has 1 at mu, 0 after it
-- and positive powers alone before it, and bar-invariant factors are told apart by what they give up to the power 0.
use Rattle.sp_algebra.proofs.Sums.{IsLaurent-sum_over, sum_over-append}
use Rattle.std.proofs.Common.{◌≡◌, ℕ, List, [], ◌∷◌, ◌++◌, map, refl, sym, ◌∙◌, ap, ap₂, subst, ℤ, pos, ◌+ℤ◌, ◌≤ℤ◌}
use Rattle.std.proofs.Common.{arith, Less}
use Rattle.std.proofs.lemmas.Int.{ints}
use Rattle.std.specs.List.{AllByRecursion}
use Rattle.sp_defs.specs.Partition.{compare, Ascending}
use Rattle.sp_defs.specs.Laurent.{Laurent, coefficient, collect, plus, negate, times, lift, one, IsLaurent}
use Rattle.sp_defs.specs.Laurent.{IsBarInvariant, IsPositive, sum_over}
use Rattle.sp_defs.specs.Power.{Vector}
use Rattle.sp_defs.specs.Row.{Factors, combination, factors}
use Rattle.sp_algebra.proofs.Laws.{coefficient-plus, IsLaurent-bar_invariant, plus_comm}
use Rattle.sp_algebra.proofs.Laws.{plus_nought, nought_plus, times_one, times_nought, bar_invariant-negate}
use Rattle.sp_algebra.proofs.Laws.{bar_invariant-one, bar_invariant-lift, lift_rest, same_bar_invariant}

-- ---- combinations, by their terms

-- A combination with one factor more.
pub combination-cons : (A : List ℕ → Vector) (nu : List ℕ) (b : Laurent) (fs : Factors) (lambda : List ℕ) →
    combination A ((nu, b) ∷ fs) lambda ≡ plus (times b (A nu lambda)) (combination A fs lambda)
unfolding combination sum_over
combination-cons A nu b fs lambda = refl

-- A combination's value is a Laurent polynomial.
pub IsLaurent-combination : (A : List ℕ → Vector) (fs : Factors) (lambda : List ℕ) → IsLaurent (combination A fs lambda)
unfolding combination
IsLaurent-combination A fs lambda = IsLaurent-sum_over fs (λ f. times f.1 (A f.0 lambda))

-- A combination of two lists of factors.
pub combination-append : (A : List ℕ → Vector) (fs gs : Factors) (lambda : List ℕ) →
    combination A (fs ++ gs) lambda ≡ plus (combination A fs lambda) (combination A gs lambda)
unfolding combination
combination-append A fs gs lambda = sum_over-append fs gs (λ f. times f.1 (A f.0 lambda))

-- ---- the triangle

-- over the good partitions: 1 at the partition itself, and 0 at every later one
pub record Triangle (Good : List ℕ → Type 0) (A : List ℕ → Vector) : Type 0 where
  pub diagonal : (nu : List ℕ) → Good nu → A nu nu ≡ one
  pub later : (nu lambda : List ℕ) → Good nu → Good lambda → compare nu lambda ≡ Less → A nu lambda ≡ []

-- the term of a partition at a later one is 0, so the combination is that of the rest
pub drop_term : (A : List ℕ → Vector) (nu : List ℕ) (b : Laurent) (fs : Factors) (lambda : List ℕ) → A nu lambda ≡ [] →
    combination A ((nu, b) ∷ fs) lambda ≡ combination A fs lambda
drop_term A nu b fs lambda z =
    combination-cons A nu b fs lambda
    ∙ ap (λ x. plus (times b x) (combination A fs lambda)) z
    ∙ ap (λ x. plus x (combination A fs lambda)) (times_nought b)
    ∙ nought_plus (combination A fs lambda) (IsLaurent-combination A fs lambda)

-- the term of a partition at itself is its factor
diagonal_term : (A : List ℕ → Vector) (nu : List ℕ) (b : Laurent) (fs : Factors) → IsLaurent b → A nu nu ≡ one →
    combination A ((nu, b) ∷ fs) nu ≡ plus b (combination A fs nu)
diagonal_term A nu b fs l d =
    combination-cons A nu b fs nu
    ∙ ap (λ x. plus (times b x) (combination A fs nu)) d
    ∙ ap (λ x. plus x (combination A fs nu)) (times_one b l)

-- ---- the factors, by their keys, and that they are bar-invariant

-- The partitions of the factors are those of the segment, and mu.
pub keys-factors : (A : List ℕ → Vector) (mu : List ℕ) (seg : List (List ℕ)) →
    map (λ f. f.0) (factors A mu seg) ≡ seg ++ (mu ∷ [])
unfolding factors
keys-factors A mu [] = refl
keys-factors A mu (nu ∷ seg) = ap (λ r. nu ∷ r) (keys-factors A mu seg)

-- Each factor equals its bar.
pub invariant-factors : (A : List ℕ → Vector) (mu : List ℕ) (seg : List (List ℕ)) →
    AllByRecursion (λ f. IsBarInvariant f.1) (factors A mu seg)
unfolding factors
invariant-factors A mu [] = (bar_invariant-one, tt)
invariant-factors A mu (nu ∷ seg) = (
  bar_invariant-negate (lift (combination A (factors A mu seg) nu))
      (bar_invariant-lift (combination A (factors A mu seg) nu)),
  invariant-factors A mu seg,
)

-- ---- the row of mu

module _ (Good : List ℕ → Type 0) (A : List ℕ → Vector) (tri : Triangle Good A) where
  -- at a good partition later than all, the row is 0
  pub row_later : (mu : List ℕ) (seg : List (List ℕ)) (lambda : List ℕ) → Good mu → AllByRecursion Good seg →
      Good lambda → compare mu lambda ≡ Less → AllByRecursion (λ nu. compare nu lambda ≡ Less) seg →
      combination A (factors A mu seg) lambda ≡ []
  unfolding factors combination sum_over collect
  row_later mu [] lambda gm gs gl m s = drop_term A mu one [] lambda (tri.later mu lambda gm gl m)
  row_later mu (nu ∷ seg) lambda gm (gn, gs) gl m (s, ss) =
      drop_term A nu (negate (lift (combination A (factors A mu seg) nu))) (factors A mu seg) lambda
      (tri.later nu lambda gn gl s)
      ∙ row_later mu seg lambda gm gs gl m ss

  -- at mu it is 1
  pub row_at_mu : (mu : List ℕ) (seg : List (List ℕ)) → Good mu → AllByRecursion Good seg →
      AllByRecursion (λ nu. compare nu mu ≡ Less) seg → combination A (factors A mu seg) mu ≡ one
  unfolding factors combination sum_over
  row_at_mu mu [] gm gs s =
      diagonal_term A mu one [] (IsLaurent-bar_invariant one bar_invariant-one) (tri.diagonal mu gm)
      ∙ plus_nought one (IsLaurent-bar_invariant one bar_invariant-one)
  row_at_mu mu (nu ∷ seg) gm (gn, gs) (s, ss) =
      drop_term A nu (negate (lift (combination A (factors A mu seg) nu))) (factors A mu seg) mu
      (tri.later nu mu gn gm s)
      ∙ row_at_mu mu seg gm gs ss

  -- one partition more in front changes nothing at the later ones
  keep_positive : (mu nu : List ℕ) (b : Laurent) (fs : Factors) (seg : List (List ℕ)) → Good nu →
      AllByRecursion Good seg → AllByRecursion (λ kappa. compare nu kappa ≡ Less) seg →
      AllByRecursion (λ kappa. IsPositive (combination A fs kappa)) seg →
      AllByRecursion (λ kappa. IsPositive (combination A ((nu, b) ∷ fs) kappa)) seg
  keep_positive mu nu b fs [] gn gs s h = tt
  keep_positive mu nu b fs (kappa ∷ seg) gn (gk, gs) (s, ss) (h, hs) = (
    subst (λ p. IsPositive p) (sym (drop_term A nu b fs kappa (tri.later nu kappa gn gk s))) h,
    keep_positive mu nu b fs seg gn gs ss hs,
  )

  -- at the partitions before mu it has positive powers alone: the factor there is minus the lift of all the others give
  pub row_positive : (mu : List ℕ) (seg : List (List ℕ)) → Good mu → AllByRecursion Good seg → Ascending seg →
      AllByRecursion (λ kappa. IsPositive (combination A (factors A mu seg) kappa)) seg
  unfolding factors
  row_positive mu [] gm gs up = tt
  row_positive mu (nu ∷ seg) gm (gn, gs) (u, us) = (
    subst (λ p. IsPositive p) (sym at_nu) (lift_rest others),
    keep_positive mu nu (negate (lift others)) (factors A mu seg) seg gn gs u (row_positive mu seg gm gs us),
  )
    where
      others : Laurent
      others = combination A (factors A mu seg) nu

      bar_factor : IsBarInvariant (negate (lift others))
      bar_factor = bar_invariant-negate (lift others) (bar_invariant-lift others)

      at_nu : combination A ((nu, negate (lift others)) ∷ factors A mu seg) nu ≡ plus others (negate (lift others))
      at_nu =
          diagonal_term A nu (negate (lift others)) (factors A mu seg)
          (IsLaurent-bar_invariant (negate (lift others)) bar_factor) (tri.diagonal nu gn)
          ∙ plus_comm (negate (lift others)) others

  -- ---- only one list of bar-invariant factors gives what is given at the powers up to 0

  -- The coefficients up to the power 0 are the same.
  abbrev pub Agree : Laurent → Laurent → Type 0
  Agree p q = (j : ℤ) → j ≤ℤ pos 0 → coefficient p j ≡ coefficient q j

  -- two lists of factors give vectors that agree at each of the partitions
  abbrev AgreeOver : Factors → Factors → List (List ℕ) → Type 0
  AgreeOver gs hs rs = AllByRecursion (λ nu. Agree (combination A gs nu) (combination A hs nu)) rs

  -- without the first factors the vectors agree at the later partitions
  agree_tail : (nu : List ℕ) (g h : Laurent) (gs hs : Factors) (rs : List (List ℕ)) → Good nu → AllByRecursion Good rs →
      AllByRecursion (λ kappa. compare nu kappa ≡ Less) rs → AgreeOver ((nu, g) ∷ gs) ((nu, h) ∷ hs) rs →
      AgreeOver gs hs rs
  agree_tail nu g h gs hs [] gn good s a = tt
  agree_tail nu g h gs hs (kappa ∷ rs) gn (gk, good) (s, ss) (a, as_) = (
    (λ j low.
        ap (λ p. coefficient p j) (sym (drop_term A nu g gs kappa (tri.later nu kappa gn gk s)))
        ∙ a j low
        ∙ ap (λ p. coefficient p j) (drop_term A nu h hs kappa (tri.later nu kappa gn gk s))),
    agree_tail nu g h gs hs rs gn good ss as_,
  )

  -- with the same later factors, the first factors agree
  agree_head : (nu : List ℕ) (g h : Laurent) (gs hs : Factors) → Good nu → IsBarInvariant g → IsBarInvariant h →
      gs ≡ hs → Agree (combination A ((nu, g) ∷ gs) nu) (combination A ((nu, h) ∷ hs) nu) → Agree g h
  agree_head nu g h gs hs gn bg bh t a j low =
      omega (
        arith,
        ints,
        a j low,
        parts g gs bg,
        parts h hs bh,
        ap (λ fs. coefficient (combination A fs nu) j) t,
      )
    where
      parts : (b : Laurent) (fs : Factors) → IsBarInvariant b →
          coefficient (combination A ((nu, b) ∷ fs) nu) j ≡ coefficient b j +ℤ coefficient (combination A fs nu) j
      parts b fs bb =
          ap (λ p. coefficient p j) (diagonal_term A nu b fs (IsLaurent-bar_invariant b bb) (tri.diagonal nu gn))
          ∙ coefficient-plus b (combination A fs nu) j

  -- bar-invariant factors are the same where their vectors agree at each partition: the first differing factor would
  -- show
  pub same_factors : (rs : List (List ℕ)) (gs hs : Factors) → AllByRecursion Good rs → Ascending rs →
      map (λ f. f.0) gs ≡ rs → map (λ f. f.0) hs ≡ rs → AllByRecursion (λ f. IsBarInvariant f.1) gs →
      AllByRecursion (λ f. IsBarInvariant f.1) hs →
      AllByRecursion (λ nu. Agree (combination A gs nu) (combination A hs nu)) rs → gs ≡ hs
  same_factors [] [] [] good up kg kh bg bh a = refl
  same_factors [] [] (h ∷ hs) good up kg kh bg bh a = absurd (cc)
  same_factors [] (g ∷ gs) hs good up kg kh bg bh a = absurd (cc)
  same_factors (nu ∷ rs) [] hs good up kg kh bg bh a = absurd (cc)
  same_factors (nu ∷ rs) (g ∷ gs) [] good up kg kh bg bh a = absurd (cc)
  same_factors (nu ∷ rs) ((x, g) ∷ gs) ((y, h) ∷ hs) (gn, good) (u, us) kg kh (bg, bgs) (bh, bhs) a =
      let ex : x ≡ nu = cc in
      let ey : y ≡ nu = cc in
      let kgs : map (λ f. f.0) gs ≡ rs = cc in
      let khs : map (λ f. f.0) hs ≡ rs = cc in
      with_keys x y (sym ex) (sym ey) (same_factors rs gs hs good us kgs khs bgs bhs) a
    where
      at_nu : (AgreeOver gs hs rs → gs ≡ hs) → AgreeOver ((nu, g) ∷ gs) ((nu, h) ∷ hs) (nu ∷ rs) →
          (nu, g) ∷ gs ≡ (nu, h) ∷ hs
      at_nu ih (a, as_) =
          let tails : gs ≡ hs = ih (agree_tail nu g h gs hs rs gn good u as_) in
          let heads : g ≡ h = same_bar_invariant g h bg bh (agree_head nu g h gs hs gn bg bh tails a) in
          ap₂ (λ f fs. (nu, f) ∷ fs) heads tails

      with_keys : (x y : List ℕ) → nu ≡ x → nu ≡ y → (AgreeOver gs hs rs → gs ≡ hs) →
          AgreeOver ((x, g) ∷ gs) ((y, h) ∷ hs) (nu ∷ rs) → (x, g) ∷ gs ≡ (y, h) ∷ hs
      with_keys x y ex ey ih =
          subst (λ z. AgreeOver ((z, g) ∷ gs) ((y, h) ∷ hs) (nu ∷ rs) → (z, g) ∷ gs ≡ (y, h) ∷ hs) ex
          (subst (λ z. AgreeOver ((nu, g) ∷ gs) ((z, h) ∷ hs) (nu ∷ rs) → (nu, g) ∷ gs ≡ (z, h) ∷ hs) ey (at_nu ih))
