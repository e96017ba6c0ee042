-- How a loop finds the shares: a share is the lift of what is left of the vector of mu at its partition, once the later
-- rows are taken off with their shares.
use Rattle.sp_algebra.proofs.Sums.{sum_over-alike}
use Rattle.std.proofs.Common.{◌≡◌, ℕ, List, [], ◌∷◌, ◌++◌, refl, sym, ◌∙◌, ap, subst, ℤ, ◌+ℤ◌, arith, Less}
use Rattle.std.proofs.lemmas.Int.{ints}
use Rattle.std.specs.List.{AllByRecursion}
use Rattle.sp_defs.specs.Partition.{compare, Ascending}
use Rattle.sp_defs.specs.Laurent.{Laurent, coefficient, plus, negate, times, lift, IsLaurent, IsBarInvariant}
use Rattle.sp_defs.specs.Laurent.{IsPositive, sum_over}
use Rattle.sp_defs.specs.Power.{Vector}
use Rattle.sp_defs.specs.Row.{Factors, combination, before, factors, factor_of, shares_over}
use Rattle.sp_algebra.proofs.Laws.{coefficient-plus, coefficient-negate, IsLaurent-bar_invariant, times_one}
use Rattle.sp_algebra.proofs.Laws.{lift_unique}
use Rattle.sp_shapes.proofs.Before.{before_after}
use Rattle.sp_triangle.proofs.Triangle.{drop_term, combination-cons, Triangle, row_positive}
use Rattle.sp_triangle.proofs.Shares.{rows, keys-shares, from_keys, invariant-shares, shares_sum, rows_triangle}

-- The share at nu, when `later` are the regular partitions between nu and mu.
abbrev pub share_of : (List ℕ → Vector) → List ℕ → List ℕ → List (List ℕ) → Laurent
share_of A mu nu later =
    negate
    (plus (factor_of A nu mu later)
    (sum_over (shares_over A mu later) (λ a. times a.1 (factor_of A nu a.0 (before a.0 later)))))

module _ (Good : List ℕ → Type 0) (A : List ℕ → Vector) (tri : Triangle Good A)
    (l : (nu lambda : List ℕ) → IsLaurent (A nu lambda)) where
  -- ---- earlier partitions add nothing at a later one

  row_prefix : (kappa lambda : List ℕ) (lower between : List (List ℕ)) → Good lambda → AllByRecursion Good lower →
      AllByRecursion (λ nu. compare nu lambda ≡ Less) lower →
      combination A (factors A kappa (lower ++ between)) lambda ≡ combination A (factors A kappa between) lambda
  unfolding factors
  row_prefix kappa lambda [] between gl gs h = refl
  row_prefix kappa lambda (nu ∷ lower) between gl (g, gs) (h, hs) =
      drop_term A nu (factor_of A nu kappa (lower ++ between)) (factors A kappa (lower ++ between)) lambda
      (tri.later nu lambda g gl h)
      ∙ row_prefix kappa lambda lower between gl gs hs

  all_prefix : (lower seg : List (List ℕ)) (nu : List ℕ) (fs : Factors) → Good nu → AllByRecursion Good lower →
      AllByRecursion (λ x. compare x nu ≡ Less) lower →
      AllByRecursion (λ f. AllByRecursion (λ x. compare x f.0 ≡ Less) lower) fs →
      AllByRecursion (λ f. times f.1 (rows A (lower ++ seg) f.0 nu) ≡ times f.1 (rows A seg f.0 nu)) fs
  all_prefix lower seg nu [] gn gs h k = tt
  all_prefix lower seg nu (f ∷ fs) gn gs h (k, ks) = (
    ap (times f.1)
        (ap (λ s. combination A (factors A f.0 s) nu) (before_after f.0 lower seg k)
        ∙ row_prefix f.0 nu lower (before f.0 seg) gn gs h),
    all_prefix lower seg nu fs gn gs h ks,
  )

  -- ---- the share at nu, with the rows over the partitions from nu on

  from_nu : (mu nu : List ℕ) (later : List (List ℕ)) → Good mu → AllByRecursion Good (nu ∷ later) →
      Ascending (nu ∷ later) →
      share_of A mu nu later
      ≡ lift (plus (A mu nu) (negate (combination (rows A (nu ∷ later)) (shares_over A mu later) nu)))
  unfolding shares_over
  from_nu mu nu later gm (gn, gs) up =
      lift_unique (plus (A mu nu) (negate rest)) a bar_a
      (λ j low.
      omega (
        arith,
        ints,
        c j,
        positive j low,
        coefficient-plus (plus (A mu nu) (negate rest)) (negate a) j,
        coefficient-plus (A mu nu) (negate rest) j,
        coefficient-negate rest j,
        coefficient-negate a j,
      ))
    where
      a : Laurent
      a = share_of A mu nu later

      bar_a : IsBarInvariant a
      bar_a = (invariant-shares A mu (nu ∷ later)).0

      rest : Laurent
      rest = combination (rows A (nu ∷ later)) (shares_over A mu later) nu

      own : Laurent
      own = combination A (factors A mu (nu ∷ later)) nu

      positive : IsPositive own
      positive = (row_positive Good A tri mu (nu ∷ later) gm (gn, gs) up).0

      total : plus own (plus a rest) ≡ A mu nu
      total =
          ap (plus own)
          (sym
          (combination-cons (rows A (nu ∷ later)) nu a (shares_over A mu later) nu
          ∙ ap (λ x. plus (times a x) rest)
          ((rows_triangle Good A tri (nu ∷ later) (gn, gs)).diagonal nu gn)
          ∙ ap (λ x. plus x rest) (times_one a (IsLaurent-bar_invariant a bar_a))))
          ∙ shares_sum A l mu (nu ∷ later) nu up

      c : (j : ℤ) → coefficient own j +ℤ (coefficient a j +ℤ coefficient rest j) ≡ coefficient (A mu nu) j
      c j =
          sym (coefficient-plus own (plus a rest) j ∙ ap (λ x. coefficient own j +ℤ x) (coefficient-plus a rest j))
          ∙ ap (λ x. coefficient x j) total

  -- with the rows over the whole list
  pub next_share : (mu nu : List ℕ) (lower later : List (List ℕ)) → Good mu → AllByRecursion Good lower →
      AllByRecursion Good (nu ∷ later) → AllByRecursion (λ x. compare x nu ≡ Less) lower →
      AllByRecursion (λ kappa. AllByRecursion (λ x. compare x kappa ≡ Less) lower) later → Ascending (nu ∷ later) →
      share_of A mu nu later
      ≡ lift (plus (A mu nu) (negate (combination (rows A (lower ++ (nu ∷ later))) (shares_over A mu later) nu)))
  unfolding combination
  next_share mu nu lower later gm gl gs h hs up =
      from_nu mu nu later gm gs up ∙ ap (λ x. lift (plus (A mu nu) (negate x))) (sym lower_add_nothing)
    where
      s : Factors
      s = shares_over A mu later

      keys_later : AllByRecursion (λ f. AllByRecursion (λ x. compare x f.0 ≡ Less) lower) s
      keys_later = from_keys (λ kappa. AllByRecursion (λ x. compare x kappa ≡ Less) lower) s
          (subst (λ ks. AllByRecursion (λ kappa. AllByRecursion (λ x. compare x kappa ≡ Less) lower) ks)
          (sym (keys-shares A mu later)) hs)

      lower_add_nothing : combination (rows A (lower ++ (nu ∷ later))) s nu ≡ combination (rows A (nu ∷ later)) s nu
      lower_add_nothing = sum_over-alike s _ _ (all_prefix lower (nu ∷ later) nu s gs.0 gl h keys_later)
