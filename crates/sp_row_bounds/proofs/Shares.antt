-- Over any triangle of vectors with powers within d: the powers of the shares are within d, and those of the row of mu
-- within d for mu and for each partition before it.
use Rattle.std.proofs.Common.{◌≡◌, ℕ, zero, suc, ◌+◌, ◌*◌, ◌<◌, ◌≤◌, List, [], ◌∷◌, length, sym}
use Rattle.std.proofs.Common.{ap, subst, arith, length-append, ℤ, pos, ◌<ℤ◌, Less, mul-le-mul_right}
use Rattle.std.proofs.lemmas.Int.{ints}
use Rattle.std.specs.Int.RustNames.{unsigned_abs}
use Rattle.std.specs.List.{AllByRecursion}
use Rattle.sp_defs.specs.Partition.{compare, Ascending}
use Rattle.sp_defs.specs.Laurent.{Laurent, coefficient, plus, negate, times, IsLaurent, IsPositive}
use Rattle.sp_defs.specs.Power.{Vector}
use Rattle.sp_defs.specs.Row.{Factors, combination, before, factors, shares_over}
use Rattle.sp_defs.specs.Within.{PowersWithin, ProductWithin}
use Rattle.sp_lists.proofs.Elements.{all_every, all_both}
use Rattle.sp_algebra.proofs.Coefficients.{same_laurent}
use Rattle.sp_algebra.proofs.Laws.{coefficient-plus, coefficient-negate, IsLaurent-plus}
use Rattle.sp_algebra.proofs.Sizes.{powers_plus, within_times, within_more, product_within}
use Rattle.sp_shapes.proofs.Before.{before_keep, all_kept, Ascending-before, after, about}
use Rattle.sp_triangle.proofs.Triangle.{Triangle, IsLaurent-combination, row_positive}
use Rattle.sp_triangle.proofs.Shares.{rows, keys-shares, from_keys, shares_sum}
use Rattle.sp_triangle.proofs.NextShare.{share_of, next_share}
use Rattle.sp_row_bounds.proofs.Powers.{AllPowers, Floor, powers_negate, powers_sum, powers_times, within_floor}
use Rattle.sp_row_bounds.proofs.Powers.{within_lift, positive_powers}
use Rattle.sp_lists.proofs.Places.{all_weaken}
use Rattle.sp_lists.proofs.Occurrence.{Occurs, all_occur}

-- ---- how many are before one of the list

-- Fewer are before one of an ascending list than it has.
pub fewer_before : (kappa : List ℕ) (seg : List (List ℕ)) → Ascending seg → Occurs kappa seg →
    length (before kappa seg) + 1 ≤ length seg
fewer_before kappa seg up o =
    omega (arith, ap length (about kappa seg up o).whole, length-append (before kappa seg) (kappa ∷ after kappa seg))

-- ---- what a sum leaves

rest_is : (c w a : Laurent) → IsLaurent c → plus c w ≡ a → c ≡ plus a (negate w)
rest_is c w a l e = same_laurent c (plus a (negate w)) l (IsLaurent-plus a (negate w)) (λ j.
    omega (
      arith,
      ints,
      coefficient-plus a (negate w) j,
      coefficient-negate w j,
      coefficient-plus c w j,
      ap (λ p. coefficient p j) e,
    ))

module _ (Good : List ℕ → Type 0) (A : List ℕ → Vector) (tri : Triangle Good A)
    (l : (nu lambda : List ℕ) → IsLaurent (A nu lambda)) (d : ℕ) where
  -- what holds of the keys holds of each share's
  pub by_keys : (P : List ℕ → Type 0) (mu : List ℕ) (seg : List (List ℕ)) → AllByRecursion P seg →
      AllByRecursion (λ a. P a.0) (shares_over A mu seg)
  by_keys P mu seg h =
      from_keys P (shares_over A mu seg) (subst (λ ks. AllByRecursion P ks) (sym (keys-shares A mu seg)) h)

  -- ---- the shares

  -- the row of a later partition has positive powers alone at the first
  at_first : (nu kappa : List ℕ) (later : List (List ℕ)) → AllByRecursion Good (nu ∷ later) → Ascending (nu ∷ later) →
      Good kappa → compare nu kappa ≡ Less → IsPositive (rows A (nu ∷ later) kappa nu)
  at_first nu kappa later gs up gk lt =
      let all : AllByRecursion (λ x. IsPositive (rows A (nu ∷ later) kappa x)) (before kappa (nu ∷ later)) =
      row_positive Good A tri kappa (before kappa (nu ∷ later)) gk (all_kept Good kappa (nu ∷ later) gs)
      (Ascending-before kappa (nu ∷ later) up) in
      (subst (λ ks. AllByRecursion (λ x. IsPositive (rows A (nu ∷ later) kappa x)) ks)
      (before_keep nu kappa later lt) all).0

  -- a product of a share and such a row has no powers down to -d
  product_floor : (p q : Laurent) → IsLaurent q → PowersWithin d p → IsPositive q → AllPowers (Floor d) (times p q)
  product_floor p q lq hp hq =
      powers_times (Floor d) (λ k. pos 0 <ℤ k) (Floor d) (λ j k g h. omega (arith, ints)) p q (within_floor d p hp)
      (positive_powers q lq hq)

  module _ (near : (mu nu : List ℕ) → Good mu → Good nu → PowersWithin d (A mu nu)) where
    -- the share is the lift of what has no powers below -d
    near_first : (mu nu : List ℕ) (later : List (List ℕ)) → Good mu → AllByRecursion Good (nu ∷ later) →
        Ascending (nu ∷ later) → AllByRecursion (λ a. PowersWithin d a.1) (shares_over A mu later) →
        PowersWithin d (share_of A mu nu later)
    unfolding combination
    near_first mu nu later gm (gn, gs) (u, us) ih =
        subst (PowersWithin d)
        (sym (next_share Good A tri l mu nu [] later gm tt (gn, gs) tt
        (all_every (λ kappa. AllByRecursion (λ x. compare x kappa ≡ Less) []) later (λ _. tt)) (u, us)))
        (within_lift d (plus (A mu nu) (negate taken))
        (powers_plus (Floor d) (A mu nu) (negate taken) (within_floor d (A mu nu) (near mu nu gm gn))
        (powers_negate (Floor d) taken (powers_sum (Floor d) term s terms))))
      where
        s : Factors
        s = shares_over A mu later

        term : List ℕ × Laurent → Laurent
        term a = times a.1 (rows A (nu ∷ later) a.0 nu)

        taken : Laurent
        taken = combination (rows A (nu ∷ later)) s nu

        terms : AllByRecursion (λ a. AllPowers (Floor d) (term a)) s
        terms =
            all_weaken (λ a. PowersWithin d a.1 × (Good a.0 × (compare nu a.0 ≡ Less)))
            (λ a. AllPowers (Floor d) (term a)) s
            (λ a h.
            product_floor a.1 (rows A (nu ∷ later) a.0 nu)
            (IsLaurent-combination A (factors A a.0 (before a.0 (nu ∷ later))) nu) h.0
            (at_first nu a.0 later (gn, gs) (u, us) h.1.0 h.1.1))
            (all_both (λ a. PowersWithin d a.1) (λ a. Good a.0 × (compare nu a.0 ≡ Less)) s ih
            (all_both (λ a. Good a.0) (λ a. compare nu a.0 ≡ Less) s (by_keys Good mu later gs)
            (by_keys (λ x. compare nu x ≡ Less) mu later u)))

    -- The powers of the shares lie within the bound.
    pub near_shares : (mu : List ℕ) (seg : List (List ℕ)) → Good mu → AllByRecursion Good seg → Ascending seg →
        AllByRecursion (λ a. PowersWithin d a.1) (shares_over A mu seg)
    unfolding shares_over
    near_shares mu [] gm gs up = tt
    near_shares mu (nu ∷ later) gm (gn, gs) (u, us) =
        let rest = near_shares mu later gm gs us in (near_first mu nu later gm (gn, gs) (u, us) rest, rest)

    -- ---- the rows at a partition where the vectors are within d

    module _ (lambda : List ℕ) (there : (nu : List ℕ) → Good nu → PowersWithin d (A nu lambda)) where
      -- each earlier row is within d less
      AllLess : List ℕ → List (List ℕ) → Type 0
      AllLess mu seg =
          AllByRecursion (λ a. PowersWithin (length seg * d) (rows A seg a.0 lambda)) (shares_over A mu seg)

      -- so its product with the share is within the bound
      products_from : (mu : List ℕ) (seg : List (List ℕ)) → Good mu → AllByRecursion Good seg → Ascending seg →
          AllLess mu seg →
          AllByRecursion (λ a. ProductWithin ((length seg + 1) * d) a.1 (rows A seg a.0 lambda)) (shares_over A mu seg)
      unfolding AllLess
      products_from mu seg gm gs up less =
          all_weaken (λ a. PowersWithin d a.1 × PowersWithin (length seg * d) (rows A seg a.0 lambda))
          (λ a. ProductWithin ((length seg + 1) * d) a.1 (rows A seg a.0 lambda)) (shares_over A mu seg)
          (λ a h.
          product_within d (length seg * d) ((length seg + 1) * d) a.1 (rows A seg a.0 lambda) (one_more (length seg))
          h.0 h.1)
          (all_both (λ a. PowersWithin d a.1) (λ a. PowersWithin (length seg * d) (rows A seg a.0 lambda))
          (shares_over A mu seg) (near_shares mu seg gm gs up) less)
        where
          one_more : (k : ℕ) → d + k * d ≤ (k + 1) * d
          one_more k = omega arith

      row_from : (mu : List ℕ) (seg : List (List ℕ)) → Good mu → AllByRecursion Good seg → Ascending seg →
          AllLess mu seg → PowersWithin ((length seg + 1) * d) (combination A (factors A mu seg) lambda)
      unfolding combination
      row_from mu seg gm gs up less =
          subst (PowersWithin ((length seg + 1) * d))
          (sym (rest_is (combination A (factors A mu seg) lambda) taken (A mu lambda)
          (IsLaurent-combination A (factors A mu seg) lambda) (shares_sum A l mu seg lambda up)))
          (powers_plus Near (A mu lambda) (negate taken)
          (within_more d ((length seg + 1) * d) (A mu lambda) (at_least (length seg)) (there mu gm))
          (powers_negate Near taken (powers_sum Near (λ a. times a.1 (rows A seg a.0 lambda)) (shares_over A mu seg)
          (all_weaken (λ a. ProductWithin ((length seg + 1) * d) a.1 (rows A seg a.0 lambda))
          (λ a. PowersWithin ((length seg + 1) * d) (times a.1 (rows A seg a.0 lambda))) (shares_over A mu seg)
          (λ a h. within_times ((length seg + 1) * d) a.1 (rows A seg a.0 lambda) h)
          (products_from mu seg gm gs up less)))))
        where
          Near : ℤ → Type 0
          Near k = unsigned_abs k ≤ (length seg + 1) * d

          taken : Laurent
          taken = combination (rows A seg) (shares_over A mu seg) lambda

          at_least : (k : ℕ) → d ≤ (k + 1) * d
          at_least k = omega arith

      -- the rows before mu have fewer before them
      less_from : (mu : List ℕ) (seg : List (List ℕ)) → AllByRecursion Good seg → Ascending seg →
          ((kappa : List ℕ) (lower : List (List ℕ)) → length lower < length seg → Good kappa →
          AllByRecursion Good lower → Ascending lower →
          PowersWithin ((length lower + 1) * d) (combination A (factors A kappa lower) lambda)) →
          AllLess mu seg
      unfolding AllLess
      less_from mu seg gs up ih =
          all_weaken (λ a. Good a.0 × Occurs a.0 seg) (λ a. PowersWithin (length seg * d) (rows A seg a.0 lambda))
          (shares_over A mu seg) (λ a h. one a.0 h.0 h.1)
          (all_both (λ a. Good a.0) (λ a. Occurs a.0 seg) (shares_over A mu seg) (by_keys Good mu seg gs)
          (by_keys (λ x. Occurs x seg) mu seg (all_occur seg)))
        where
          one : (kappa : List ℕ) → Good kappa → Occurs kappa seg →
              PowersWithin (length seg * d) (rows A seg kappa lambda)
          one kappa gk o =
              let few : length (before kappa seg) + 1 ≤ length seg = fewer_before kappa seg up o in
              within_more ((length (before kappa seg) + 1) * d) (length seg * d) (rows A seg kappa lambda)
              (scaled (length (before kappa seg) + 1) (length seg) few)
              (ih kappa (before kappa seg) (omega arith) gk (all_kept Good kappa seg gs)
              (Ascending-before kappa seg up))
            where
              scaled : (a b : ℕ) → a ≤ b → a * d ≤ b * d
              scaled a b le = mul-le-mul_right d le

      -- by the number of partitions before
      near_rows : (k : ℕ) (mu : List ℕ) (seg : List (List ℕ)) → length seg ≤ k → Good mu → AllByRecursion Good seg →
          Ascending seg → PowersWithin ((length seg + 1) * d) (combination A (factors A mu seg) lambda)
      near_rows zero mu seg few gm gs up =
          row_from mu seg gm gs up (less_from mu seg gs up (λ kappa lower lt. absurd (omega arith)))
      near_rows (suc k) mu seg few gm gs up =
          row_from mu seg gm gs up (less_from mu seg gs up
          (λ kappa lower lt gk gl ul. near_rows k kappa lower (omega arith) gk gl ul))

      -- The powers of the row lie within the bound times one more than the length of the segment.
      pub near_row : (mu : List ℕ) (seg : List (List ℕ)) → Good mu → AllByRecursion Good seg → Ascending seg →
          PowersWithin ((length seg + 1) * d) (combination A (factors A mu seg) lambda)
      near_row mu seg gm gs up = near_rows (length seg) mu seg (omega arith) gm gs up

      -- So do those of each share times its row.
      pub near_products : (mu : List ℕ) (seg : List (List ℕ)) → Good mu → AllByRecursion Good seg → Ascending seg →
          AllByRecursion (λ a. ProductWithin ((length seg + 1) * d) a.1 (rows A seg a.0 lambda)) (shares_over A mu seg)
      near_products mu seg gm gs up =
          products_from mu seg gm gs up (less_from mu seg gs up
          (λ kappa lower lt gk gl ul. near_row kappa lower gk gl ul))
