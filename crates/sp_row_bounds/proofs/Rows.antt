-- The powers in the ladder vector and the shares of an e-regular partition lie within the square of the degree. Those
-- in its regular row, and in all that is made on the way, lie within that square times one more than its rank.
use Rattle.std.proofs.Common.{◌≡◌, ◌≢◌, ℕ, ◌+◌, ◌*◌, ◌≤◌, Bool, true, false, cond, List, [], ◌∷◌, length}
use Rattle.std.proofs.Common.{filter, drop, sym, subst, arith, ◌⊎◌, inl, inr, ℤ}
use Rattle.std.specs.Int.RustNames.{unsigned_abs}
use Rattle.std.specs.List.{AllByRecursion}
use Rattle.std.specs.Ordering.{is_eq}
use Rattle.sp_defs.specs.Partition.{degree, IsPartition, compare}
use Rattle.sp_defs.specs.Laurent.{Laurent, plus, negate, times}
use Rattle.sp_defs.specs.Power.{Vector, Entries, vector_of}
use Rattle.sp_defs.specs.Ladder.{ladder_vector}
use Rattle.sp_defs.specs.Row.{Factors, combination, earlier, shares_over, regular_row, shares}
use Rattle.sp_defs.specs.Statements.{IsLabel}
use Rattle.sp_defs.specs.Within.{PowersWithin, ProductWithin}
use Rattle.sp_lists.proofs.Places.{all_at, all_drop, all_weaken}
use Rattle.sp_lists.proofs.Elements.{nil_or_not, all_both, all_filter}
use Rattle.sp_algebra.proofs.Sizes.{powers_plus, within_times, within_more}
use Rattle.sp_triangle.proofs.Shares.{rows}
use Rattle.sp_ladder_law.proofs.LadderLaw.{ladder_law}
use Rattle.sp_row_law.proofs.Setting.{Good, IsBefore, good, good_earlier, earlier_before, earlier_ascends, triangle}
use Rattle.sp_row_law.proofs.Setting.{row_same}
use Rattle.sp_row_law.proofs.Setting.{label, IsLaurent-ladder_vector}
use Rattle.sp_row_bounds.specs.Powers.{ladder_bound, row_bound, RowPowers, PowersLaw}
use Rattle.sp_row_bounds.proofs.Powers.{powers_negate, powers_sum}
use Rattle.sp_row_bounds.proofs.Exponents.{ladder_within}
use Rattle.sp_row_bounds.proofs.Shares.{by_keys, near_shares, near_row, near_products}

-- where the ladder vector of nu is not 0, the degree is that of nu
pub ladder_near : (e : ℕ) (nu lambda : List ℕ) → IsLabel e nu → IsPartition lambda →
    PowersWithin (degree nu * degree nu) (ladder_vector e nu lambda)
ladder_near e nu lambda label pl = settle (nil_or_not (ladder_vector e nu lambda))
  where
    settle : (ladder_vector e nu lambda ≡ []) ⊎ (ladder_vector e nu lambda ≢ []) →
        PowersWithin (degree nu * degree nu) (ladder_vector e nu lambda)
    settle (inl z) = subst (PowersWithin (degree nu * degree nu)) (sym z) tt
    settle (inr ne) =
        subst (λ n. PowersWithin (n * n) (ladder_vector e nu lambda))
        (sym ((ladder_law e nu label).below lambda pl ne).one_degree) (ladder_within e nu lambda pl)

-- what is looked up is one of the entries, or 0
near_vector : (b : ℕ) (es : Entries) (nu : List ℕ) → AllByRecursion (λ t. PowersWithin b t.1) es →
    PowersWithin b (vector_of es nu)
unfolding vector_of
near_vector b [] nu h = tt
near_vector b ((kappa, p) ∷ es) nu (h, hs) = found (is_eq (compare kappa nu)) (near_vector b es nu hs)
  where
    found : (c : Bool) → PowersWithin b (vector_of es nu) → PowersWithin b (cond c p (vector_of es nu))
    found true rest = h
    found false rest = rest

-- ---- one e-regular partition

module _ (e : ℕ) (mu : List ℕ) (is : IsLabel e mu) where
  abbrev A : List ℕ → Vector
  A = ladder_vector e

  abbrev seg : List (List ℕ)
  seg = earlier e mu

  -- ---- the ladder vectors of that degree

  there : (lambda : List ℕ) → IsPartition lambda → (nu : List ℕ) → Good e mu nu →
      PowersWithin (ladder_bound mu) (ladder_vector e nu lambda)
  there lambda pl nu g =
      subst (λ n. PowersWithin (n * n) (ladder_vector e nu lambda)) g.total
      (ladder_near e nu lambda (label e (degree mu) nu is.e_least g) pl)

  between : (nu kappa : List ℕ) → Good e mu nu → Good e mu kappa →
      PowersWithin (ladder_bound mu) (ladder_vector e nu kappa)
  between nu kappa gn gk = there kappa gk.partition nu gn

  -- ---- a share times its row

  Product : List ℕ → List ℕ × Laurent → Type 0
  Product lambda a = ProductWithin (row_bound e mu) a.1 (regular_row e a.0 lambda)

  products_near : (lambda : List ℕ) → IsPartition lambda → AllByRecursion (Product lambda) (shares e mu)
  unfolding shares Product
  products_near lambda pl =
      all_weaken
      (λ a. ProductWithin (row_bound e mu) a.1 (rows A seg a.0 lambda) × IsBefore e mu a.0)
      (Product lambda) (shares_over A mu seg)
      (λ a h. subst (ProductWithin (row_bound e mu) a.1) (row_same e mu a.0 lambda h.1) h.0)
      (all_both (λ a. ProductWithin (row_bound e mu) a.1 (rows A seg a.0 lambda))
      (λ a. IsBefore e mu a.0) (shares_over A mu seg)
      (near_products (Good e mu) A (triangle e mu is) (IsLaurent-ladder_vector e) (ladder_bound mu) between lambda
      (there lambda pl) mu seg (good e mu is) (good_earlier e mu) (earlier_ascends e mu))
      (by_keys (Good e mu) A (triangle e mu is) (IsLaurent-ladder_vector e) (ladder_bound mu) (IsBefore e mu) mu seg
      (earlier_before e mu)))

  Term : List ℕ → List ℕ × Laurent → Type 0
  Term lambda a = PowersWithin (row_bound e mu) (times a.1 (regular_row e a.0 lambda))

  terms_near : (lambda : List ℕ) → IsPartition lambda → AllByRecursion (Term lambda) (shares e mu)
  unfolding Product Term
  terms_near lambda pl =
      all_weaken (Product lambda) (Term lambda) (shares e mu)
      (λ a h. within_times (row_bound e mu) a.1 (regular_row e a.0 lambda) h) (products_near lambda pl)

  -- ---- without any of the shares

  without : (given : Factors) (lambda : List ℕ) → IsPartition lambda → AllByRecursion (Term lambda) given →
      PowersWithin (row_bound e mu)
      (plus (ladder_vector e mu lambda) (negate (combination (regular_row e) given lambda)))
  unfolding Term combination
  without given lambda pl h =
      powers_plus Near (ladder_vector e mu lambda) (negate (combination (regular_row e) given lambda))
      (within_more (ladder_bound mu) (row_bound e mu) (ladder_vector e mu lambda)
      (at_least (length seg) (ladder_bound mu)) (ladder_near e mu lambda is pl))
      (powers_negate Near (combination (regular_row e) given lambda)
      (powers_sum Near (λ a. times a.1 (regular_row e a.0 lambda)) given h))
    where
      Near : ℤ → Type 0
      Near k = unsigned_abs k ≤ row_bound e mu

      at_least : (k d : ℕ) → d ≤ (k + 1) * d
      at_least k d = omega arith

  all_shares_near : AllByRecursion (λ a. PowersWithin (ladder_bound mu) a.1) (shares e mu)
  unfolding shares
  all_shares_near =
      near_shares (Good e mu) A (triangle e mu is) (IsLaurent-ladder_vector e) (ladder_bound mu) between mu seg
      (good e mu is) (good_earlier e mu) (earlier_ascends e mu)

  row_near : (lambda : List ℕ) → IsPartition lambda → PowersWithin (row_bound e mu) (regular_row e mu lambda)
  unfolding regular_row
  row_near lambda pl =
      near_row (Good e mu) A (triangle e mu is) (IsLaurent-ladder_vector e) (ladder_bound mu) between lambda
      (there lambda pl) mu seg (good e mu is) (good_earlier e mu) (earlier_ascends e mu)

  -- the bounds on powers for mu
  pub row_powers : RowPowers e mu
  unfolding Product Term
  row_powers = record {
    ladder = λ lambda pl. ladder_near e mu lambda is pl;
    shares_at = all_shares_near;
    share_of = λ nu. near_vector (ladder_bound mu) (shares e mu) nu all_shares_near;
    row = row_near;
    products = products_near;
    terms = terms_near;
    left = λ t test lambda pl.
        without (filter test (drop t (shares e mu))) lambda pl
        (all_filter (Term lambda) test (drop t (shares e mu))
        (all_weaken (Term lambda) (λ a. test a ≡ true → Term lambda a) (drop t (shares e mu)) (λ a h _. h)
        (all_drop (Term lambda) (shares e mu) t
        (λ i d _ lt. all_at (Term lambda) (shares e mu) i d (terms_near lambda pl) lt))));
  }

-- The bounds on powers for all e and mu.
pub powers_law : PowersLaw
powers_law e mu h = row_powers e mu h
