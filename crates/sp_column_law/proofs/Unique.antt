-- A right column is the row: with bar-invariant shares that give the ladder vector back, its vector is the regular row,
-- and its shares are the shares that aren't 0.
use Rattle.std.proofs.Common.{◌≡◌, ◌≢◌, ℕ, true, List, [], map, filter, reverse, sym, ◌∙◌, ap}
use Rattle.std.proofs.Common.{arith, ℤ, pos, ◌≤ℤ◌, Less, Equal}
use Rattle.std.specs.List.{AllByRecursion}
use Rattle.std.specs.Ordering.{is_lt}
use Rattle.std.proofs.lemmas.Int.{ints}
use Rattle.sp_defs.specs.Partition.{degree, partitions, regulars, is_regular, compare, Ascending, IsPartitionOf}
use Rattle.sp_defs.specs.Laurent.{IsLaurent, coefficient, IsBarInvariant, IsPositive}
use Rattle.sp_defs.specs.Power.{Vector, vector_of, IsVector}
use Rattle.sp_defs.specs.Ladder.{ladder_vector}
use Rattle.sp_defs.specs.Row.{Factors, combination, earlier, regular_row, shares}
use Rattle.sp_defs.specs.Statements.{IsLabel}
use Rattle.sp_lists.proofs.Elements.{all_both, all_reverse}
use Rattle.sp_lists.proofs.Occurrence.{at_occurs}
use Rattle.sp_shapes.proofs.Order.{all_mono, equal_self}
use Rattle.sp_shapes.proofs.Listing.{each_regular}
use Rattle.sp_algebra.proofs.Coefficients.{same_laurent}
use Rattle.sp_algebra.proofs.Laws.{coefficient-plus, bar_invariant-nought, IsLaurent-bar_invariant}
use Rattle.sp_fock_law.proofs.Vectors.{entries-vector_of, vector_of-all}
use Rattle.sp_triangle.proofs.Triangle.{same_factors}
use Rattle.sp_triangle.proofs.Shares.{rows, rows_triangle, keys-shares, invariant-shares}
use Rattle.sp_row_law.proofs.Setting.{Good, IsBefore, good_earlier, earlier_before, earlier_ascends, triangle}
use Rattle.sp_row_law.proofs.RowsLaw.{rows_law, keyed_same}
use Rattle.sp_outcome_law.specs.Asking.{given}
use Rattle.sp_outcome_law.specs.Asking.{is_nonzero as is_nonzero_share}
use Rattle.sp_outcome_law.proofs.Left.{IsLaurent-row, combination_nonzero}
use Rattle.sp_column_law.specs.Column.{IsRight}
use Rattle.sp_column_law.proofs.Refilled.{entries_at-filter, vector_of-outside, filled, keys-filled, filled-all}
use Rattle.sp_column_law.proofs.Refilled.{combination-reverse}

-- What is known of the shares of a column, the greatest partition first: e-regular partitions before mu, strictly
-- descending, with factors that aren't 0.
pub record AreShares (e : ℕ) (mu : List ℕ) (shares : Factors) : Type 0 where
  pub before : AllByRecursion (λ a. IsBefore e mu a.0) shares
  pub ascending : Ascending (map (λ a. a.0) (reverse shares))
  pub nonzero : AllByRecursion (λ a. a.1 ≢ []) shares

module _ (e : ℕ) (mu : List ℕ) (is : IsLabel e mu) (fs : Factors) (known : AreShares e mu fs) (w : Vector)
    (polynomials : (lambda : List ℕ) → IsPartitionOf (degree mu) lambda → IsLaurent (w lambda))
    (right : IsRight e (regular_row e) mu fs w) where
  abbrev n : ℕ
  n = degree mu

  abbrev A : List ℕ → Vector
  A = ladder_vector e

  abbrev seg : List (List ℕ)
  seg = earlier e mu

  -- ---- the shares, ascending, and with 0 at the other partitions before mu

  abbrev up : Factors
  up = reverse fs

  abbrev full : Factors
  full = filled seg (vector_of up)

  before_up : AllByRecursion (λ a. IsBefore e mu a.0) up
  before_up = all_reverse (λ a. IsBefore e mu a.0) fs known.before

  invariant_up : AllByRecursion (λ a. IsBarInvariant a.1) up
  invariant_up = all_reverse (λ a. IsBarInvariant a.1) fs right.invariant

  up_vector : IsVector n up
  up_vector = record {
    partitions_of =
        all_mono (λ a. IsBefore e mu a.0) (λ a. IsPartitionOf n a.0) up
        (λ a h. record { partition = h.0.partition; total = h.0.total }) before_up;
    ascending = known.ascending;
    polynomials = all_both (λ a. IsLaurent a.1) (λ a. a.1 ≢ []) up
        (all_mono (λ a. IsBarInvariant a.1) (λ a. IsLaurent a.1) up (λ a h. IsLaurent-bar_invariant a.1 h)
        invariant_up)
        (all_reverse (λ a. a.1 ≢ []) fs known.nonzero);
  }

  -- without the zeros these are the shares again
  unfilled : filter is_nonzero_share full ≡ up
  unfolding regulars
  unfilled =
      entries_at-filter (λ nu. is_lt (compare nu mu)) (regulars e n) (vector_of up)
      (λ x h. vector_of-outside (λ nu. is_lt (compare nu mu)) up x
      (all_mono (λ a. IsBefore e mu a.0) (λ a. is_lt (compare a.0 mu) ≡ true) up (λ a b. ap is_lt b.1) before_up) h)
      ∙ entries_at-filter (is_regular e) (partitions n) (vector_of up)
      (λ x h. vector_of-outside (is_regular e) up x
      (all_mono (λ a. IsBefore e mu a.0) (λ a. is_regular e a.0 ≡ true) up (λ a b. b.0.regular) before_up) h)
      ∙ entries-vector_of n up up_vector

  full_invariant : AllByRecursion (λ f. IsBarInvariant f.1) full
  full_invariant = filled-all IsBarInvariant seg (vector_of up)
      (vector_of-all IsBarInvariant bar_invariant-nought up invariant_up)

  -- they give the same sums
  full_sum : (lambda : List ℕ) → combination (regular_row e) full lambda ≡ combination (regular_row e) fs lambda
  full_sum lambda =
      sym (combination_nonzero (regular_row e) full lambda)
      ∙ ap (λ gs. combination (regular_row e) gs lambda) unfilled
      ∙ combination-reverse (regular_row e) fs lambda

  -- ---- the two lists of factors agree at each partition before mu, so they are the same

  not_mu : (nu : List ℕ) → compare nu mu ≡ Less → nu ≢ mu
  not_mu nu lt same = let w : Less ≡ compare mu mu = sym lt ∙ ap (λ x. compare x mu) same in
      let z : compare mu mu ≡ Equal = equal_self mu in cc

  agree : (nu : List ℕ) → IsBefore e mu nu → (j : ℤ) → j ≤ℤ pos 0 →
      coefficient (combination (rows A seg) full nu) j ≡ coefficient (combination (rows A seg) (shares e mu) nu) j
  unfolding shares
  agree nu (good, lt) j low = omega (
    arith,
    ints,
    ap (λ p. coefficient p j) (keyed_same e mu is full nu (keys-filled seg (vector_of up)) ∙ full_sum nu),
    ap (λ p. coefficient p j) (keyed_same e mu is (shares e mu) nu (keys-shares A mu seg)),
    ap (λ p. coefficient p j)
        (right.sum nu (record { partition = good.partition; total = good.total })),
    ap (λ p. coefficient p j) ((rows_law e mu is).shares_sum nu),
    coefficient-plus (w nu) (combination (regular_row e) fs nu) j,
    coefficient-plus (regular_row e mu nu) (combination (regular_row e) (shares e mu) nu) j,
    right.elsewhere nu (record { partition = good.partition; total = good.total }) (not_mu nu lt) j low,
    at_occurs (λ x. x ≢ mu → IsPositive (regular_row e mu x)) nu (regulars e n) (each_regular e n nu good)
        (rows_law e mu is).elsewhere (not_mu nu lt) j low,
  )

  same_shares : full ≡ shares e mu
  unfolding shares
  same_shares = same_factors (Good e mu) (rows A seg)
      (rows_triangle (Good e mu) A (triangle e mu is) seg (good_earlier e mu)) seg full (shares e mu)
      (good_earlier e mu) (earlier_ascends e mu) (keys-filled seg (vector_of up)) (keys-shares A mu seg)
      full_invariant (invariant-shares A mu seg)
      (all_mono (IsBefore e mu)
      (λ nu. (j : ℤ) → j ≤ℤ pos 0 →
      coefficient (combination (rows A seg) full nu) j ≡ coefficient (combination (rows A seg) (shares e mu) nu) j)
      seg agree (earlier_before e mu))

  -- the shares of a right column are the shares that aren't 0
  pub right_shares : given e mu 0 ≡ up
  unfolding given
  right_shares = ap (filter is_nonzero_share) (sym same_shares) ∙ unfilled

  -- the vector of a right column is the regular row
  pub right_row : (lambda : List ℕ) → IsPartitionOf n lambda → w lambda ≡ regular_row e mu lambda
  right_row lambda h = same_laurent (w lambda) (regular_row e mu lambda) (polynomials lambda h)
      (IsLaurent-row e mu lambda) by_power
    where
      by_power : (j : ℤ) → coefficient (w lambda) j ≡ coefficient (regular_row e mu lambda) j
      by_power j = omega (
        arith,
        ints,
        ap (λ p. coefficient p j) (right.sum lambda h),
        ap (λ p. coefficient p j) ((rows_law e mu is).shares_sum lambda),
        ap (λ gs. coefficient (combination (regular_row e) gs lambda) j) same_shares,
        ap (λ p. coefficient p j) (full_sum lambda),
        coefficient-plus (w lambda) (combination (regular_row e) fs lambda) j,
        coefficient-plus (regular_row e mu lambda) (combination (regular_row e) (shares e mu) lambda) j,
      )
