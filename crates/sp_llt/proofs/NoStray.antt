-- With no stray partition the regular row is a row.
use Rattle.std.proofs.Common.{◌≡◌, ◌≢◌, ℕ, Bool, true, false, ◌&&◌, not, List, [], ◌∷◌, reverse, refl, sym, ◌∙◌, ap}
use Rattle.std.proofs.Common.{subst, ◌⊎◌, inl, inr, None, Ordering, Less, Equal, Greater}
use Rattle.std.specs.List.{AllByRecursion}
use Rattle.std.specs.Ordering.{is_eq}
use Rattle.sp_defs.specs.Partition.{degree, regulars, partitions, compare, IsPartition, IsRegularOf}
use Rattle.sp_defs.specs.Laurent.{Laurent, times, IsPositive}
use Rattle.sp_defs.specs.Ladder.{ladder_vector}
use Rattle.sp_defs.specs.Row.{combination, factors, earlier, regular_row, stray, is_positive, IsRow}
use Rattle.sp_defs.specs.Statements.{IsLabel}
use Rattle.sp_lists.proofs.Elements.{all_append, nil_or_not}
use Rattle.sp_algebra.proofs.Laws.{times_nought}
use Rattle.sp_algebra.proofs.Sums.{nonzero_term}
use Rattle.sp_shapes.proofs.Order.{all_mono, same_lists}
use Rattle.sp_shapes.proofs.Before.{all_kept}
use Rattle.sp_shapes.proofs.Listing.{all_regulars, each_partition, at_occurs}
use Rattle.sp_triangle.proofs.Triangle.{keys-factors}
use Rattle.sp_triangle.proofs.Shares.{from_keys}
use Rattle.sp_ladder_law.proofs.LadderLaw.{ladder_law}
use Rattle.sp_row_law.proofs.RowsLaw.{rows_law}
use Rattle.sp_lists.proofs.Elements.{reverse_all}
use Rattle.sp_lists.proofs.Finding.{find_none}
use Rattle.sp_llt.proofs.Positive.{test_positive, nothing}

module _ (e : ℕ) (mu : List ℕ) (is : IsLabel e mu) where
  -- ---- all partitions in the row have mu's degree

  abbrev OfDegree : List ℕ → Type 0
  OfDegree nu = IsLabel e nu × (degree nu ≡ degree mu)

  factors_of_degree : AllByRecursion (λ f. OfDegree f.0) (factors (ladder_vector e) mu (earlier e mu))
  factors_of_degree = from_keys OfDegree (factors (ladder_vector e) mu (earlier e mu))
      (subst (AllByRecursion OfDegree) (sym (keys-factors (ladder_vector e) mu (earlier e mu)))
      (all_append OfDegree (earlier e mu) (mu ∷ [])
      (all_mono (IsRegularOf e (degree mu)) OfDegree (earlier e mu)
      (λ nu h. (record { e_least = is.e_least; partition = h.partition; regular = h.regular }, h.total))
      (all_kept (IsRegularOf e (degree mu)) mu (regulars e (degree mu)) (all_regulars e (degree mu))))
      ((is, refl), tt)))

  row_degree : (lambda : List ℕ) → IsPartition lambda → regular_row e mu lambda ≢ [] → degree lambda ≡ degree mu
  unfolding regular_row combination
  row_degree lambda pl ne =
      from
      (nonzero_term (λ f. OfDegree f.0) (factors (ladder_vector e) mu (earlier e mu))
      (λ f. times f.1 (ladder_vector e f.0 lambda)) factors_of_degree ne)
    where
      from : (f : List ℕ × Laurent) × OfDegree f.0 × (times f.1 (ladder_vector e f.0 lambda) ≢ []) →
          degree lambda ≡ degree mu
      from (f, (label, total), nz) =
          sym ((ladder_law e f.0 label).below lambda pl (λ z. nz (ap (times f.1) z ∙ times_nought
          f.1))).one_degree ∙ total

  -- ---- no partition is stray

  abbrev is_stray : List ℕ → Bool
  is_stray lambda = not (is_eq (compare lambda mu)) && not (is_positive (regular_row e mu lambda))

  not_stray : (lambda : List ℕ) → lambda ≢ mu → is_stray lambda ≡ false → is_positive (regular_row e mu lambda) ≡ true
  not_stray lambda other h =
      settle (compare lambda mu) refl (is_positive (regular_row e mu lambda)) h
    where
      settle : (o : Ordering) → compare lambda mu ≡ o → (b : Bool) → (not (is_eq o) && not b) ≡ false → b ≡ true
      settle o e true h = refl
      settle Less e false h = absurd (cc)
      settle Greater e false h = absurd (cc)
      settle Equal e false h = absurd (other (same_lists lambda mu e))

  -- where no partition is stray, the regular row is the row
  pub row_without_stray : stray e mu ≡ None → IsRow e mu (regular_row e mu)
  row_without_stray h = record {
    in_span = (rows_law e mu is).in_span;
    at_mu = (rows_law e mu is).at_mu;
    elsewhere = λ lambda pl other. by_zero lambda pl other (nil_or_not (regular_row e mu lambda));
  }
    where
      none : AllByRecursion (λ lambda. is_stray lambda ≡ false) (partitions (degree mu))
      none = reverse_all (λ lambda. is_stray lambda ≡ false) (partitions (degree mu))
          (find_none is_stray (reverse (partitions (degree mu))) h)

      by_zero : (lambda : List ℕ) → IsPartition lambda → lambda ≢ mu →
          (regular_row e mu lambda ≡ []) ⊎ (regular_row e mu lambda ≢ []) → IsPositive (regular_row e mu lambda)
      by_zero lambda pl other (inl z) = subst (λ q. IsPositive q) (sym z) (λ j low. nothing j)
      by_zero lambda pl other (inr ne) =
          test_positive (regular_row e mu lambda)
          (not_stray lambda other
          (at_occurs (λ lambda. is_stray lambda ≡ false) lambda (partitions (degree mu))
          (each_partition (degree mu) lambda pl (row_degree lambda pl ne)) none))
