-- The laws of rows, told of what an entry holds.
use Rattle.std.proofs.Common.{◌≡◌, ◌≢◌, ℕ, ◌+◌, ◌*◌, ◌<◌, true, List, [], map, length, get_or}
use Rattle.std.proofs.Common.{sym, ◌∙◌, ap, ap₂, subst, arith}
use Rattle.std.specs.List.{AllByRecursion}
use Rattle.sp_defs.specs.Partition.{partitions, IsEarlier, IsPartitionOf}
use Rattle.sp_defs.specs.Laurent.{Laurent, IsBarInvariant}
use Rattle.sp_defs.specs.Power.{entries}
use Rattle.sp_defs.specs.Row.{earlier, regular_row, shares}
use Rattle.sp_defs.specs.Statements.{SameContent}
use Rattle.sp_defs.specs.Within.{PowersWithin}
use Rattle.sp_lists.proofs.Elements.{all_map, all_filter}
use Rattle.sp_lists.proofs.Places.{all_at}
use Rattle.sp_shapes.proofs.Listing.{all_partitions}
use Rattle.sp_shapes.proofs.Order.{all_mono}
use Rattle.sp_fock_law.proofs.Vectors.{vector_of-entries}
use Rattle.sp_fock_law.proofs.Vectors.{all_at as entries_keep}
use Rattle.sp_row_law.proofs.RowsLaw.{rows_law}
use Rattle.sp_row_law.proofs.Contents.{row_content_law}
use Rattle.sp_row_bounds.specs.Powers.{row_bound, ladder_bound}
use Rattle.sp_row_bounds.proofs.Entries.{row_entries, share_within}
use Rattle.sp_outcome_law.specs.Asking.{given, is_nonzero, share_at}
use Rattle.sp_outcome_law.proofs.Earlier.{row_earlier}
use Rattle.sp_outcome_law.proofs.Listed.{nonempty}
use Rattle.sp_outcome_law.proofs.Ranks.{length_shares, earlier_at}
use Rattle.sp_core.specs.declared.piece.Key.{Key}
use Rattle.sp_llt.specs.Place.{IsPlace, place, label}
use Rattle.sp_llt.specs.Laws.{ObeysRowLaw, ObeysShareLaw, row_powers}
use Rattle.sp_llt.specs.Shares.{given_shares, ranked_share}
use Rattle.sp_lists.proofs.Elements.{all_reverse}
use Rattle.sp_lists.proofs.Places.{all_places}
use Rattle.sp_llt.proofs.Labels.{LabelFacts, label_facts, lower_place, by_degree}

module _ (key : Key) (rank : ℕ) (p : IsPlace (place key rank)) where
  abbrev e : ℕ
  e = key.e

  abbrev n : ℕ
  n = key.degree

  abbrev mu : List ℕ
  mu = label key rank

  f : LabelFacts key rank
  f = label_facts key rank p

  -- ---- the regular row

  bound_is : row_bound e mu ≡ row_powers (place key rank)
  bound_is = ap₂ (λ k d. (k + 1) * (d * d)) f.count f.total

  powers : AllByRecursion (λ t. PowersWithin (row_powers (place key rank)) t.1) (entries n (regular_row e mu))
  powers = subst (λ d. AllByRecursion (λ t. PowersWithin (row_powers (place key rank)) t.1) (entries d
      (regular_row e mu)))
      f.total
      (row_entries e mu (row_powers (place key rank)) f.is_label (omega (arith, bound_is)))

  -- the entries of the regular row obey the law of rows
  pub obeys_row : ObeysRowLaw (place key rank) (entries n (regular_row e mu))
  obeys_row = record {
    at_mu =
        vector_of-entries n (regular_row e mu) mu (record { partition = f.regular.partition; total = f.total })
        ∙ (rows_law e mu f.is_label).at_mu;
    below = entries_keep (λ t. t.0 ≢ mu → IsEarlier t.0 mu) (partitions n) (regular_row e mu)
        (all_mono (IsPartitionOf n) (λ x. (regular_row e mu x ≢ []) → x ≢ mu → IsEarlier x mu) (partitions n)
        (λ x h ne other. row_earlier e mu f.is_label x h.partition ne other) (all_partitions n));
    contents = entries_keep (λ t. SameContent e mu t.0) (partitions n) (regular_row e mu)
        (all_mono (IsPartitionOf n) (λ x. (regular_row e mu x ≢ []) → SameContent e mu x) (partitions n)
        (λ x h ne. (row_content_law e mu f.is_label).row x ne) (all_partitions n));
    powers = powers;
  }

  -- ---- the shares

  share_obeys : (j : ℕ) → j < length (shares e mu) → is_nonzero (get_or (shares e mu) j ([], [])) ≡ true →
      ObeysShareLaw (place key rank) (ranked_share e (get_or (shares e mu) j ([], [])))
  unfolding share_at
  share_obeys j lt nz = record {
    earlier = omega (arith, count, low);
    nonzero = nonempty a.1 nz;
    invariant = all_at (λ s. IsBarInvariant s.1) (shares e mu) j ([], []) (rows_law e mu
        f.is_label).shares_invariant lt;
    content = subst (SameContent e mu) (at ∙ ap (label key) (sym count))
        (all_at (λ s. s.1 ≢ [] → SameContent e mu s.0) (shares e mu) j ([], [])
        (row_content_law e mu f.is_label).shares_at lt (nonempty a.1 nz));
    powers = subst (λ d. PowersWithin (d * d) a.1) f.total
        (share_within e mu (ladder_bound mu) j ([], []) f.is_label (omega arith) lt);
  }
    where
      a : List ℕ × Laurent
      a = get_or (shares e mu) j ([], [])

      low : j < rank
      low = omega (arith, length_shares e mu, f.count, lt)

      at : a.0 ≡ label key j
      at = sym (earlier_at e mu f.is_label j [] (omega (arith, length_shares e mu, lt))) ∙ by_degree key rank j f

      count : length (earlier e a.0) ≡ j
      count = ap (λ nu. length (earlier e nu)) at ∙ (label_facts key j (lower_place key rank j p low)).count

  -- the shares obey the law of shares
  pub obey_shares : AllByRecursion (ObeysShareLaw (place key rank)) (given_shares e mu 0)
  unfolding given_shares given
  obey_shares =
      all_reverse (ObeysShareLaw (place key rank)) (map (ranked_share e) (given e mu 0))
      (all_map (ObeysShareLaw (place key rank)) (ranked_share e) (given e mu 0)
      (all_filter (λ a. ObeysShareLaw (place key rank) (ranked_share e a)) is_nonzero (shares e mu)
      (all_places (λ a. is_nonzero a ≡ true → ObeysShareLaw (place key rank) (ranked_share e a)) (shares e mu) ([], [])
      share_obeys)))
