-- What the code makes of a tally's totals is what its contracts say, and a tally again.
use Rattle.std.proofs.Common.{◌≡◌, ℕ, ◌+◌, ◌*◌, ◌^◌, ◌<◌, ◌≤◌, ◌↔◌, true, List, map, nat_lt, sym, ◌∙◌, ap, ap₂, subst}
use Rattle.std.proofs.Common.{arith}
use Rattle.std.specs.List.{AllByRecursion}
use Rattle.sp_defs.specs.Laurent.{Laurent, negate, size}
use Rattle.sp_defs.specs.Power.{FockVector, IsVector}
use Rattle.sp_lists.proofs.Elements.{all_filter, all_map}
use Rattle.sp_partition.specs.Held.{IsHeld as IsHeldPartition}
use Rattle.sp_laurent.specs.Held.{IsHeld as IsHeldPolynomial}
use Rattle.sp_shapes.proofs.Order.{all_mono}
use Rattle.sp_fock_law.specs.Addition.{scaled_sum}
use Rattle.sp_fock_law.specs.Joined.{Joint, joined}
use Rattle.sp_fock_law.specs.Tally.{Totals, TallyValue, IsTally, constants, tally_of, subtracted, subtraction_weight}
use Rattle.sp_fock_law.proofs.Tally.{IsTally-tally_of, IsTally-subtracted}
use Rattle.sp_fock_law.proofs.Totals.{sizes-totals, grown-totals, growth_within}
use Rattle.sp_fock.specs.Growth.{grown_along}
use Rattle.sp_fock.specs.Held.{IsHeld}
use Rattle.sp_fock.specs.Sum.{AllFit}

-- The tally of a vector and totals.
abbrev pub tally_with : FockVector → Totals → TallyValue
tally_with v ts = record { vector = v; totals = ts }

abbrev AreSmall : Totals → Type 0
AreSmall ts = AllByRecursion (λ total. total.1 < 2 ^ 127) ts

-- ---- the sizes of a vector

module _ (v : FockVector) (held : IsHeld v) (ts : Totals) (sizes : ts ≡ map (λ t. (t.0, size t.1)) v.entries) where
  are_sizes : ts ≡ (tally_of v).totals
  are_sizes = sizes ∙ sizes-totals v.degree v.entries held.vector

  -- a vector with its sizes is its tally
  pub sizes_tally : tally_with v ts ≡ tally_of v
  sizes_tally = ap (tally_with v) are_sizes

  -- and what is kept is a tally
  pub sizes_kept : IsTally (tally_with v ts)
  sizes_kept = subst IsTally (sym sizes_tally) (IsTally-tally_of v (subst AreSmall are_sizes (subst AreSmall (sym sizes)
      (all_map (λ total. total.1 < 2 ^ 127) (λ t. (t.0, size t.1)) v.entries
      (all_mono (λ t. IsHeldPartition t.0 × IsHeldPolynomial t.1) (λ t. size t.1 < 2 ^ 127) v.entries
      (λ t h. h.1.small) held.pairs)))))

-- ---- a tally from which a times w is subtracted

module _ (t : TallyValue) (tally : IsTally t) (a : Laurent) (w : FockVector) (held : IsHeld w)
    (one_degree : t.vector.degree ≡ w.degree) where
  second : IsVector t.vector.degree w.entries
  second = subst (λ n. IsVector n w.entries) (sym one_degree) held.vector

  -- the weight is within the limit exactly where all along the walk fits
  pub fits_exactly : (limit : ℕ) → (subtraction_weight t a w ≤ limit)
      ↔ AllFit (size a) limit (joined (constants t.totals) w.entries)
  fits_exactly limit = growth_within t.vector.degree limit a t.totals w.entries tally.totals second

  module _ (v : FockVector) (ts : Totals) (left : v ≡ scaled_sum t.vector (negate a) w)
      (grown : ts ≡ grown_along (size a) (joined (constants t.totals) w.entries)) where
    are_grown : ts ≡ (subtracted t a w).totals
    are_grown = grown ∙ grown-totals t.vector.degree (size a) t.totals w.entries tally.totals second

    -- the difference with the grown totals is the tally from which a times w is subtracted
    pub left_tally : tally_with v ts ≡ subtracted t a w
    left_tally = ap₂ tally_with left are_grown

    -- and it is a tally where all along the walk fits
    pub left_kept : (limit : ℕ) → limit < 2 ^ 127 → AllFit (size a) limit (joined (constants t.totals) w.entries)
        → IsTally (tally_with v ts)
    left_kept limit most fits =
        subst IsTally (sym left_tally)
        (IsTally-subtracted t tally a w (subst AreSmall are_grown (subst AreSmall (sym grown) small)))
      where
        js : List Joint
        js = joined (constants t.totals) w.entries

        small : AreSmall (grown_along (size a) js)
        small =
            all_filter (λ total. total.1 < 2 ^ 127) (λ t. nat_lt 0 t.1)
            (map (λ j. (j.at, size j.first + size a * size j.second)) js)
            (all_map (λ total. nat_lt 0 total.1 ≡ true → total.1 < 2 ^ 127)
            (λ j. (j.at, size j.first + size a * size j.second)) js
            (all_mono (λ j. size j.first + size a * size j.second ≤ limit)
            (λ j. nat_lt 0 (size j.first + size a * size j.second) ≡ true
            → size j.first + size a * size j.second < 2 ^ 127) js
            (λ j k _. omega arith) fits))
