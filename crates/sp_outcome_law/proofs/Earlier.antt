-- The partitions in a regular row, other than its own, are earlier: each is dominated by an e-regular one that is mu or
-- earlier, and dominance implies the lexicographic order.
use Rattle.std.proofs.Common.{◌≡◌, ◌≢◌, ℕ, List, [], ◌∷◌, refl, sym, ◌∙◌, ap, subst}
use Rattle.std.proofs.Common.{◌⊎◌, inl, inr, Ordering, Less, Equal, Greater}
use Rattle.std.specs.List.{AllByRecursion}
use Rattle.sp_defs.specs.Partition.{degree, IsPartition, Dominates, compare}
use Rattle.sp_defs.specs.Laurent.{Laurent, times}
use Rattle.sp_defs.specs.Ladder.{ladder_vector}
use Rattle.sp_defs.specs.Row.{combination, factors, earlier, regular_row}
use Rattle.sp_defs.specs.Statements.{IsLabel}
use Rattle.sp_lists.proofs.Elements.{all_append}
use Rattle.sp_algebra.proofs.Laws.{times_nought}
use Rattle.sp_algebra.proofs.Sums.{nonzero_term}
use Rattle.sp_shapes.proofs.Order.{earlier_than, less_trans, same_lists}
use Rattle.sp_triangle.proofs.Triangle.{keys-factors}
use Rattle.sp_triangle.proofs.Shares.{from_keys}
use Rattle.sp_ladder_law.proofs.LadderLaw.{ladder_law}
use Rattle.sp_row_law.proofs.Setting.{not_lower, IsBefore, earlier_before, label}
use Rattle.sp_lists.proofs.Places.{all_weaken}

-- ---- what dominance says of the order

-- what is dominated by mu or by an earlier one is earlier, or it is mu
dominated_earlier : (mu nu lambda : List ℕ) → IsPartition lambda → Dominates nu lambda →
    (compare nu mu ≡ Less) ⊎ (nu ≡ mu) → lambda ≢ mu → compare lambda mu ≡ Less
dominated_earlier mu nu lambda pl d k other = by_order (compare nu lambda) refl k
  where
    by_order : (o : Ordering) → compare nu lambda ≡ o → (compare nu mu ≡ Less) ⊎ (nu ≡ mu) → compare lambda mu ≡ Less
    by_order Less e k = absurd (not_lower nu lambda pl d.sums e)
    by_order Equal e (inl lt) = subst (λ x. compare x mu ≡ Less) (same_lists nu lambda e) lt
    by_order Equal e (inr s) = absurd (other (sym (same_lists nu lambda e) ∙ s))
    by_order Greater e (inl lt) = less_trans lambda nu mu (earlier_than nu lambda e) lt
    by_order Greater e (inr s) = subst (λ x. compare lambda x ≡ Less) s (earlier_than nu lambda e)

-- ---- the partitions in the row

module _ (e : ℕ) (mu : List ℕ) (is : IsLabel e mu) where
  abbrev Within : List ℕ → Type 0
  Within nu = IsLabel e nu × ((compare nu mu ≡ Less) ⊎ (nu ≡ mu))

  earlier_within : AllByRecursion Within (earlier e mu)
  earlier_within =
      all_weaken (IsBefore e mu) Within (earlier e mu)
      (λ nu h. (label e (degree mu) nu is.e_least h.0, inl h.1)) (earlier_before e mu)

  factors_within : AllByRecursion (λ f. Within f.0) (factors (ladder_vector e) mu (earlier e mu))
  factors_within = from_keys Within (factors (ladder_vector e) mu (earlier e mu))
      (subst (AllByRecursion Within) (sym (keys-factors (ladder_vector e) mu (earlier e mu)))
      (all_append Within (earlier e mu) (mu ∷ []) earlier_within ((is, inr refl), tt)))

  -- A partition in the row is mu or earlier.
  pub row_earlier : (lambda : List ℕ) → IsPartition lambda → regular_row e mu lambda ≢ [] → lambda ≢ mu →
      compare lambda mu ≡ Less
  unfolding regular_row combination
  row_earlier lambda pl ne other =
      from
      (nonzero_term (λ f. Within f.0) (factors (ladder_vector e) mu (earlier e mu))
      (λ f. times f.1 (ladder_vector e f.0 lambda)) factors_within ne)
    where
      from : (f : List ℕ × Laurent) × Within f.0 × (times f.1 (ladder_vector e f.0 lambda) ≢ []) →
          compare lambda mu ≡ Less
      from (f, (label, k), nz) =
          dominated_earlier mu f.0 lambda pl
          ((ladder_law e f.0 label).below lambda pl (λ z. nz (ap (times f.1) z ∙ times_nought f.1))) k other
