-- A partition is what its core and its quotient are combined to, and no other partition has both.
use Rattle.std.proofs.Common.{◌≡◌, ℕ, ◌+◌, ◌*◌, ◌≤◌, List, length, sum_by, sym, ◌∙◌, ap, ap₂}
use Rattle.std.specs.List.{AllByRecursion}
use Rattle.sp_defs.specs.Partition.{degree, IsPartition}
use Rattle.sp_defs.specs.Abacus.{core, quotient, beta, runner, shown}
use Rattle.std.proofs.lemmas.List.FromFn.{length-map-range_with_len}
use Rattle.sp_abacus_law.specs.Combined.{combined}
use Rattle.sp_abacus_law.proofs.CoreQuotient.{combined_own, core_again, combined_core, combined_quotient}
use Rattle.sp_abacus_law.proofs.Weight.{degree-core}

module _ (e : ℕ) (he : 1 ≤ e) (kappa : List ℕ) (q : List (List ℕ)) (lambda : List ℕ) (h : IsPartition lambda)
    (ck : core e lambda ≡ kappa) (cq : quotient e lambda ≡ q) where
  -- A partition with core kappa makes kappa its own core.
  pub its_own : core e kappa ≡ kappa
  its_own = ap (core e) (sym ck) ∙ core_again e he lambda ∙ ck

  -- It is the one combined of kappa and its quotient,
  pub combined_back : combined e kappa q ≡ lambda
  combined_back = ap₂ (combined e) (sym ck) (sym cq) ∙ combined_own e he lambda h

  -- has the degree that these make,
  pub degree_back : degree lambda ≡ degree kappa + e * sum_by degree q
  degree_back = degree-core e lambda he h ∙ ap₂ (λ k w. degree k + e * sum_by degree w) ck cq

  -- and its quotient has e entries.
  pub count_back : length q ≡ e
  count_back =
      ap length (sym cq) ∙ length-map-range_with_len (λ i. shown (runner e (beta e lambda) i)) 0 e

-- The partition combined of a core and a quotient has both.
pub has_both : (e : ℕ) → 1 ≤ e → (kappa : List ℕ) (q : List (List ℕ)) → IsPartition kappa → length q ≡ e →
    AllByRecursion IsPartition q → core e kappa ≡ kappa →
    core e (combined e kappa q) ≡ kappa × quotient e (combined e kappa q) ≡ q
has_both e he kappa q pk count pq own =
    (combined_core e he kappa q pk count pq ∙ own, combined_quotient e he kappa q pk count pq)
