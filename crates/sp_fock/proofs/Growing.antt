-- What one step along totals and terms does to what is still to come.
use Rattle.std.proofs.Common.{◌≡◌, ℕ, ◌+◌, ◌*◌, ◌≤◌, Bool, true, false, cond, List, [], ◌∷◌, ◌++◌, nat_lt, refl, sym}
use Rattle.std.proofs.Common.{◌∙◌, ap}
use Rattle.std.proofs.Common.{subst}
use Rattle.sp_defs.specs.Laurent.{size}
use Rattle.sp_fock_law.specs.Joined.{Joint}
use Rattle.sp_fock_law.proofs.Totals.{size-constant}
use Rattle.sp_fock.specs.declared.totals.Growth.{Growth}
use Rattle.sp_fock.specs.Growth.{growth_of, grown_to, grown_along, total_at}
use Rattle.sp_fock.specs.Sum.{AllFit}
use Rattle.sp_fock.specs.Walk.{shown}

module _ (factor : ℕ) (g : Growth) (js ks : List Joint) (step : js ≡ growth_of g ∷ ks) where
  sizes : size (growth_of g).first + factor * size (growth_of g).second ≡ grown_to factor g
  sizes = ap (λ k. k + factor * size (shown g.term)) (size-constant g.total)

  -- where all fits, so does the first total
  pub head_fits : (limit : ℕ) → AllFit factor limit js → grown_to factor g ≤ limit
  head_fits limit h = subst (λ k. k ≤ limit) sizes (subst (AllFit factor limit) step h).0

  -- where all fits, so does the rest
  pub rest_fits : (limit : ℕ) → AllFit factor limit js → AllFit factor limit ks
  rest_fits limit h = (subst (AllFit factor limit) step h).1

  -- where the first total and the rest fit, so does all
  pub all_fit : (limit : ℕ) → grown_to factor g ≤ limit → AllFit factor limit ks → AllFit factor limit js
  all_fit limit h hs = subst (AllFit factor limit) (sym step) (subst (λ k. k ≤ limit) (sym sizes) h, hs)

  -- the first total grows, and then the rest
  pub grown_step : grown_along factor js ≡ total_at g.at (grown_to factor g) ++ grown_along factor ks
  grown_step =
      ap (grown_along factor) step
      ∙ ap (λ k. cond (nat_lt 0 k) ((g.at, k) ∷ grown_along factor ks) (grown_along factor ks)) sizes
      ∙ in_front (nat_lt 0 (grown_to factor g))
    where
      in_front : (b : Bool) → cond b ((g.at, grown_to factor g) ∷ grown_along factor ks) (grown_along factor ks)
          ≡ cond b ((g.at, grown_to factor g) ∷ []) [] ++ grown_along factor ks
      in_front true = refl
      in_front false = refl
