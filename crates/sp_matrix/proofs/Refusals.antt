-- One column more: its row, or why it has none.
use Rattle.std.proofs.Common.{◌≡◌, ℕ, ◌-◌, ◌<◌, ◌≤◌, true, List, [], ◌∷◌, ◌++◌, map, length, reverse, take, get_or}
use Rattle.std.proofs.Common.{Err, Some, refl, sym, ◌∙◌, ap, Bor, append_assoc}
use Rattle.std.proofs.lemmas.List.{map-append}
use Rattle.sp_defs.specs.Power.{FockVector}
use Rattle.sp_defs.specs.Row.{outcome}
use Rattle.sp_llt.specs.declared.refused.Refused.{Refused}
use Rattle.sp_llt.specs.declared.refused.Refused.TheVariants as refused
use Rattle.sp_llt.specs.Found.{outcome_told}
use Rattle.sp_llt.specs.Refusals.{refused_as, or_else}
use Rattle.sp_matrix.specs.declared.scope.Scope.{Scope}
use Rattle.sp_matrix.specs.Refusal.{refused_column}
use Rattle.sp_matrix.specs.Scope.{is_in, within}
use Rattle.sp_matrix.specs.Walk.{row_of, vectors_of}
use Rattle.sp_matrix.proofs.Backwards.{within_here}

-- A refusal that an outcome tells names its column and its reason.
pub told_refusal : (why : Refused) (x : List ℕ) →
    refused_as x (outcome_told (Err why)) ≡ Some (record { mu = x; why = why })
told_refusal refused.TooLarge x = refl
told_refusal (refused.Stray at) x = refl

module _ (e : ℕ) (s : Scope) (xs : List (List ℕ)) (k : ℕ) (x : List ℕ) (some : 0 < k) (le : k ≤ length xs)
    (at : x ≡ get_or xs (k - 1) x) (is : is_in e s x ≡ true) where
  abbrev rest : List (List ℕ)
  rest = within e s (reverse (take (k - 1) xs))

  -- The rows so far, with one row more, and those still to come are the same rows.
  pub rows_here : (n : ℕ) (list : List (Bor FockVector)) (row : Bor FockVector) → row.now ≡ row_of e n x →
      vectors_of (list ++ row ∷ []) ++ map (row_of e n) rest ≡
      vectors_of list ++ map (row_of e n) (within e s (reverse (take k xs)))
  rows_here n list row row_is =
      ap (λ vs. vs ++ map (row_of e n) rest) (map-append (λ (r : Bor FockVector). r.now) list (row ∷ []))
      ∙ append_assoc (vectors_of list) (row.now ∷ []) (map (row_of e n) rest)
      ∙ ap (λ v. vectors_of list ++ (v ∷ map (row_of e n) rest)) row_is
      ∙ ap (λ ys. vectors_of list ++ map (row_of e n) ys) (sym (within_here e s xs k x some le at is))

  -- The first refusal from the k-th column down is that of this column, or else that of those below.
  pub refused_here : (limit : ℕ) →
      refused_column e limit (within e s (reverse (take k xs))) ≡
      or_else (refused_as x (outcome e limit x)) (refused_column e limit rest)
  unfolding refused_column
  refused_here limit = ap (refused_column e limit) (within_here e s xs k x some le at is)
