-- Labels: those that a list has, from the back, and the place of a column.
use Rattle.std.proofs.Common.{◌≡◌, ℕ, ◌-◌, ◌<◌, ◌≤◌, Bool, true, false, cond, List, [], ◌∷◌, filter, length, reverse}
use Rattle.std.proofs.Common.{take, get_or, ◌∙◌, ap, refl, arith, nat_eq, Some, None, ltb, ltb-false, ltb-true, ℤ, pos}
use Rattle.std.proofs.lemmas.List.{get_or_past}
use Rattle.std.specs.Cmp.Lexicographic.{pointwise}
use Rattle.std.specs.List.{position}
use Rattle.sp_lists.proofs.Backwards.{back_more, back_none}
use Rattle.sp_module_defs.specs.Cells.{place}
use Rattle.sp_session.specs.Modules.{dim_at}

module _ {X : Type 0} (test : X → Bool) (xs : List X) where
  -- From the back, the k-th element comes first among those that are kept, where it is kept.
  pub kept_here : (k : ℕ) (x : X) → 0 < k → k ≤ length xs → x ≡ get_or xs (k - 1) x → test x ≡ true →
      filter test (reverse (take k xs)) ≡ x ∷ filter test (reverse (take (k - 1) xs))
  kept_here k x some le at is =
      ap (filter test) (back_more xs k x some le at)
      ∙ ap (λ b. cond b (x ∷ filter test (reverse (take (k - 1) xs))) (filter test (reverse (take (k - 1) xs)))) is

  -- Where it is not, it is left out.
  pub kept_past : (k : ℕ) (x : X) → 0 < k → k ≤ length xs → x ≡ get_or xs (k - 1) x → test x ≡ false →
      filter test (reverse (take k xs)) ≡ filter test (reverse (take (k - 1) xs))
  kept_past k x some le at is =
      ap (filter test) (back_more xs k x some le at)
      ∙ ap (λ b. cond b (x ∷ filter test (reverse (take (k - 1) xs))) (filter test (reverse (take (k - 1) xs)))) is

  -- Of no elements none is kept.
  pub kept_done : (k : ℕ) → k ≤ 0 → filter test (reverse (take k xs)) ≡ []
  kept_done k le = ap (filter test) (back_none xs k le)

-- ---- the place of a column

some_of : (b : Bool) (n k : ℕ) → cond b (Some n) None ≡ Some k → (b ≡ true) × (n ≡ k)
some_of true n k is = (refl, cc)
some_of false n k is = cc

none_of : (b : Bool) (n : ℕ) → cond b (Some n) None ≡ None → b ≡ false
none_of true n is = cc
none_of false n is = refl

-- The place that a search finds is that of the column.
pub place_found : (columns : List (List ℕ)) (mu : List ℕ) (k : ℕ) →
    position (λ column. pointwise nat_eq column mu) columns ≡ Some k → (k < length columns) × (place columns mu ≡ k)
unfolding place
place_found columns mu k is =
    let found = some_of (ltb (place columns mu) (length columns)) (place columns mu) k is in
    let within = ltb-true (place columns mu) (length columns) found.0 in
    (omega (arith, within, found.1), found.1)

-- A column that isn't found has no dimension.
pub dim_missing : (columns : List (List ℕ)) (dims : List ℤ) (mu : List ℕ) → length dims ≡ length columns →
    position (λ column. pointwise nat_eq column mu) columns ≡ None → dim_at columns dims mu ≡ pos 0
unfolding place
dim_missing columns dims mu same is =
    get_or_past dims (place columns mu) (pos 0)
    (let past = ltb-false (place columns mu) (length columns)
    (none_of (ltb (place columns mu) (length columns)) (place columns mu) is) in omega (arith, same, past))
