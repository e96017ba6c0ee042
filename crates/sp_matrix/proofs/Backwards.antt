-- What is within a scope, of a list that is walked from the back.
use Rattle.std.proofs.Common.{◌≡◌, ℕ, ◌-◌, ◌<◌, ◌≤◌, true, false, cond, List, [], ◌∷◌}
use Rattle.std.proofs.Common.{length, reverse, take, get_or, refl, ◌∙◌, ap}
use Rattle.sp_lists.proofs.Backwards.{back_more, back_none}
use Rattle.sp_matrix.specs.declared.scope.Scope.{Scope}
use Rattle.sp_matrix.specs.declared.scope.Scope.TheVariants.{All, Block}
use Rattle.sp_matrix.specs.Scope.{is_in, within}

-- An element in front stays exactly where it is in the scope.
pub within_cons : (e : ℕ) (s : Scope) (x : List ℕ) (xs : List (List ℕ)) →
    within e s (x ∷ xs) ≡ cond (is_in e s x) (x ∷ within e s xs) (within e s xs)
unfolding within
within_cons e All x xs = refl
within_cons e (Block kappa) x xs = refl

-- Nothing is within a scope of the empty list.
pub within_nil : (e : ℕ) (s : Scope) → within e s [] ≡ []
unfolding within
within_nil e All = refl
within_nil e (Block kappa) = refl

-- From the back, the k-th element comes first among those within the scope, where it is in the scope.
pub within_here : (e : ℕ) (s : Scope) (xs : List (List ℕ)) (k : ℕ) (x : List ℕ) → 0 < k → k ≤ length xs →
    x ≡ get_or xs (k - 1) x → is_in e s x ≡ true →
    within e s (reverse (take k xs)) ≡ x ∷ within e s (reverse (take (k - 1) xs))
within_here e s xs k x some le at is =
    ap (within e s) (back_more xs k x some le at)
    ∙ within_cons e s x (reverse (take (k - 1) xs))
    ∙ ap (λ b. cond b (x ∷ within e s (reverse (take (k - 1) xs))) (within e s (reverse (take (k - 1) xs)))) is

-- From the back, the k-th element is left out where it is not in the scope.
pub within_past : (e : ℕ) (s : Scope) (xs : List (List ℕ)) (k : ℕ) (x : List ℕ) → 0 < k → k ≤ length xs →
    x ≡ get_or xs (k - 1) x → is_in e s x ≡ false →
    within e s (reverse (take k xs)) ≡ within e s (reverse (take (k - 1) xs))
within_past e s xs k x some le at is =
    ap (within e s) (back_more xs k x some le at)
    ∙ within_cons e s x (reverse (take (k - 1) xs))
    ∙ ap (λ b. cond b (x ∷ within e s (reverse (take (k - 1) xs))) (within e s (reverse (take (k - 1) xs)))) is

-- Of no elements none is within the scope.
pub within_done : (e : ℕ) (s : Scope) (xs : List (List ℕ)) (k : ℕ) → k ≤ 0 → within e s (reverse (take k xs)) ≡ []
within_done e s xs k le = ap (within e s) (back_none xs k le) ∙ within_nil e s
