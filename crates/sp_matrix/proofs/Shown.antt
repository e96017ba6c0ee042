-- The cells along a line.
use Rattle.std.proofs.Common.{◌≡◌, ℕ, ◌+◌, ◌<◌, List, [], ◌∷◌, ◌++◌, map, length, take, get_or, refl, sym, ◌∙◌, ap}
use Rattle.std.proofs.lemmas.List.{take_more, map-append}
use Rattle.sp_defs.specs.Laurent.{int_sum}
use Rattle.sp_matrix.specs.declared.scope.Form.{Form}
use Rattle.sp_matrix.specs.declared.scope.Form.TheVariants.{Polynomial, Constant}
use Rattle.sp_matrix.specs.Scope.{shown}

-- 0 shows as 0.
pub shown_nought : (form : Form) → shown form [] ≡ []
unfolding int_sum
shown_nought Polynomial = refl
shown_nought Constant = refl

-- The images of one element more are those so far, and the image of this one.
pub map_more : {X Y : Type 0} (f : X → Y) (xs : List X) (i : ℕ) (x : X) → i < length xs → x ≡ get_or xs i x →
    map f (take (i + 1) xs) ≡ map f (take i xs) ++ f x ∷ []
map_more f xs i x lt at =
    ap (map f) (take_more xs i x lt ∙ ap (λ y. take i xs ++ y ∷ []) (sym at))
    ∙ map-append f (take i xs) (x ∷ [])
