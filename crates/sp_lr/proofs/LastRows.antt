-- What is left as a row of its own.
use Rattle.std.proofs.Common.{◌≡◌, ◌≢◌, ℕ, ◌<◌, ◌≤◌, false, cond, nat_le, nat_eq, List, [], ◌∷◌, ◌++◌, sym}
use Rattle.std.proofs.Common.{◌∙◌, ap, ap₂, subst, arith, eq-eqb, ne_eqb, append-nil}
use Rattle.std.proofs.lemmas.Bool.{le-leb}
use Rattle.std.proofs.lemmas.Bool.Decides.{nat_tests}
use Rattle.sp_partition.specs.Held.{IsHeld}
use Rattle.sp_lr.specs.Strips.{last_rows, behind, AreHeld}

-- there is none where too much is left
pub last_rows-none : (most left : ℕ) → most < left → last_rows most left ≡ []
unfolding last_rows
last_rows-none most left h = ap (λ b. cond b (cond (nat_eq left 0) ([] ∷ []) ((left ∷ []) ∷ [])) []) (past left most h)
  where
    past : (left most : ℕ) → most < left → nat_le left most ≡ false
    past left most h = grind (arith, nat_tests)

-- nothing is one way to go on
pub last_rows-zero : (most left : ℕ) → left ≤ most → left ≡ 0 → last_rows most left ≡ [] ∷ []
unfolding last_rows
last_rows-zero most left h e =
    ap₂ (λ b d. cond b (cond d ([] ∷ []) ((left ∷ []) ∷ [])) []) (le-leb left most h) (eq-eqb left 0 e)

-- and so is one row
pub last_rows-one : (most left : ℕ) → left ≤ most → left ≢ 0 → last_rows most left ≡ (left ∷ []) ∷ []
unfolding last_rows
last_rows-one most left h e =
    ap₂ (λ b d. cond b (cond d ([] ∷ []) ((left ∷ []) ∷ [])) []) (le-leb left most h) (ne_eqb left 0 e)

-- the parts alone are held where nothing is left
pub held_zero : (front : List ℕ) (most left : ℕ) → left ≤ most → left ≡ 0 → AreHeld front (last_rows most left) →
    IsHeld front
held_zero front most left h e held =
    subst IsHeld (append-nil front) (subst (AreHeld front) (last_rows-zero most left h e) held).0

-- the parts with one more are held where something is left
pub held_one : (front : List ℕ) (most left : ℕ) → left ≤ most → left ≢ 0 → AreHeld front (last_rows most left) →
    IsHeld (front ++ left ∷ [])
held_one front most left h e held = (subst (AreHeld front) (last_rows-one most left h e) held).0

-- the parts alone, behind a list
pub behind_zero : (list new : List (List ℕ)) (front : List ℕ) (most left : ℕ) → left ≤ most → left ≡ 0 →
    new ≡ list ++ front ∷ [] → new ≡ list ++ behind front (last_rows most left)
behind_zero list new front most left h e is =
    is ∙ ap (λ x. list ++ x ∷ []) (sym (append-nil front))
    ∙ ap (λ rows. list ++ behind front rows) (sym (last_rows-zero most left h e))

-- the parts with one more, behind a list
pub behind_one : (list new : List (List ℕ)) (front : List ℕ) (most left : ℕ) → left ≤ most → left ≢ 0 →
    new ≡ list ++ (front ++ left ∷ []) ∷ [] → new ≡ list ++ behind front (last_rows most left)
behind_one list new front most left h e is =
    is ∙ ap (λ rows. list ++ behind front rows) (sym (last_rows-one most left h e))

-- nothing, behind a list
pub behind_none : (list : List (List ℕ)) (front : List ℕ) (most left : ℕ) → most < left →
    list ≡ list ++ behind front (last_rows most left)
behind_none list front most left h =
    sym (append-nil list) ∙ ap (λ rows. list ++ behind front rows) (sym (last_rows-none most left h))
