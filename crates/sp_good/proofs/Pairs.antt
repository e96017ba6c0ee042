-- What is left of a signature: no A stands before an R.
use Rattle.std.proofs.Common.{◌≡◌, ◌<◌, List, [], ◌∷◌, drop, length, refl, sym, ◌∙◌, ap, arith}
use Rattle.sp_defs.specs.Node.{Node}
use Rattle.sp_defs.specs.Signature.{Addable, Removable, Mark, joined, reduced, removables, addables}

-- Behind an A there is no R.
abbrev pub Parted : List Mark → Type 0
Parted [] = Unit {0}
Parted ((Removable, x) ∷ marks) = Parted marks
Parted ((Addable, x) ∷ marks) = (removables marks ≡ []) × Parted marks

joined-parted : (m : Mark) (marks : List Mark) → Parted marks → Parted (joined m marks)
unfolding removables
joined-parted (Removable, x) marks h = h
joined-parted (Addable, x) [] h = (refl, tt)
joined-parted (Addable, x) ((Removable, y) ∷ marks) h = h
joined-parted (Addable, x) ((Addable, y) ∷ marks) h = (h.0, h)

-- In the reduced list the removable nodes stand before the addable ones.
pub reduced-parted : (marks : List Mark) → Parted (reduced marks)
unfolding reduced
reduced-parted [] = tt
reduced-parted (m ∷ marks) = joined-parted m (reduced marks) (reduced-parted marks)

-- ---- one mark more above

-- A removable node in front is left.
pub removable-removables : (x : Node) (marks : List Mark) →
    removables (reduced ((Removable, x) ∷ marks)) ≡ x ∷ removables (reduced marks)
unfolding reduced removables
removable-removables x marks = refl

-- It leaves the addable nodes as they are.
pub removable-addables : (x : Node) (marks : List Mark) →
    addables (reduced ((Removable, x) ∷ marks)) ≡ addables (reduced marks)
unfolding reduced addables
removable-addables x marks = refl

-- an A takes the first R with it
pub addable-removables : (x : Node) (marks : List Mark) →
    removables (reduced ((Addable, x) ∷ marks)) ≡ drop 1 (removables (reduced marks))
unfolding reduced removables
addable-removables x marks = of_joined (reduced marks) (reduced-parted marks)
  where
    of_joined : (left : List Mark) → Parted left → removables (joined (Addable, x) left) ≡ drop 1 (removables left)
    of_joined [] h = refl
    of_joined ((Removable, y) ∷ left) h = refl
    of_joined ((Addable, y) ∷ left) h = h.0 ∙ sym (ap (drop 1) h.0)

-- and stays out of the A left where there was an R
pub addable-paired : (x : Node) (marks : List Mark) → 0 < length (removables (reduced marks)) →
    addables (reduced ((Addable, x) ∷ marks)) ≡ addables (reduced marks)
unfolding reduced removables addables
addable-paired x marks = of_joined (reduced marks) (reduced-parted marks)
  where
    of_joined : (left : List Mark) → Parted left → 0 < length (removables left) →
        addables (joined (Addable, x) left) ≡ addables left
    of_joined [] h some = absurd (omega arith)
    of_joined ((Removable, y) ∷ left) h some = refl
    of_joined ((Addable, y) ∷ left) h some = absurd (omega (arith, ap length h.0))

-- An addable node in front is left where no removable one is.
pub addable-left : (x : Node) (marks : List Mark) → length (removables (reduced marks)) ≡ 0 →
    addables (reduced ((Addable, x) ∷ marks)) ≡ x ∷ addables (reduced marks)
unfolding reduced removables addables
addable-left x marks = of_joined (reduced marks)
  where
    of_joined : (left : List Mark) → length (removables left) ≡ 0 →
        addables (joined (Addable, x) left) ≡ x ∷ addables left
    of_joined [] none = refl
    of_joined ((Removable, y) ∷ left) none = absurd (omega arith)
    of_joined ((Addable, y) ∷ left) none = refl
