-- Taking out pairs, one after the other.
use Rattle.std.proofs.Common.{◌≡◌, List, [], ◌∷◌, ◌++◌, refl, sym, ◌∙◌, ap, subst}
use Rattle.sp_defs.specs.Node.{Node}
use Rattle.sp_defs.specs.Signature.{Addable, Removable, Mark, TakesOut, done, pair, joined, reduced, removables}
use Rattle.sp_good.specs.Reduction.{NoPairLeft, IsReached, IsFinal, IsOnlyEnd}
use Rattle.sp_good.proofs.Pairs.{Parted, reduced-parted}

-- ---- the reduced list is reached

takes-on : (first second third : List Mark) → TakesOut first second → TakesOut second third → TakesOut first third
takes-on first second third (done marks) more = more
takes-on first second third (pair above below rest x y h) more =
    pair above below third x y (takes-on (above ++ below) second third h more)

takes-below : (m : Mark) (marks rest : List Mark) → TakesOut marks rest → TakesOut (m ∷ marks) (m ∷ rest)
takes-below m marks rest (done same) = done (m ∷ same)
takes-below m marks rest (pair above below last x y h) =
    pair (m ∷ above) below (m ∷ last) x y (takes-below m (above ++ below) last h)

takes-joined : (m : Mark) (marks : List Mark) → TakesOut (m ∷ marks) (joined m marks)
takes-joined (Removable, x) marks = done ((Removable, x) ∷ marks)
takes-joined (Addable, x) [] = done ((Addable, x) ∷ [])
takes-joined (Addable, x) ((Removable, y) ∷ marks) = pair [] marks marks x y (done marks)
takes-joined (Addable, x) ((Addable, y) ∷ marks) = done ((Addable, x) ∷ (Addable, y) ∷ marks)

-- The reduced marks are reached by taking out pairs.
pub reached : IsReached
unfolding reduced
reached [] = done []
reached (m ∷ marks) = takes-on (m ∷ marks) (m ∷ reduced marks) (joined m (reduced marks))
    (takes-below m marks (reduced marks) (reached marks)) (takes-joined m (reduced marks))

-- ---- no pair is left

parted-below : (above below : List Mark) → Parted (above ++ below) → Parted below
parted-below [] below h = h
parted-below ((Removable, x) ∷ above) below h = parted-below above below h
parted-below ((Addable, x) ∷ above) below h = parted-below above below h.1

no_pair : (below : List Mark) (x y : Node) → Parted ((Addable, x) ∷ (Removable, y) ∷ below) → ⊥
unfolding removables
no_pair below x y h = let no : y ∷ removables below ≡ [] = h.0 in cc

-- They have no pair left.
pub final : IsFinal
final marks above below x y is =
    no_pair below x y (parted-below above ((Addable, x) ∷ (Removable, y) ∷ below)
    (subst Parted is (reduced-parted marks)))

-- ---- and it is the only end

same_without : (above below : List Mark) (x y : Node) →
    reduced (above ++ ((Addable, x) ∷ (Removable, y) ∷ below)) ≡ reduced (above ++ below)
unfolding reduced
same_without [] below x y = refl
same_without (m ∷ above) below x y = ap (joined m) (same_without above below x y)

same_reduced : (marks rest : List Mark) → TakesOut marks rest → reduced marks ≡ reduced rest
same_reduced marks rest (done same) = refl
same_reduced marks rest (pair above below last x y h) =
    same_without above below x y ∙ same_reduced (above ++ below) last h

stays : (marks : List Mark) → NoPairLeft marks → reduced marks ≡ marks
unfolding reduced
stays [] h = refl
stays (m ∷ marks) h =
    ap (joined m) (stays marks (λ above below x y is. h (m ∷ above) below x y (ap (λ ms. m ∷ ms) is))) ∙ alone m marks h
  where
    alone : (m : Mark) (marks : List Mark) → NoPairLeft (m ∷ marks) → joined m marks ≡ m ∷ marks
    alone (Removable, x) marks h = refl
    alone (Addable, x) [] h = refl
    alone (Addable, x) ((Removable, y) ∷ marks) h = absurd (h [] marks x y refl)
    alone (Addable, x) ((Addable, y) ∷ marks) h = refl

-- No other list without a pair is reached.
pub only : IsOnlyEnd
only marks rest h left = sym (stays rest left) ∙ sym (same_reduced marks rest h)
