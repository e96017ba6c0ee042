-- The reduced signature is where taking out pairs ends.
use Rattle.std.specs.Prelude.{◌≡◌, ◌≢◌, List, ◌∷◌, ◌++◌}
use Rattle.sp_defs.specs.Node.{Node}
use Rattle.sp_defs.specs.Signature.{Addable, Removable, Mark, TakesOut, reduced}

-- No A stands right before an R (this project's own).
abbrev pub NoPairLeft : List Mark → Type 0
NoPairLeft marks =
    (above below : List Mark) (x y : Node) → marks ≢ above ++ ((Addable, x) ∷ (Removable, y) ∷ below)

-- Taking out pairs leads to the reduced list (this project's own).
abbrev pub IsReached : Type 0
IsReached = (marks : List Mark) → TakesOut marks (reduced marks)

-- No pair is left there (this project's own).
abbrev pub IsFinal : Type 0
IsFinal = (marks : List Mark) → NoPairLeft (reduced marks)

-- Whatever pairs are taken out first, it ends there.
-- (Kleshchev, Branching rules for modular representations of symmetric groups II, 1995; Mathas, ch. 6)
abbrev pub IsOnlyEnd : Type 0
IsOnlyEnd = (marks rest : List Mark) → TakesOut marks rest → NoPairLeft rest → rest ≡ reduced marks
