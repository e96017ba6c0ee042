-- Where an answer is no image there is none.
use Rattle.std.proofs.Common.{◌≡◌, List, ℕ, ◌↔◌, refl}
use Rattle.std.specs.Prelude.{Option, Some, None, Result, Ok, Err}

-- there is no image where the answer is a fault
pub refused : {E : Type 0} (r : Result (List ℕ) E) (fault : E) (image : Option (List ℕ)) → r ≡ Err fault →
    ((p : List ℕ) → (r ≡ Ok p) ↔ (image ≡ Some p)) → image ≡ None
refused r fault None is images = refl
refused r fault (Some p) is images = let no : r ≡ Ok p = (images p).1 refl in cc
