-- Places and faults that are read by another name.
use Rattle.std.proofs.Common.{◌≡◌, ℕ, ◌<◌, List, length, ap, subst, Err}
use Rattle.std.specs.Result.{IsErrOf}

-- A place within a list is within an equal one.
pub place_in : (xs ys : List (List ℕ)) (k : ℕ) → xs ≡ ys → k < length xs → k < length ys
place_in xs ys k same lt = subst (λ (zs : List (List ℕ)). k < length zs) same lt

-- A fault is the same one where it is handed on.
pub same_fault : {T U E : Type 0} (f e : E) → IsErrOf {T = T} (Err f) e → IsErrOf {T = U} (Err f) e
same_fault f e is = let same : f ≡ e = cc in ap Err same
