-- Lists of terms, cut into polynomials.
use Rattle.std.specs.Prelude.{◌≡◌, ℕ, zero, suc, ◌-◌, ◌≤◌, List, [], ◌∷◌, take, drop, length, get_or}
use Rattle.std.specs.List.{AllByRecursion}
use Rattle.sp_defs.specs.Laurent.{Laurent, Term}
use Rattle.sp_laurent.specs.Held.{IsHeld}

-- The pieces that end at these places, where the terms before a place have been cut off.
unfoldable pub pieces : ℕ → List ℕ → List Term → List Laurent
pieces start [] terms = []
pieces start (end ∷ ends) terms = take (end - start) terms ∷ pieces end ends (drop (end - start) terms)

-- Where the piece of a place begins.
abbrev pub begin_of : ℕ → List ℕ → ℕ → ℕ
begin_of start ends zero = start
begin_of start ends (suc k) = get_or ends k 0

-- The places ascend, up to the end of the terms.
abbrev pub AreEnds : ℕ → List ℕ → ℕ → Type 0
AreEnds start [] last = start ≡ last
AreEnds start (end ∷ ends) last = (start ≤ end) × AreEnds end ends last

pub record ArePieces (ends : List ℕ) (terms : List Term) : Type 0 where
  pub ascending : AreEnds 0 ends (length terms)
  pub held : AllByRecursion IsHeld (pieces 0 ends terms)
