-- What a search through a vector finds.
use Rattle.std.specs.Prelude.{◌≡◌, ◌≢◌, ℕ, ◌<◌, ◌≤◌, ◌+◌, Bool, ◌&&◌, not, List, [], get_or}
use Rattle.std.specs.Ordering.{is_eq}
use Rattle.sp_defs.specs.Partition.{compare}
use Rattle.sp_defs.specs.Laurent.{Laurent, lift, size}
use Rattle.sp_defs.specs.Power.{Vector}
use Rattle.sp_defs.specs.Row.{is_positive}
use Rattle.sp_llt.specs.declared.share.Share.{Share}

-- The lift of the coefficient at an element of a list.
abbrev pub lift_at : Vector → List (List ℕ) → ℕ → Laurent
lift_at w rs j = lift (w (get_or rs j []))

-- The lift at an element isn't 0, and is within the limit.
pub record IsLift (w : Vector) (rs : List (List ℕ)) (j limit : ℕ) (alpha : Laurent) : Type 0 where
  pub value : alpha ≡ lift_at w rs j
  pub nonzero : alpha ≢ []
  pub fits : size alpha ≤ limit

-- These elements have coefficients whose lift is 0.
abbrev pub NoLift : Vector → List (List ℕ) → ℕ → ℕ → Type 0
NoLift w rs from end = (i : ℕ) → from ≤ i → i < end → lift_at w rs i ≡ []

-- The last of the first `end` elements whose lift isn't 0, with its lift, which is within the limit.
pub record IsLastLift (w : Vector) (rs : List (List ℕ)) (end limit : ℕ) (s : Share) : Type 0 where
  pub below : s.rank < end
  pub alpha : s.alpha ≡ lift_at w rs s.rank
  pub nonzero : s.alpha ≢ []
  pub fits : size s.alpha ≤ limit
  pub others : NoLift w rs (s.rank + 1) end

-- The last of these lifts is past the limit.
pub record IsLargeLift (w : Vector) (rs : List (List ℕ)) (end limit j : ℕ) : Type 0 where
  pub below : j < end
  pub large : limit < size (lift_at w rs j)
  pub others : NoLift w rs (j + 1) end

-- An entry of a vector, other than that at mu, whose polynomial isn't in vZ[v].
abbrev pub is_stray_entry : List ℕ → List ℕ × Laurent → Bool
is_stray_entry mu t = not (is_eq (compare t.0 mu)) && not (is_positive t.1)
