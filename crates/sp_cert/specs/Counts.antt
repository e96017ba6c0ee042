-- The contents of the partitions of a list.
use Rattle.std.specs.Prelude.{◌≡◌, ℕ, List, map}
use Rattle.std.specs.List.{range_with_len}
use Rattle.arrayvec.specs.ArrayVec.{ArrayVec}
use Rattle.sp_defs.specs.Node.{content}

-- How many nodes of a partition have each residue from 0 to e - 1: its content.
-- (James and Kerber, The Representation Theory of the Symmetric Group, ch. 2)
abbrev pub counts : ℕ → List ℕ → List ℕ
counts e mu = map (content e mu) (range_with_len 0 e)

-- These are the contents of the partitions of a list, in its order.
pub record AreContents (e : ℕ) (list : List (List ℕ)) (contents : List (ArrayVec ℕ)) : Type 0 where
  pub counted : map (λ c. c.items) contents ≡ map (counts e) list
