-- What restriction does to degrees and contents: it takes away one node of residue i.
use Rattle.std.specs.Prelude.{◌≡◌, ◌≢◌, ℕ, ◌+◌, cond, nat_eq, List, []}
use Rattle.sp_defs.specs.Partition.{degree, IsPartition}
use Rattle.sp_defs.specs.Node.{content}
use Rattle.sp_defs.specs.Power.{Vector}
use Rattle.sp_sl2_law.specs.Restriction.{restriction}

-- `larger` is of one degree more, and has one node of residue i more and as many of each other residue.
-- (James and Kerber, The Representation Theory of the Symmetric Group, ch. 2)
pub record HasNodeMore (e i : ℕ) (smaller larger : List ℕ) : Type 0 where
  pub degree_is : degree larger ≡ degree smaller + 1
  pub content_is : (j : ℕ) → content e larger j ≡ content e smaller j + cond (nat_eq i j) 1 0

-- Where the restriction of a vector isn't 0, the vector isn't 0 at a partition with one node of residue i more.
-- (Lascoux, Leclerc and Thibon, Comm. Math. Phys. 181, 1996, section 4)
abbrev pub RestrictedContentLaw : Type 0
RestrictedContentLaw =
    (e i : ℕ) (w : Vector) (smaller : List ℕ) → IsPartition smaller → restriction e i w smaller ≢ [] →
    (larger : List ℕ) × IsPartition larger × (w larger ≢ []) × HasNodeMore e i smaller larger
