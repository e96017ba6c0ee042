-- Blocks of partitions of one degree, and the law that their contents tell them apart.
use Rattle.std.specs.Prelude.{◌≡◌, ◌≢◌, ℕ, ◌≤◌, ◌↔◌, List, [], get_or, Some}
use Rattle.std.specs.List.{AllByRecursion}
use Rattle.sp_defs.specs.Partition.{degree, IsPartition, regulars}
use Rattle.sp_defs.specs.Abacus.{core}
use Rattle.sp_defs.specs.Row.{regular_row, shares, IsNeeded}
use Rattle.sp_defs.specs.Statements.{IsLabel, SameContent}
use Rattle.sp_outcome_law.specs.Asking.{asked}

-- Two partitions of one degree are in one block where their cores are equal.
-- (Nakayama 1940; James and Kerber, The Representation Theory of the Symmetric Group, 6.1.21)
pub record InOneBlock (e : ℕ) (lambda mu : List ℕ) : Type 0 where
  pub one_degree : degree lambda ≡ degree mu
  pub one_core : core e lambda ≡ core e mu

-- Two partitions of one degree are in one block exactly where they have as many nodes of each residue.
-- (James and Kerber, The Representation Theory of the Symmetric Group, 2.7.41)
abbrev pub BlockLaw : Type 0
BlockLaw =
    (e : ℕ) (lambda mu : List ℕ) → 2 ≤ e → IsPartition lambda → IsPartition mu → degree lambda ≡ degree mu →
    InOneBlock e lambda mu ↔ SameContent e lambda mu

-- Each partition in the regular row of mu is in mu's block. So are the partitions of its shares, those whose rows are
-- asked for on the way to it, however far it has been reached under any limit, and all that it needs.
-- (after Lascoux, Leclerc and Thibon, Comm. Math. Phys. 181, 1996, section 6)
pub record RowBlock (e : ℕ) (mu : List ℕ) : Type 0 where
  pub row : (lambda : List ℕ) → IsPartition lambda → regular_row e mu lambda ≢ [] → InOneBlock e mu lambda
  pub shares_at : AllByRecursion (λ a. a.1 ≢ [] → InOneBlock e mu a.0) (shares e mu)
  pub asks : (limit t j : ℕ) → asked e limit mu t ≡ Some j → InOneBlock e mu (get_or (regulars e (degree mu)) j [])
  pub needed : (kappa : List ℕ) → IsNeeded e kappa mu → InOneBlock e mu kappa

-- RowBlock for each e and mu.
abbrev pub RowBlockLaw : Type 0
RowBlockLaw = (e : ℕ) (mu : List ℕ) → IsLabel e mu → RowBlock e mu
