-- What holds of the fields of a command that was read. This project's own.
use Rattle.std.specs.Prelude.{◌≡◌, ℕ, ◌+◌, ◌^◌, ◌<◌, ◌≤◌, true, List, All, Result, Ok}
use Rattle.sp_defs.specs.Partition.{degree, is_regular, IsPartition}
use Rattle.sp_partition.specs.declared.TheConstants.{DEGREE_LIMIT}
use Rattle.sp_lang.specs.Convention.{label_in}
use Rattle.sp_lang.specs.declared.convention.Convention.{Convention}
use Rattle.sp_lang.specs.declared.command.Command.{Command}
use Rattle.sp_lang.specs.declared.fault.LineFault.{LineFault}
use Rattle.sp_lang.specs.declared.command.Command.TheVariants.{Nothing, Partitions, Regular, Conjugate, Dominates}
use Rattle.sp_lang.specs.declared.command.Command.TheVariants.{Diagram, Hooks, Content, Core, Combine, Abacus, Good}
use Rattle.sp_lang.specs.declared.command.Command.TheVariants.{Path, Mullineux, Induce, Ladders, Ladder, Row, Crystal}
use Rattle.sp_lang.specs.declared.command.Command.TheVariants.{Decomposition, Block, Painter, Jantzen, Schaper}
use Rattle.sp_lang.specs.declared.command.Command.TheVariants.{Dim, Dims, Certificate, Check, Restrict, Commutator}
use Rattle.sp_lang.specs.declared.command.Command.TheVariants.{Branch, Product, Fillings, Blocks, Inverse, Simple}
use Rattle.sp_lang.specs.declared.command.Command.TheVariants.{Cartan}
use Rattle.sp_lang.specs.declared.command.Command.TheVariants as command

pub record IsE (e : ℕ) : Type 0 where
  pub low : 2 ≤ e
  pub high : e ≤ 64

-- A partition that the commands take.
pub record IsGiven (p : List ℕ) : Type 0 where
  pub partition : IsPartition p
  pub small : degree p ≤ DEGREE_LIMIT

-- An e-regular one, with its e.
pub record IsGivenLabel (e : ℕ) (mu : List ℕ) : Type 0 where
  pub e_range : IsE e
  pub given : IsGiven mu
  pub regular : is_regular e mu ≡ true

-- A partition that stands for an e-regular one, with its e.
abbrev pub IsHeading : Convention → ℕ → List ℕ → Type 0
IsHeading convention e mu = IsGivenLabel e (label_in convention mu) × IsGiven mu

abbrev pub IsWithE : ℕ → List ℕ → Type 0
IsWithE e p = IsE e × IsGiven p

-- As many nodes can be added to the partition as the number says.
pub record IsInduction (e i m : ℕ) (p : List ℕ) : Type 0 where
  pub e_range : IsE e
  pub residue : i < e
  pub partition : IsPartition p
  pub room : degree p + m ≤ DEGREE_LIMIT

abbrev pub IsCommand : Convention → Command → Type 0
IsCommand convention Nothing = Unit {0}
IsCommand convention (Partitions n) = n ≤ DEGREE_LIMIT
IsCommand convention (Regular e n) = IsE e × (n ≤ DEGREE_LIMIT)
IsCommand convention (Conjugate p) = IsGiven p
IsCommand convention (Dominates p q) = IsGiven p × IsGiven q × (degree p ≡ degree q)
IsCommand convention (Diagram e p) = IsWithE e p
IsCommand convention (Hooks p) = IsGiven p
IsCommand convention (Content e p) = IsWithE e p
IsCommand convention (Core e p) = IsWithE e p
IsCommand convention (Combine e p quotient) = IsE e × IsGiven p × All IsGiven quotient
IsCommand convention (Abacus e p) = IsWithE e p
IsCommand convention (Good e p) = IsWithE e p
IsCommand convention (Path e mu) = IsGivenLabel e mu
IsCommand convention (Mullineux e mu) = IsGivenLabel e mu
IsCommand convention (Induce e i m p) = IsInduction e i m p
IsCommand convention (Ladders e mu) = IsGivenLabel e mu
IsCommand convention (Ladder e mu) = IsHeading convention e mu
IsCommand convention (Row e mu) = IsHeading convention e mu
IsCommand convention (Crystal e n) = IsE e × (n ≤ DEGREE_LIMIT)
IsCommand convention (Decomposition e n) = IsE e × (n ≤ DEGREE_LIMIT)
IsCommand convention (Block e core w) = IsE e × IsGiven core × (w < 2 ^ 64)
IsCommand convention (Painter name) = Unit {0}
IsCommand convention (Jantzen e p) = IsWithE e p
IsCommand convention (Schaper e n) = IsE e × (n ≤ DEGREE_LIMIT)
IsCommand convention (Dim p) = IsGiven p
IsCommand convention (Dims e n) = IsE e × (n ≤ DEGREE_LIMIT)
IsCommand convention (Certificate e n) = IsE e × (n ≤ DEGREE_LIMIT)
IsCommand convention Check = Unit {0}
IsCommand convention (command.Convention chosen) = Unit {0}
IsCommand convention (Restrict e i p) = IsE e × (i < e) × IsGiven p
IsCommand convention (Commutator e i j p) = IsE e × (i < e) × (j < e) × IsGiven p
IsCommand convention (Branch e i mu) = (i < e) × IsGivenLabel e mu
IsCommand convention (Product p q) = IsGiven p × IsGiven q × (degree p + degree q ≤ DEGREE_LIMIT)
IsCommand convention (Fillings p q r) = IsGiven p × IsGiven q × (degree p + degree q ≤ DEGREE_LIMIT) × IsGiven r
IsCommand convention (Blocks e n) = IsE e × (n ≤ DEGREE_LIMIT)
IsCommand convention (Inverse e n) = IsE e × (n ≤ DEGREE_LIMIT)
IsCommand convention (Simple e mu) = IsGivenLabel e mu
IsCommand convention (Cartan e n) = IsE e × (n ≤ DEGREE_LIMIT)

-- Only a quotient takes memory.
abbrev pub WantsMemory : Result Command LineFault → Type 0
WantsMemory (Ok (Combine e p quotient)) = Unit {0}
WantsMemory other = ⊥
