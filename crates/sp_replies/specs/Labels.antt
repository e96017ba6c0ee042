-- What is told in the labels of a convention: by e-regular partitions, or by their conjugates.
-- Dipper and James, 1986: Representations of Hecke algebras of general linear groups; Mathas, 1999: Iwahori-Hecke
-- Algebras and Schur Algebras of the Symmetric Group.
use Rattle.std.specs.Prelude.{ℕ, List}
use Rattle.sp_defs.specs.Power.{Vector, FockVector, entries}
use Rattle.sp_defs.specs.Text.{vector_text}
use Rattle.sp_fock_law.specs.Grid.{GridValue}
use Rattle.sp_lang.specs.Convention.{label_in}
use Rattle.sp_lang.specs.declared.convention.Convention.{Convention}
use Rattle.sp_lang.specs.declared.convention.Convention.TheVariants.{Regular, Restricted}
use Rattle.sp_matrix.specs.Conjugates.{conjugate_fock_vector, conjugate_grid, conjugate_vector}
use Rattle.sp_replies.specs.Words.{line_of}
use Rattle.sp_replies.specs.declared.refusals.Refusal.{Refusal}
use Rattle.sp_replies.specs.declared.refusals.Refusal.TheVariants.{LargeColumn, Stray, StrayColumn}

-- The vector as a convention tells it (this project's own).
abbrev pub vector_in : Convention → Vector → Vector
vector_in Regular w = w
vector_in Restricted w = conjugate_vector w

-- The same of a finite map with its degree (this project's own).
abbrev pub fock_vector_in : Convention → FockVector → FockVector
fock_vector_in Regular v = v
fock_vector_in Restricted v = conjugate_fock_vector v

-- The grid as a convention tells it (this project's own).
abbrev pub grid_in : Convention → GridValue → GridValue
grid_in Regular g = g
grid_in Restricted g = conjugate_grid g

-- The refusal with the partitions that it names as a convention tells them (this project's own).
abbrev pub refusal_in : Convention → Refusal → Refusal
refusal_in convention (LargeColumn column) = LargeColumn (label_in convention column)
refusal_in convention (Stray at) = Stray (label_in convention at)
refusal_in convention (StrayColumn column at) = StrayColumn (label_in convention column) (label_in convention at)
refusal_in convention why = why

-- A vector of degree n as a line, as a convention tells it (this project's own).
abbrev pub vector_line : Convention → ℕ → Vector → List ℕ
vector_line convention n w = line_of (vector_text (entries n (vector_in convention w)))
