-- What pages show, in the labels of a convention. This project's own.
use Rattle.std.specs.Prelude.{ℕ, ◌≤◌, Result, Ok, Err}
use Rattle.sp_fock_law.specs.Grid.{GridValue}
use Rattle.sp_lang.specs.Convention.{label_in}
use Rattle.sp_lang.specs.Given.{IsE}
use Rattle.sp_lang.specs.declared.convention.Convention.{Convention}
use Rattle.sp_partition.specs.declared.TheConstants.{DEGREE_LIMIT}
use Rattle.sp_replies.specs.Labels.{grid_in, refusal_in}
use Rattle.sp_replies.specs.declared.refusals.Refusal.{Refusal}
use Rattle.sp_session.specs.Inverses.{cartan_table, inverse_table}
use Rattle.sp_session.specs.Tables.{block_table, crystal_table, decomposition_table}
use Rattle.sp_session.specs.declared.subjects.Subject.{Subject}
use Rattle.sp_session.specs.declared.subjects.Subject.TheVariants.{Crystal, Decomposition, Block, Inverse, Cartan}

-- The grid, or why there is none, with the labels of a convention.
abbrev pub table_in : Convention → Result GridValue Refusal → Result GridValue Refusal
table_in convention (Ok grid) = Ok (grid_in convention grid)
table_in convention (Err why) = Err (refusal_in convention why)

-- Inverses and Cartan matrices have e-regular labels in each convention.
abbrev pub table_of : ℕ → Convention → Subject → Result GridValue Refusal
table_of limit convention (Crystal e n) = table_in convention (crystal_table limit e n)
table_of limit convention (Decomposition e n) = table_in convention (decomposition_table limit e n)
table_of limit convention (Block e kappa w) = table_in convention (block_table limit e (label_in convention kappa) w)
table_of limit convention (Inverse e n) = inverse_table limit e n
table_of limit convention (Cartan e n) = cartan_table limit e n

-- e and the degree are allowed ones.
abbrev pub IsSubject : Subject → Type 0
IsSubject (Crystal e n) = IsE e × (n ≤ DEGREE_LIMIT)
IsSubject (Decomposition e n) = IsE e × (n ≤ DEGREE_LIMIT)
IsSubject (Block e kappa w) = IsE e
IsSubject (Inverse e n) = IsE e × (n ≤ DEGREE_LIMIT)
IsSubject (Cartan e n) = IsE e × (n ≤ DEGREE_LIMIT)
