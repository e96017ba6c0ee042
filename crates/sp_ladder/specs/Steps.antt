-- The code's step for a ladder.
use Rattle.std.specs.Prelude.{ℕ, List}
use Rattle.sp_defs.specs.Ladder.{ladder_residue, on_ladder}
use Rattle.sp_ladder.specs.declared.step.Step.{Step}

-- The step of ladder l.
abbrev pub step_on : ℕ → List ℕ → ℕ → Step
step_on e mu l = record { ladder = l; residue = ladder_residue e l; count = on_ladder e mu l }
