-- How far a reader has come, and what comes of a line.
use Rattle.std.specs.Prelude.{ℕ, ◌≤◌}
use Rattle.sp_cert.specs.declared.stages.Stage.{Stage}
use Rattle.sp_cert.specs.declared.stages.Stage.TheVariants as stage
use Rattle.sp_cert.specs.declared.stages.Step.{Step}
use Rattle.sp_cert.specs.declared.stages.Step.TheVariants as step
use Rattle.sp_cert.specs.Grammar.{Before, Nothing, Version, Base, Columns, Answer, Allowed, Ends, NotAllowed}
use Rattle.sp_cert.specs.Drafts.{IsDraft, body_of}

-- ---- what came before

abbrev pub before_of : Stage → Before
before_of stage.Nothing = Nothing
before_of (stage.Version version) = Version version
before_of (stage.Base version e) = Base version e
before_of (stage.Columns d) = Columns (body_of d)

abbrev pub IsVersion : ℕ → Type 0
IsVersion version = (1 ≤ version) × (version ≤ 2)

-- The version and e are those of a certificate.
pub record IsBase (version e : ℕ) : Type 0 where
  pub known : IsVersion version
  pub e_least : 2 ≤ e
  pub e_most : e ≤ 64

abbrev pub IsStage : Stage → Type 0
IsStage stage.Nothing = Unit {0}
IsStage (stage.Version version) = IsVersion version
IsStage (stage.Base version e) = IsBase version e
IsStage (stage.Columns d) = IsDraft d

-- ---- what a line is

abbrev pub step_answer : Step → Answer
step_answer (step.More s) = Allowed (before_of s)
step_answer (step.Whole c) = Ends c
step_answer step.NotAllowed = NotAllowed

abbrev pub IsStep : Step → Type 0
IsStep (step.More s) = IsStage s
IsStep (step.Whole c) = Unit {0}
IsStep step.NotAllowed = Unit {0}
