-- The line that a program writes of the answers to lines that a number makes. This project's own.
use Rattle.std.specs.Prelude.{◌≡◌, ◌≤◌, ◌⊎◌, ◌++◌, ℕ, List, [], ◌∷◌, Option, Some, codes, decimal, length}
use Rattle.sp_base.specs.Causes.{Rose}
use Rattle.sp_stream.specs.declared.status.Status.{Status}
use Rattle.sp_stream.specs.declared.status.Status.TheVariants.{Done, Usage, ReadFault, WriteFault, OutOfMemory}
use Rattle.sp_stream.specs.declared.status.Status.TheVariants.{InputTooLong}
use Rattle.sp_stream.specs.declared.summary.Summary.{Summary}
use Rattle.sp_stream.specs.Faults.{FaultsHaveCause}
use Rattle.sp_stream.specs.Summary.{summary_of}
use Rattle.sp_stream.specs.Transcript.{Rules}
use Rattle.sp_words.specs.Generated.{generated_text}

-- The number, how many lines it made, and what the answers sum up to.
abbrev pub summary_text : ℕ → Summary → List ℕ
summary_text start summary =
    codes "generated " ++ (decimal start ++ (codes " lines 200 errors " ++ (decimal summary.errors
    ++ (codes " bytes " ++ (decimal summary.bytes ++ (codes " sum " ++ (decimal summary.sum ++ 10 ∷ [])))))))

-- The line for the answers to the lines that a number makes, by these rules from this state on.
abbrev pub summary_line : {State : Type 0} → Rules State → State → ℕ → List ℕ
summary_line rules state start = summary_text start (summary_of rules state (generated_text start))

-- A line that stands in place of all answers is written: whole, or as far as the sink took it, or not at all.
abbrev pub WritesLine : List ℕ → (before : List ℕ) → (now : Option (List ℕ)) → Status → Type 0
WritesLine line before now Done = now ≡ Some (before ++ line)
WritesLine line before now Usage = ⊥
WritesLine line before now ReadFault = ⊥
WritesLine line before now WriteFault =
    (part : List ℕ) × (rest : List ℕ) × (line ≡ part ++ rest) × (now ≡ Some (before ++ part))
WritesLine line before now OutOfMemory = now ≡ Some before
WritesLine line before now InputTooLong = ⊥

-- The sink is steady for a line.
abbrev pub IsSteadyForLine : (ℕ → Type 0) → List ℕ → Type 0
IsSteadyForLine steady line = (room : ℕ) × (length line ≤ room) × steady room

-- What a run did to a sink that answers by one line.
pub record IsOneReply {Sink : Type 0} (written : Sink → Option (List ℕ)) (steady : Sink → ℕ → Type 0)
    (faults : Sink → ℕ) (line : List ℕ) (old new : Sink) (status : Status) : Type 0 where
  pub ends : (status ≡ Done) ⊎ (status ≡ WriteFault) ⊎ (status ≡ OutOfMemory)
  pub told : (before : List ℕ) → written old ≡ Some before → WritesLine line before (written new) status
  pub write_faults : FaultsHaveCause WriteFault status (faults old) (faults new) (IsSteadyForLine (steady old) line)
  pub complete : ¬ Rose (faults old) (faults new) → (status ≡ Done) ⊎ (status ≡ OutOfMemory)
