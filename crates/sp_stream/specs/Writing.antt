-- What a run did to a sink, whose own members are `written`, `steady` and `faults`.
use Rattle.std.specs.Prelude.{ℕ, ◌≡◌, ◌≤◌, ◌+◌, List, ◌++◌, Option, Some, length}
use Rattle.std.specs.List.{concat}
use Rattle.sp_base.specs.Causes.{Rose}
use Rattle.sp_stream.specs.Lines.{begun_line, whole_lines}
use Rattle.sp_stream.specs.Transcript.{Rules, complete, state_after}
use Rattle.sp_stream.specs.declared.lines.Stop.{Stop}
use Rattle.sp_stream.specs.declared.lines.Stop.TheVariants.{Write, Memory}

-- the whole text was written
pub record Puts {Sink : Type 0} (written : Sink → Option (List ℕ)) (steady : Sink → ℕ → Type 0) (faults : Sink → ℕ)
    (old new : Sink) (text : List ℕ) : Type 0 where
  pub told : (before : List ℕ) → written old ≡ Some before → written new ≡ Some (before ++ text)
  pub calm : (room : ℕ) → steady old (length text + room) → steady new room × (faults new ≡ faults old)
  pub later : faults old ≤ faults new

-- a write failed: some first bytes of the text were written
pub record Breaks {Sink : Type 0} (written : Sink → Option (List ℕ)) (steady : Sink → ℕ → Type 0) (faults : Sink → ℕ)
    (old new : Sink) (text : List ℕ) : Type 0 where
  pub told : (before : List ℕ) → written old ≡ Some before →
      (part : List ℕ) × (rest : List ℕ) × (text ≡ part ++ rest) × (written new ≡ Some (before ++ part))
  pub not_calm : (room : ℕ) → steady old (length text + room) → ⊥
  pub later : faults old ≤ faults new
  pub rose : Rose (faults old) (faults new)

-- memory ran out: some first ones of the texts were written, each as a whole
pub record RunsOut {Sink : Type 0} (written : Sink → Option (List ℕ)) (steady : Sink → ℕ → Type 0) (faults : Sink → ℕ)
    (old new : Sink) (texts : List (List ℕ)) : Type 0 where
  pub told : (before : List ℕ) → written old ≡ Some before → (some : List (List ℕ)) × (others : List (List ℕ))
      × (texts ≡ some ++ others) × (written new ≡ Some (before ++ concat some))
  pub calm : (room : ℕ) → steady old (length (concat texts) + room) → faults new ≡ faults old
  pub later : faults old ≤ faults new

-- what was written of these texts when the run stopped
abbrev pub Stops : {Sink : Type 0} → (Sink → Option (List ℕ)) → (Sink → ℕ → Type 0) → (Sink → ℕ) → Sink → Sink →
    List (List ℕ) → Stop → Type 0
Stops written steady faults old new texts Write = Breaks written steady faults old new (concat texts)
Stops written steady faults old new texts Memory = RunsOut written steady faults old new texts

-- these bytes were answered as far as their lines are whole, and the line that they begin is kept
pub record Feeds {State Sink : Type 0} (written : Sink → Option (List ℕ)) (steady : Sink → ℕ → Type 0)
    (faults : Sink → ℕ) (old new : Sink) (rules : Rules State) (first now : State) (pending bytes : List ℕ) :
    Type 0 where
  pub begun : pending ≡ begun_line bytes
  pub state : now ≡ state_after rules first (whole_lines bytes)
  pub puts : Puts written steady faults old new (complete rules first bytes)
