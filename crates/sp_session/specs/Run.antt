-- What a run of a program is: how it ends, what it takes, and what it writes. This project's own.
use Rattle.std.specs.Prelude.{◌≡◌, ◌≤◌, ◌⊎◌, ℕ, Bool, List, Option, Some, None, length}
use Rattle.sp_base.specs.Causes.{Rose}
use Rattle.sp_paint.specs.State.{PainterState}
use Rattle.sp_session.specs.Reply.{session_rules}
use Rattle.sp_session.specs.State.{opening}
use Rattle.sp_session.specs.Summary.{IsOneReply, summary_line}
use Rattle.sp_stream.specs.declared.reading.TheConstants.{INPUT_LIMIT}
use Rattle.sp_stream.specs.declared.status.Status.{Status}
use Rattle.sp_stream.specs.declared.status.Status.TheVariants.{Done, Usage, ReadFault, WriteFault, OutOfMemory}
use Rattle.sp_stream.specs.Faults.{FaultsHaveCause, IsSteadyForAll}
use Rattle.sp_stream.specs.Served.{Answered, Takes}
use Rattle.sp_stream.specs.Transcript.{transcript}
use Rattle.sp_words.specs.declared.words.Words.{Words}
use Rattle.sp_words.specs.Words.{Says}

-- The lines that a source has left are answered under a limit: so many bytes are taken, and this is written behind what
-- was there, by the status, as far as the source and the sink tell their bytes.
abbrev pub AnswersLines : ℕ → List PainterState → (left now_left written now_written : Option (List ℕ)) → Status →
    Type 0
AnswersLines limit painters left now_left written now_written status =
    (input : List ℕ) → left ≡ Some input → (taken : ℕ)
    × Takes input now_left status taken
    × ((before : List ℕ) → written ≡ Some before →
    Answered (session_rules limit) (opening painters) input taken before now_written status)

-- An input within the limit on inputs is answered, unless memory was wanting.
abbrev pub AnswersAll : (left : Option (List ℕ)) → Status → Type 0
AnswersAll left status =
    (input : List ℕ) → left ≡ Some input → length input ≤ INPUT_LIMIT → (status ≡ Done) ⊎ (status ≡ OutOfMemory)

-- A run over a source and a sink, which are known by their members.
module _ {Source Sink : Type 0}
    (left : Source → Option (List ℕ)) (source_faults : Source → ℕ) (source_steady : Source → Type 0)
    (written : Sink → Option (List ℕ)) (sink_faults : Sink → ℕ) (sink_steady : Sink → ℕ → Type 0) where
  -- It answers the lines of the source.
  pub record ReadsLines (limit : ℕ) (painters : List PainterState)
      (source now_source : Source) (sink now_sink : Sink) (status : Status) : Type 0 where
    -- What is taken and written, by the status.
    pub told : AnswersLines limit painters (left source) (left now_source) (written sink) (written now_sink) status
    -- A fault has its cause.
    pub read_faults : FaultsHaveCause ReadFault status (source_faults source) (source_faults now_source)
        (source_steady source)
    pub write_faults : FaultsHaveCause WriteFault status (sink_faults sink) (sink_faults now_sink)
        (IsSteadyForAll (sink_steady sink) (transcript (session_rules limit) (opening painters)) (left source))
    -- Where no count of faults rose, the whole input is answered.
    pub complete : ¬ Rose (source_faults source) (source_faults now_source) →
        ¬ Rose (sink_faults sink) (sink_faults now_sink) → AnswersAll (left source) status

  -- It answers lines that a number makes, by one line in place of the transcript. The source is not read.
  pub record MakesLines (limit : ℕ) (painters : List PainterState) (start : ℕ)
      (source now_source : Source) (sink now_sink : Sink) (status : Status) : Type 0 where
    pub unread : now_source ≡ source
    pub reply : IsOneReply written sink_steady sink_faults
        (summary_line (session_rules limit) (opening painters) start) sink now_sink status

  -- It does what its words say.
  abbrev pub Obeys : ℕ → List PainterState → Option ℕ → Source → Source → Sink → Sink → Status → Type 0
  Obeys limit painters None source now_source sink now_sink status =
      ReadsLines limit painters source now_source sink now_sink status
  Obeys limit painters (Some start) source now_source sink now_sink status =
      MakesLines limit painters start source now_source sink now_sink status

  -- It has these words and painters. The program has many workers, or works on one thread.
  pub record IsRun (many : Bool) (words : List (List ℕ)) (painters : List PainterState)
      (source now_source : Source) (sink now_sink : Sink) (status : Status) : Type 0 where
    -- Usage comes only where the words are not allowed. Where they are not allowed nothing else comes but want of
    -- memory, and nothing is read or written.
    pub usage : status ≡ Usage → (said : Words) → ¬ Says many words said
    pub untouched : status ≡ Usage → (now_source ≡ source) × (now_sink ≡ sink)
    pub refused : ((said : Words) → ¬ Says many words said) →
        ((status ≡ Usage) ⊎ (status ≡ OutOfMemory)) × (now_source ≡ source) × (now_sink ≡ sink)
    -- What the words say is done.
    pub obeys : (said : Words) → Says many words said →
        Obeys said.limit painters said.generate source now_source sink now_sink status
