-- Runs over sources and sinks whose calls do not fail. This project's own.
use Rattle.std.specs.Prelude.{◌≡◌, ◌≢◌, ◌≤◌, ◌+◌, ◌⊎◌, ◌++◌, ℕ, Bool, List, [], Option, Some, None, length}
use Rattle.sp_base.specs.Memory.{MemorySink, MemorySource}
use Rattle.sp_paint.specs.State.{PainterState}
use Rattle.sp_session.specs.Reply.{session_rules}
use Rattle.sp_session.specs.Run.{IsRun}
use Rattle.sp_session.specs.State.{opening}
use Rattle.sp_session.specs.Summary.{summary_line}
use Rattle.sp_stream.specs.declared.reading.TheConstants.{INPUT_LIMIT}
use Rattle.sp_stream.specs.declared.status.Status.{Status}
use Rattle.sp_stream.specs.declared.status.Status.TheVariants.{Done, ReadFault, OutOfMemory}
use Rattle.sp_stream.specs.Transcript.{transcript}
use Rattle.sp_words.specs.declared.words.Words.{Words}
use Rattle.sp_words.specs.Words.{Says}

-- What a run writes where nothing fails: the transcript of the input, or the line for the lines that a number makes.
abbrev pub output_of : ℕ → List PainterState → Option ℕ → List ℕ → List ℕ
output_of limit painters None input = transcript (session_rules limit) (opening painters) input
output_of limit painters (Some start) input = summary_line (session_rules limit) (opening painters) start

-- No call of the source is one of those that fail, and its bytes are within the limit on inputs. Where a number makes
-- the lines it isn't read, so it may be any source.
abbrev pub MayBeRead : Option ℕ → MemorySource → Type 0
MayBeRead None source = (source.fail ≡ []) × (length source.left ≤ INPUT_LIMIT)
MayBeRead (Some start) source = Unit {0}

-- No call of the sink is one of those that fail, and it has room for so many bytes more.
abbrev pub HasRoom : MemorySink → ℕ → Type 0
HasRoom sink more = (sink.fail ≡ []) × (length sink.written + more ≤ sink.room)

-- All of an output is behind what was there, or memory was wanting.
abbrev pub IsWhole : List ℕ → MemorySink → MemorySink → Status → Type 0
IsWhole output sink now_sink status =
    ((status ≡ Done) × (now_sink.written ≡ sink.written ++ output)) ⊎ (status ≡ OutOfMemory)

-- No run over a source and a sink that are known by these members ends by a fault of the source.
abbrev pub HasNoReadFault : {Source Sink : Type 0}
    (left : Source → Option (List ℕ)) (source_faults : Source → ℕ) (source_steady : Source → Type 0)
    (written : Sink → Option (List ℕ)) (sink_faults : Sink → ℕ) (sink_steady : Sink → ℕ → Type 0) → Type 0
HasNoReadFault {Source} {Sink} left source_faults source_steady written sink_faults sink_steady =
    (many : Bool) (words : List (List ℕ)) (painters : List PainterState)
    (source now_source : Source) (sink now_sink : Sink) (status : Status) →
    IsRun left source_faults source_steady written sink_faults sink_steady
    many words painters source now_source sink now_sink status → status ≢ ReadFault

-- A run over a source and a sink in memory, with words that are allowed, writes the whole output, where no call is one
-- of those that fail and there is room. The members are those of the source and of the sink.
abbrev pub AnswersWhole :
    (left : MemorySource → Option (List ℕ)) (source_faults : MemorySource → ℕ) (source_steady : MemorySource → Type 0)
    (written : MemorySink → Option (List ℕ)) (sink_faults : MemorySink → ℕ) (sink_steady : MemorySink → ℕ → Type 0) →
    Type 0
AnswersWhole left source_faults source_steady written sink_faults sink_steady =
    (many : Bool) (words : List (List ℕ)) (painters : List PainterState)
    (source now_source : MemorySource) (sink now_sink : MemorySink) (status : Status) →
    IsRun left source_faults source_steady written sink_faults sink_steady
    many words painters source now_source sink now_sink status →
    (said : Words) → Says many words said → MayBeRead said.generate source →
    HasRoom sink (length (output_of said.limit painters said.generate source.left)) →
    IsWhole (output_of said.limit painters said.generate source.left) sink now_sink status
