-- Runs over sources and sinks whose calls do not fail.
use Rattle.std.proofs.Common.{◌≡◌, ◌≢◌, ◌≤◌, ◌⊎◌, ◌++◌, ℕ, Bool, List, Option, Some, None, length, refl, arith, inl}
use Rattle.std.proofs.Common.{[], inr}
use Rattle.sp_base.specs.Memory.{MemorySink, MemorySource}
use Rattle.sp_paint.specs.State.{PainterState}
use Rattle.sp_session.specs.Reply.{session_rules}
use Rattle.sp_session.specs.Run.{IsRun, MakesLines, Obeys, ReadsLines}
use Rattle.sp_session.specs.State.{State, opening}
use Rattle.sp_session.specs.Summary.{WritesLine, summary_line}
use Rattle.sp_session.specs.Sure.{HasRoom, IsWhole, MayBeRead, output_of}
use Rattle.sp_stream.specs.declared.reading.TheConstants.{INPUT_LIMIT}
use Rattle.sp_stream.specs.declared.status.Status.{Status}
use Rattle.sp_stream.specs.declared.status.Status.TheVariants.{Done, Usage, ReadFault, WriteFault, OutOfMemory}
use Rattle.sp_stream.specs.declared.status.Status.TheVariants.{InputTooLong}
use Rattle.sp_stream.specs.Served.{Answered, Takes}
use Rattle.sp_stream.specs.Transcript.{Rules, transcript}
use Rattle.sp_words.specs.declared.words.Words.{Words}
use Rattle.sp_words.specs.Words.{Says}

-- ---- no fault of the source

-- A run that writes one line does not end by a fault of the source.
line_ends : (status : Status) → (status ≡ Done) ⊎ (status ≡ WriteFault) ⊎ (status ≡ OutOfMemory) → status ≢ ReadFault
line_ends status (inl done) = λ is. cc
line_ends status (inr (inl fault)) = λ is. cc
line_ends status (inr (inr memory)) = λ is. cc

-- Nor does one whose words are not allowed.
words_end : (status : Status) → (status ≡ Usage) ⊎ (status ≡ OutOfMemory) → status ≢ ReadFault
words_end status (inl usage) = λ is. cc
words_end status (inr memory) = λ is. cc

module _ {Source Sink : Type 0}
    (left : Source → Option (List ℕ)) (source_faults : Source → ℕ) (source_steady : Source → Type 0)
    (written : Sink → Option (List ℕ)) (sink_faults : Sink → ℕ) (sink_steady : Sink → ℕ → Type 0)
    (painters : List PainterState) (source now_source : Source) (sink now_sink : Sink) (status : Status) where
  -- What was done over a steady source does not end so.
  obeyed : (limit : ℕ) (generate : Option ℕ) → source_steady source →
      Obeys left source_faults source_steady written sink_faults sink_steady limit painters generate source now_source
      sink now_sink status → status ≢ ReadFault
  obeyed limit None steady obeys = (obeys.read_faults.calm steady).0
  obeyed limit (Some start) steady obeys = line_ends status obeys.reply.ends

  -- Over a steady source no run ends by a fault of it.
  pub no_read_fault : (many : Bool) (words : List (List ℕ)) → source_steady source →
      IsRun left source_faults source_steady written sink_faults sink_steady many words painters source now_source sink
      now_sink status → status ≢ ReadFault
  no_read_fault many words steady run = λ is.
      words_end status
      (run.refused (λ said says. obeyed said.limit said.generate steady (run.obeys said says) is)).0 is

-- ---- the whole output

-- An input within the limit is answered, where no stream failed and there was memory.
lines_whole : (rules : Rules State) (state : State) (input before : List ℕ) (left written : Option (List ℕ))
    (taken : ℕ) (status : Status) → Takes input left status taken →
    Answered rules state input taken before written status → length input ≤ INPUT_LIMIT → status ≢ ReadFault →
    status ≢ WriteFault → ((status ≡ Done) × (written ≡ Some (before ++ transcript rules state input)))
    ⊎ (status ≡ OutOfMemory)
lines_whole rules state input before left written taken Done takes answered few read write = inl (refl, answered)
lines_whole rules state input before left written taken Usage takes answered few read write = absurd answered
lines_whole rules state input before left written taken ReadFault takes answered few read write = absurd (read refl)
lines_whole rules state input before left written taken WriteFault takes answered few read write =
    absurd (write refl)
lines_whole rules state input before left written taken OutOfMemory takes answered few read write = inr refl
lines_whole rules state input before left written taken InputTooLong takes answered few read write =
    absurd (omega (arith, takes.allowed, takes.few, few))

-- One line is written, where the sink did not fail and there was memory.
line_whole : (line before : List ℕ) (written : Option (List ℕ)) (status : Status) →
    WritesLine line before written status → status ≢ WriteFault →
    ((status ≡ Done) × (written ≡ Some (before ++ line))) ⊎ (status ≡ OutOfMemory)
line_whole line before written Done told write = inl (refl, told)
line_whole line before written Usage told write = absurd told
line_whole line before written ReadFault told write = absurd told
line_whole line before written WriteFault told write = absurd (write refl)
line_whole line before written OutOfMemory told write = inr refl
line_whole line before written InputTooLong told write = absurd told

-- What a sink in memory tells is what is written.
written_whole : (output : List ℕ) (sink now_sink : MemorySink) (status : Status) →
    ((status ≡ Done) × (Some now_sink.written ≡ Some (sink.written ++ output))) ⊎ (status ≡ OutOfMemory) →
    IsWhole output sink now_sink status
written_whole output sink now_sink status (inl (done, is)) = inl (done, cc)
written_whole output sink now_sink status (inr memory) = inr memory

module _ (painters : List PainterState) (source now_source : MemorySource) (sink now_sink : MemorySink)
    (status : Status) where
  abbrev MemoryObeys : ℕ → Option ℕ → Type 0
  MemoryObeys limit generate =
      Obeys {Source = MemorySource} {Sink = MemorySink} (λ s. Some s.left) (λ s. s.faults) (λ s. s.fail ≡ [])
      (λ s. Some s.written) (λ s. s.faults) HasRoom limit painters generate source now_source sink now_sink status

  -- What was done over streams in memory that do not fail is whole.
  pub obeyed_whole : (limit : ℕ) (generate : Option ℕ) → MemoryObeys limit generate → MayBeRead generate source →
      HasRoom sink (length (output_of limit painters generate source.left)) →
      IsWhole (output_of limit painters generate source.left) sink now_sink status
  obeyed_whole limit None obeys read room =
      let rules = session_rules limit in
      let output = transcript rules (opening painters) source.left in
      let told = obeys.told source.left refl in
      written_whole output sink now_sink status
      (lines_whole rules (opening painters) source.left sink.written (Some now_source.left) (Some now_sink.written)
      told.0 status told.1 (told.2 sink.written refl) read.1 (obeys.read_faults.calm read.0).0
      (obeys.write_faults.calm (source.left, length output, refl, omega arith, room)).0)
  obeyed_whole limit (Some start) obeys read room =
      let line = summary_line (session_rules limit) (opening painters) start in
      written_whole line sink now_sink status
      (line_whole line sink.written (Some now_sink.written) status (obeys.reply.told sink.written refl)
      (obeys.reply.write_faults.calm (length line, omega arith, room)).0)
