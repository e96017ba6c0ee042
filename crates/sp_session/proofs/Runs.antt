-- Runs by what their words say.
use Rattle.std.proofs.Common.{◌≡◌, ◌≢◌, ℕ, ◌≤◌, ◌⊎◌, Bool, [], List, Option, Some, None, length, refl, sym, ◌∙◌, ap}
use Rattle.std.proofs.Common.{append-nil, arith, inl, inr, subst}
use Rattle.sp_base.specs.Causes.{Rose}
use Rattle.sp_paint.specs.State.{PainterState}
use Rattle.sp_stream.specs.declared.status.Status.{Status}
use Rattle.sp_stream.specs.declared.reading.TheConstants.{INPUT_LIMIT}
use Rattle.sp_stream.specs.declared.status.Status.TheVariants.{Done, Usage, ReadFault, WriteFault, OutOfMemory}
use Rattle.sp_stream.specs.Faults.{FaultsHaveCause, IsSteadyForAll}
use Rattle.sp_stream.specs.Served.{Answered, Takes}
use Rattle.sp_stream.specs.Transcript.{Rules, texts_of, transcript}
use Rattle.sp_words.specs.declared.words.Words.{Words}
use Rattle.sp_words.specs.Words.{Says}
use Rattle.sp_session.specs.Reply.{session_rules}
use Rattle.sp_session.specs.Run.{AnswersLines, IsRun, MakesLines, Obeys, ReadsLines}
use Rattle.sp_session.specs.State.{State, opening}
use Rattle.sp_session.specs.Summary.{IsOneReply, summary_line}

-- Without memory nothing was answered.
nothing_answered : (limit : ℕ) (painters : List PainterState) (left written : Option (List ℕ)) →
    AnswersLines limit painters left left written written OutOfMemory
nothing_answered limit painters left written = λ input left_is. (
  0,
  record { left = left_is; few = omega arith; allowed = omega arith },
  λ before is.
      let texts = texts_of (session_rules limit) (opening painters) input in
      ([], texts, refl, is ∙ ap (λ t. Some t) (sym (append-nil before))),
)

-- No fault came and nothing was counted.
no_fault : (fault status : Status) (faults : ℕ) (IsSteady : Type 0) → status ≢ fault →
    FaultsHaveCause fault status faults faults IsSteady
no_fault fault status faults IsSteady other = record {
  later = omega arith;
  cause = λ is. absurd (other is);
  calm = λ steady. (other, refl);
}

module _ {Source Sink : Type 0}
    (left : Source → Option (List ℕ)) (source_faults : Source → ℕ) (source_steady : Source → Type 0)
    (written : Sink → Option (List ℕ)) (sink_faults : Sink → ℕ) (sink_steady : Sink → ℕ → Type 0)
    (painters : List PainterState) (source : Source) (sink : Sink) where
  -- Without memory a run has done what its words say.
  unread_obeys : (limit : ℕ) (generate : Option ℕ) →
      Obeys left source_faults source_steady written sink_faults sink_steady limit painters generate source source sink
      sink OutOfMemory
  unread_obeys limit None = record {
    told = nothing_answered limit painters (left source) (written sink);
    read_faults = no_fault _ _ _ _ (λ is. cc);
    write_faults = no_fault _ _ _ _ (λ is. cc);
    complete = λ read wrote input left_is few. inr refl;
  }
  unread_obeys limit (Some start) = record {
    unread = refl;
    reply = record {
      ends = inr (inr refl);
      told = λ before is. is;
      write_faults = no_fault _ _ _ _ (λ is. cc);
      complete = λ wrote. inr refl;
    };
  }

  -- What a session answers from its opening on is what words say that name no number.
  pub served_obeys : (limit : ℕ) (generate : Option ℕ) → generate ≡ None → (rules : Rules State) (state : State) →
      rules ≡ session_rules limit → state ≡ opening painters → (now_source : Source) (now_sink : Sink)
      (status : Status) →
      ((input : List ℕ) → left source ≡ Some input → (taken : ℕ)
      × Takes input (left now_source) status taken
      × ((before : List ℕ) → written sink ≡ Some before →
      Answered rules state input taken before (written now_sink) status)) →
      FaultsHaveCause ReadFault status (source_faults source) (source_faults now_source) (source_steady source) →
      FaultsHaveCause WriteFault status (sink_faults sink) (sink_faults now_sink)
      (IsSteadyForAll (sink_steady sink) (transcript rules state) (left source)) →
      ((input : List ℕ) → left source ≡ Some input → length input ≤ INPUT_LIMIT →
      ¬ Rose (source_faults source) (source_faults now_source) → ¬ Rose (sink_faults sink) (sink_faults now_sink) →
      (status ≡ Done) ⊎ (status ≡ OutOfMemory)) →
      Obeys left source_faults source_steady written sink_faults sink_steady limit painters generate source now_source
      sink now_sink status
  served_obeys limit generate none rules state rules_is state_is now_source now_sink status told read write complete =
      subst (λ start. Obeys left source_faults source_steady written sink_faults sink_steady limit painters start source
      now_source sink now_sink status) (sym none) (record {
        told = λ input left_is. (
          (told input left_is).0,
          (told input left_is).1,
          λ before is.
              subst (λ r. Answered r (opening painters) input (told input left_is).0 before (written now_sink) status)
              rules_is
              (subst (λ s. Answered rules s input (told input left_is).0 before (written now_sink) status) state_is
              ((told input left_is).2 before is)),
        );
        read_faults = read;
        write_faults =
            subst (λ r. FaultsHaveCause WriteFault status (sink_faults sink) (sink_faults now_sink)
            (IsSteadyForAll (sink_steady sink) (transcript r (opening painters)) (left source))) rules_is
            (subst (λ s. FaultsHaveCause WriteFault status (sink_faults sink) (sink_faults now_sink)
            (IsSteadyForAll (sink_steady sink) (transcript rules s) (left source))) state_is write);
        complete = λ no_read no_write input left_is few. complete input left_is few no_read no_write;
      })

  -- One line in place of all answers is what words say that name a number.
  pub summed_obeys : (limit start : ℕ) (generate : Option ℕ) → generate ≡ Some start → (rules : Rules State)
      (state : State) → rules ≡ session_rules limit → state ≡ opening painters → (now_sink : Sink)
      (status : Status) →
      IsOneReply written sink_steady sink_faults (summary_line rules state start) sink now_sink status →
      Obeys left source_faults source_steady written sink_faults sink_steady limit painters generate source source sink
      now_sink status
  summed_obeys limit start generate some rules state rules_is state_is now_sink status reply =
      subst (λ named. Obeys left source_faults source_steady written sink_faults sink_steady limit painters named source
      source sink now_sink status) (sym some) (record {
        unread = refl;
        reply =
            subst (λ r. IsOneReply written sink_steady sink_faults (summary_line r (opening painters) start) sink
            now_sink status) rules_is
            (subst (λ s. IsOneReply written sink_steady sink_faults (summary_line rules s start) sink now_sink status)
            state_is reply);
      })

  module _ (many : Bool) (words : List (List ℕ)) where
    abbrev Run : Source → Sink → Status → Type 0
    Run now_source now_sink status =
        IsRun left source_faults source_steady written sink_faults sink_steady many words painters source now_source
        sink now_sink status

    -- Words that are not allowed are refused.
    pub refused_run : ((said : Words) → ¬ Says many words said) → Run source sink Usage
    refused_run none = record {
      usage = λ is. none;
      untouched = λ is. (refl, refl);
      refused = λ _. (inl refl, refl, refl);
      obeys = λ said says. absurd (none said says);
    }

    -- There was no memory to read the words.
    pub unread_run : Run source sink OutOfMemory
    unread_run = record {
      usage = λ is. cc;
      untouched = λ is. cc;
      refused = λ _. (inr refl, refl, refl);
      obeys = λ said says. unread_obeys said.limit said.generate;
    }

    -- What was done is what the words say.
    pub said_run : (now_source : Source) (now_sink : Sink) (status : Status) (said : Words) → Says many words said →
        ((other : Words) → Says many words other → other ≡ said) → status ≢ Usage →
        Obeys left source_faults source_steady written sink_faults sink_steady said.limit painters said.generate source
        now_source sink now_sink status → Run now_source now_sink status
    said_run now_source now_sink status said says only other obeys = record {
      usage = λ is. absurd (other is);
      untouched = λ is. absurd (other is);
      refused = λ none. absurd (none said says);
      obeys = λ one named.
          subst (λ (w : Words).
          Obeys left source_faults source_steady written sink_faults sink_steady w.limit painters w.generate source
          now_source sink now_sink status)
          (sym (only one named)) obeys;
    }
