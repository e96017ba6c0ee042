-- One line in place of all answers.
use Rattle.std.proofs.Common.{◌≡◌, ◌≤◌, ◌+◌, ◌-◌, ◌*◌, ◌++◌, ℕ, zero, suc, List, [], ◌∷◌, Option, length, codes}
use Rattle.std.proofs.Common.{decimal}
use Rattle.std.proofs.Common.{arith, ap, ◌∙◌, refl, inl, inr, length-append}
use Rattle.std.proofs.lemmas.Fmt.{length-decimal-le}
use Rattle.sp_stream.specs.declared.status.Status.TheVariants.{Done, WriteFault, OutOfMemory}
use Rattle.sp_stream.specs.Writing.{Breaks, Puts}
use Rattle.sp_stream.proofs.Runs.{fitting}
use Rattle.sp_words.specs.declared.lines.Kind.{Kind}
use Rattle.sp_words.specs.declared.lines.Kind.TheVariants.{Crystal, Decomposition, Dims, Certificate}
use Rattle.sp_words.specs.declared.lines.Line.{Line}
use Rattle.sp_words.specs.Generated.{generated_text, line_behind, line_text, lines_behind, lines_text, next_number}
use Rattle.sp_words.specs.Generated.{word_of}
use Rattle.sp_session.specs.Summary.{IsOneReply}

-- ---- the sink

module _ {Sink : Type 0} (written : Sink → Option (List ℕ)) (steady : Sink → ℕ → Type 0) (faults : Sink → ℕ)
    (line : List ℕ) (old new : Sink) where
  -- The whole line was written.
  pub line_done : Puts written steady faults old new line →
      IsOneReply written steady faults line old new Done
  line_done puts = record {
    ends = inl refl;
    told = puts.told;
    write_faults = record {
      later = puts.later;
      cause = λ is. cc;
      calm = λ s. (
        (λ is. cc),
        (puts.calm (s.0 - length line) (fitting (steady old) s.0 (length line) s.1 s.2)).1,
      );
    };
    complete = λ wrote. inl refl;
  }

  -- The sink took a part of it.
  pub line_broken : Breaks written steady faults old new line →
      IsOneReply written steady faults line old new WriteFault
  line_broken breaks = record {
    ends = inr (inl refl);
    told = breaks.told;
    write_faults = record {
      later = breaks.later;
      cause = λ is. breaks.rose;
      calm = λ s. absurd (breaks.not_calm (s.0 - length line) (fitting (steady old) s.0 (length line) s.1 s.2));
    };
    complete = λ wrote. absurd (wrote breaks.rose);
  }

  -- There is no line.
  pub line_missing : new ≡ old → IsOneReply written steady faults line old new OutOfMemory
  line_missing same = record {
    ends = inr (inr refl);
    told = λ before is. ap written same ∙ is;
    write_faults = record {
      later = omega (arith, ap faults same);
      cause = λ is. cc;
      calm = λ s. ((λ is. cc), ap faults same);
    };
    complete = λ wrote. inr refl;
  }

-- ---- how long the lines are that a number makes

word_short : (kind : Kind) → length (word_of kind) ≤ 13
word_short Crystal = omega arith
word_short Decomposition = omega arith
word_short Dims = omega arith
word_short Certificate = omega arith

number_short : (n : ℕ) → n ≤ 99 → length (decimal n) ≤ 2
number_short n le = length-decimal-le 2 n (omega arith) (omega (arith, le)) (omega (arith, le))

line_short : (line : Line) → line.e ≤ 99 → line.n ≤ 99 → length (line_text line) ≤ 20
line_short line e n =
    omega (
      arith,
      word_short line.kind,
      number_short line.e e,
      number_short line.n n,
      length-append (word_of line.kind) (codes " " ++ (decimal line.e ++ (codes " " ++ (decimal line.n ++ 10 ∷ [])))),
      length-append (codes " ") (decimal line.e ++ (codes " " ++ (decimal line.n ++ 10 ∷ []))),
      length-append (decimal line.e) (codes " " ++ (decimal line.n ++ 10 ∷ [])),
      length-append (codes " ") (decimal line.n ++ 10 ∷ []),
      length-append (decimal line.n) (10 ∷ []),
    )

lines_short : (count number : ℕ) → length (lines_text (lines_behind count number)) ≤ 20 * count
unfolding lines_behind
lines_short zero number = omega arith
lines_short (suc count) number =
    let next = next_number (next_number (next_number number)) in
    omega (
      arith,
      line_short (line_behind number) (omega arith) (omega arith),
      lines_short count next,
      length-append (line_text (line_behind number)) (lines_text (lines_behind count next)),
    )

-- They are a short input.
pub generated_short : (start : ℕ) → length (generated_text start) ≤ 16777216
generated_short start = omega (arith, lines_short 200 start)
