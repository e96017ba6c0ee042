-- What texts sum up to, one after the other.
use Rattle.std.proofs.Common.{◌≡◌, ◌≤◌, ◌+◌, ◌++◌, [], ◌∷◌, List, ℕ, true, false, cond, length}
use Rattle.std.proofs.Common.{append-nil, append_assoc, length-append, arith, ap, ap₂, sym, ◌∙◌, refl, subst}
use Rattle.std.specs.List.{concat, count_by, sum}
use Rattle.std.proofs.lemmas.List.Folds.{concat-append}
use Rattle.std.proofs.lemmas.List.Sums.{sum_by-append, sum_by-cons}
use Rattle.sp_stream.specs.declared.lines.TheConstants.{NEWLINE}
use Rattle.sp_stream.specs.declared.summary.Summary.{Summary}
use Rattle.sp_stream.specs.Lines.{IsOneLine, lines_of, unless_empty}
use Rattle.sp_stream.specs.Summary.{IsSumOf, IsWith, IsWithin, summary_of, tells_error}
use Rattle.sp_stream.specs.Transcript.{Rules, replies, state_after, transcript}
use Rattle.sp_stream.proofs.Cutting.{begun_line-line, begun_line-one_line, whole_lines-line, whole_lines-one_line}

-- ---- texts

-- One reply more.
pub sum_with_reply : (texts : List (List ℕ)) (text : List ℕ) (s more : Summary) → IsWith true text s more →
    IsSumOf texts s → IsSumOf (texts ++ text ∷ []) more
sum_with_reply texts text s more w h = record {
  errors = w.errors ∙ ap (λ n. n + cond (tells_error text) 1 0) h.errors ∙ sym counted;
  bytes = w.bytes ∙ ap (λ n. n + length text) h.bytes ∙ sym (length-append (concat texts) text)
      ∙ ap length (sym joined);
  values = w.values ∙ ap (λ n. n + sum text) h.values ∙ sym (sum_by-append (λ x. x) (concat texts) text)
      ∙ ap sum (sym joined);
}
  where
    joined : concat (texts ++ text ∷ []) ≡ concat texts ++ text
    joined = concat-append texts (text ∷ []) ∙ ap (λ t. concat texts ++ t) (append-nil text)

    counted : count_by tells_error (texts ++ text ∷ []) ≡ count_by tells_error texts + cond (tells_error text) 1 0
    counted =
        sum_by-append (λ t. cond (tells_error t) 1 0) texts (text ∷ [])
        ∙ ap (λ n. count_by tells_error texts + n) (omega (arith, sum_by-cons (λ t. cond (tells_error t) 1 0) text []))

-- More texts can sum up to more.
pub within_more : (few many : ℕ) (s : Summary) → few ≤ many → IsWithin few s → IsWithin many s
within_more few many s le h = record {
  errors = omega (arith, le, h.errors);
  bytes = omega (arith, le, h.bytes);
  values = omega (arith, le, h.values);
}

-- what is summed up, number by number
abbrev summary : ℕ → ℕ → ℕ → Summary
summary errors bytes value = record { errors = errors; bytes = bytes; sum = value }

-- ---- lines

-- the lines from a whole one on
lines_of-line : (line later : List ℕ) → IsOneLine line → lines_of (line ++ NEWLINE ∷ later) ≡ line ∷ lines_of later
lines_of-line line later one =
    ap₂ (λ ls b. ls ++ unless_empty b) (whole_lines-line line later one) (begun_line-line line later one)

-- the lines of one that no newline ends
lines_of-one : (line : List ℕ) → IsOneLine line → lines_of line ≡ unless_empty line
lines_of-one line one =
    ap₂ (λ ls b. ls ++ unless_empty b) (whole_lines-one_line line one) (begun_line-one_line line one)

module _ {State : Type 0} (rules : Rules State) (first : State) (input : List ℕ) where
  -- The replies to the lines before `rest` are summed up.
  pub record IsSummed (now : State) (rest : List ℕ) (s : Summary) : Type 0 where
    pub done : List (List ℕ)
    pub replied : replies rules first (lines_of input) ≡ done ++ replies rules now (lines_of rest)
    pub left : state_after rules first (lines_of input) ≡ state_after rules now (lines_of rest)
    pub sums : IsSumOf done s
    pub within : IsWithin (length done) s
    pub few : length done + length rest ≤ length input

  -- Before the first line nothing is.
  pub summed_first : IsSummed first input (record { errors = 0; bytes = 0; sum = 0 })
  summed_first = record {
    done = [];
    replied = refl;
    left = refl;
    sums = record { errors = refl; bytes = refl; values = refl };
    within = record { errors = omega arith; bytes = omega arith; values = omega arith };
    few = omega arith;
  }

  -- One line more.
  pub summed_next : (now next : State) (rest line later : List ℕ) (s more : Summary) → IsSummed now rest s →
      rest ≡ line ++ NEWLINE ∷ later → IsOneLine line → next ≡ rules.next now line →
      ((texts : List (List ℕ)) → IsSumOf texts s → IsSumOf (texts ++ rules.reply now line ∷ []) more) →
      ((count : ℕ) → IsWithin count s → IsWithin (count + 1) more) → IsSummed next later more
  summed_next now next rest line later s more h cut one step sums within =
      let lines : lines_of rest ≡ line ∷ lines_of later = ap lines_of cut ∙ lines_of-line line later one in
      record {
        done = h.done ++ rules.reply now line ∷ [];
        replied = h.replied ∙ ap (λ ls. h.done ++ replies rules now ls) lines
            ∙ ap (λ n. h.done ++ (rules.reply now line ∷ replies rules n (lines_of later))) (sym step)
            ∙ sym (append_assoc h.done (rules.reply now line ∷ []) (replies rules next (lines_of later)));
        left = h.left ∙ ap (state_after rules now) lines ∙ ap (λ n. state_after rules n (lines_of later)) (sym step);
        sums = sums h.done h.sums;
        within = subst (λ n. IsWithin n more) (sym (length-append h.done (rules.reply now line ∷ [])))
            (within (length h.done) h.within);
        few = omega (
          arith,
          h.few,
          ap length cut,
          length-append line (NEWLINE ∷ later),
          length-append h.done (rules.reply now line ∷ []),
        );
      }

  -- After the last line and the text at the end this is the whole sum.
  pub summed_whole : (now next : State) (rest : List ℕ) (s last whole : Summary) → IsSummed now rest s →
      IsOneLine rest → next ≡ state_after rules now (unless_empty rest) →
      ((texts : List (List ℕ)) → IsSumOf texts s → IsSumOf (texts ++ replies rules now (unless_empty rest)) last) →
      IsWith false (rules.closing next) last whole → whole ≡ summary_of rules first input
  summed_whole now next rest s last whole h one step sums w =
      same_summary whole (summary_of rules first input)
      (omega (arith, w.errors) ∙ told.errors)
      (w.bytes ∙ ap (λ n. n + length (rules.closing next)) told.bytes ∙ sym (ap length text ∙ length-append _ _))
      (w.values ∙ ap (λ n. n + sum (rules.closing next)) told.values
      ∙ sym (ap sum text ∙ sum_by-append (λ x. x) (concat (replies rules first (lines_of input))) (rules.closing next)))
    where
      all : h.done ++ replies rules now (unless_empty rest) ≡ replies rules first (lines_of input)
      all = ap (λ ls. h.done ++ replies rules now ls) (sym (lines_of-one rest one)) ∙ sym h.replied

      told : IsSumOf (replies rules first (lines_of input)) last
      told = subst (λ ts. IsSumOf ts last) all (sums h.done h.sums)

      ends : state_after rules first (lines_of input) ≡ next
      ends = h.left ∙ ap (state_after rules now) (lines_of-one rest one) ∙ sym step

      text : transcript rules first input ≡ concat (replies rules first (lines_of input)) ++ rules.closing next
      text =
          concat-append (replies rules first (lines_of input))
          (rules.closing (state_after rules first (lines_of input)) ∷ [])
          ∙ ap (λ t. concat (replies rules first (lines_of input)) ++ t)
          (append-nil (rules.closing (state_after rules first (lines_of input))) ∙ ap rules.closing ends)

      same_summary : (a b : Summary) → a.errors ≡ b.errors → a.bytes ≡ b.bytes → a.sum ≡ b.sum → a ≡ b
      same_summary a b e n v =
          ap (λ (x : ℕ). summary x a.bytes a.sum) e ∙ ap (λ (x : ℕ). summary b.errors x a.sum) n
          ∙ ap (summary b.errors b.bytes) v
