use Rattle.std.proofs.Common.{◌≡◌, ℕ, ◌+◌, ◌-◌, ◌++◌, List, sym, ◌∙◌, ap, ap₂, arith}
use Rattle.sp_words.specs.Generated.{line_behind, line_text, lines_behind, lines_text, next_number}
use Rattle.sp_words.proofs.Making.{all_lines, one_line}
use Rattle.sp_words.proofs.lines.generated.Goals as goal

pub loop-line-init : goal.loop-line-init
loop-line-init c = record {
  small = c.requires;
  told = ap (λ (out : List ℕ). out ++ lines_text (lines_behind 200 c.args.start)) c.new-out.ensures.items;
}

pub loop-line-preserved : goal.loop-line-preserved
loop-line-preserved c =
    let at = c.loop-line in
    let three : c.next-number.result ≡ next_number (next_number (next_number at.number)) =
    c.next-number.ensures.next
    ∙ ap next_number (c.next-in-loop-line.ensures.next ∙ ap next_number c.next.ensures.next) in
    let text : c.put_line.new.out.items ≡ at.out.items ++ line_text (line_behind at.number) =
    c.in_ok-put_line.ensures ∙ ap (λ line. at.out.items ++ line_text line) c.line_after.ensures in
    record {
      small = c.next-number.ensures.small;
      told = ap₂ (λ (out : List ℕ) (number : ℕ). out ++ lines_text (lines_behind (200 - (at.line + 1)) number))
          text three
          ∙ (one_line at.out.items (200 - at.line) (200 - (at.line + 1)) at.number (omega arith) ∙ at.invariant.told);
    }

pub returns : goal.returns
returns c =
    sym (all_lines c.loop-line.out.items (200 - c.loop-line.line) c.loop-line.number (omega arith))
    ∙ c.loop-line.invariant.told
