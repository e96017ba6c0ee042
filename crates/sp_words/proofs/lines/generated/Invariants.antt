use Rattle.std.proofs.Common.{◌≡◌, ◌<◌, ◌^◌, ◌-◌, ◌++◌}
use Rattle.sp_words.specs.Generated.{generated_text, lines_behind, lines_text}
use Rattle.sp_words.proofs.lines.generated.Given as goal

abbrev pub invariant-loop-line : goal.invariant-loop-line
invariant-loop-line l = record {
  small : l.number < 2 ^ 31;
  told : l.out.items ++ lines_text (lines_behind (200 - l.line) l.number) ≡ generated_text l.fn.start;
}
