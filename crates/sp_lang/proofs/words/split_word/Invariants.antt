use Rattle.std.proofs.Common.{◌≡◌, length}
use Rattle.sp_lang.specs.Words.{words}
use Rattle.sp_lang.proofs.words.split_word.Given as goal

abbrev pub invariant-loop-first : goal.invariant-loop-first
invariant-loop-first l = words l.rest ≡ words l.text

abbrev pub decreases-loop-first : goal.decreases-loop-first
decreases-loop-first l = length l.rest
