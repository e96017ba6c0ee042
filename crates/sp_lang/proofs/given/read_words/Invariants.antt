use Rattle.sp_lang.specs.Words.{words}
use Rattle.sp_lang.proofs.ByPlace.{Reads}
use Rattle.sp_lang.proofs.given.read_words.Given as goal

abbrev pub invariant-loop-place : goal.invariant-loop-place
invariant-loop-place l = Reads l.places (words l.text) l.place-index l.given.items (words l.rest)
