use Rattle.std.proofs.Common.{◌∙◌, rules, tests, eqb}
use Rattle.std.proofs.lemmas.Iterator.{YieldsList-from_slice}
use Rattle.std.proofs.lemmas.Iterator.Search.{find_from_yields_List}
use Rattle.std.specs.Cmp.Lexicographic.{pointwise}
use Rattle.sp_lang.specs.Commands.{verb_of, verbs, name_of}
use Rattle.sp_lang.proofs.read.verb_of.Goals as goal

pub returns : goal.returns
unfolding verb_of
returns c =
    c.copied.ensures
    ∙ find_from_yields_List (λ verb. pointwise eqb (name_of verb) c.args.word.now) c.find.new.self _ c.find.result
    c.find.ensures.ran
    (YieldsList-from_slice verbs c.iter.ensures.rest)
    (λ x b q k. search (rules, tests))
