use Rattle.std.proofs.Common.{◌∙◌, rules, tests, eqb}
use Rattle.std.proofs.lemmas.Iterator.{YieldsList-from_slice}
use Rattle.std.proofs.lemmas.Iterator.Search.{find_from_yields_List}
use Rattle.std.specs.Cmp.Lexicographic.{pointwise}
use Rattle.sp_lang.specs.Convention.{convention_of, conventions, name_of}
use Rattle.sp_lang.proofs.convention.convention_of.Goals as goal

pub returns : goal.returns
unfolding convention_of
returns c =
    c.copied.ensures
    ∙ find_from_yields_List (λ convention. pointwise eqb (name_of convention) c.args.word.now) c.find.new.self _
    c.find.result c.find.ensures.ran
    (YieldsList-from_slice conventions c.iter.ensures.rest)
    (λ x b q k. search (rules, tests))
