use Rattle.std.proofs.Common.{rules, tests, eqb}
use Rattle.std.proofs.lemmas.Iterator.Search.{any_from_yields_List}
use Rattle.std.proofs.lemmas.Iterator.Splits.{YieldsList-from_slice_split}
use Rattle.std.specs.Prelude.{is_none}
use Rattle.sp_partition.specs.Reading.{partition_of}
use Rattle.sp_lang.proofs.value.any_shapeless.Goals as goal

pub returns : goal.returns
returns c =
    any_from_yields_List (λ piece. is_none (partition_of piece)) _ _ _ c.any.ensures.ran
    (YieldsList-from_slice_split _ (λ b. eqb b 124) c.args.word.now c.split.ensures.rest c.split.ensures.done
    c.split.ensures.closure
    (λ x b q k. search (rules, tests)))
    (λ x b q k. search (rules, tests))
