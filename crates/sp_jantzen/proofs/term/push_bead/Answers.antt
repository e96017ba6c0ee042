use Rattle.std.proofs.Common.{◌≡◌, ◌++◌, ◌∙◌, ap, arith, flat_map}
use Rattle.std.specs.List.{range_with_len}
use Rattle.sp_lists.proofs.FlatMaps.{appended_more}
use Rattle.sp_module_defs.specs.Jantzen.{terms_of_pair, terms_of_bead}
use Rattle.sp_jantzen.proofs.term.push_bead.Goals as goal

pub loop-to-preserved : goal.loop-to-preserved
loop-to-preserved c =
    c.in_ok-push_pair.ensures
    ∙ appended_more (terms_of_pair c.args.e c.args.numbers.now c.args.from) c.args.terms.now.items
    c.loop-to.terms.items 0 c.loop-to.to c.loop-to.to (omega arith) c.loop-to.invariant

pub returns : goal.returns
unfolding terms_of_bead
returns c =
    let all : c.loop-to.to ≡ c.args.from = omega arith in
    c.loop-to.invariant
    ∙ ap (λ n. c.args.terms.now.items ++ flat_map (terms_of_pair c.args.e c.args.numbers.now c.args.from)
    (range_with_len 0 n)) all
