use Rattle.std.proofs.Common.{◌<◌, ◌-◌, [], ◌∙◌, sym, arith, length, ltb-true}
use Rattle.std.proofs.lemmas.List.{get_or_default}
use Rattle.sp_replies.proofs.Coefficients.{end_told}
use Rattle.sp_replies.proofs.products.ends_with.Goals as goal

pub returns-in-Some : goal.returns-in-Some
returns-in-Some c =
    let chain = c.args.chain.now in
    let last = c.in-Some.last.now in
    let some : 0 < length chain = ltb-true 0 (length chain) (sym c.in-Some.ensures.item.0) in
    c.eq.ensures
    ∙ end_told c.args.nu.now last chain some
    (c.in-Some.ensures.item.1 ∙ get_or_default chain (length chain - 1) last [] (omega arith))
