use Rattle.std.proofs.Common.{◌<◌, [], ◌++◌, ◌∙◌, ap, arith, cond, length}
use Rattle.std.proofs.lemmas.List.{length-map}
use Rattle.sp_lr.specs.Results.{chains_in}
use Rattle.sp_lr_defs.specs.Listing.{ends_with}
use Rattle.sp_replies.specs.Products.{chain_line}
use Rattle.sp_replies.proofs.Coefficients.{chain_at, line_more}
use Rattle.sp_replies.proofs.products.put_ending.Goals as goal

pub loop-filling-preserved : goal.loop-filling-preserved
loop-filling-preserved c =
    let found = c.args.found.now in
    let place = c.loop-filling.filling-index in
    let lt : place < length (chains_in found) =
    omega (arith, c.loop-filling-test.true, length-map found (λ f. f.chain)) in
    line_more c.args.nu.now c.args.out.now.items c.loop-filling.out.items c.put_chain_to.new.out.items (chains_in found)
    place c.filling-item.result.chain lt
    (chain_at found place c.filling-item.result (omega (arith, c.loop-filling-test.true)) c.filling-item.is)
    c.loop-filling.invariant
    (c.in_ok-put_chain_to.ensures
    ∙ ap (λ chain. c.loop-filling.out.items ++ cond (ends_with c.args.nu.now chain) (chain_line chain) [])
    c.as_slice.ensures)
