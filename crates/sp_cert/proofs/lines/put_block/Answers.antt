use Rattle.std.proofs.Common.{◌≡◌, ℕ, ◌++◌, codes, List, flat_map, get_or, length}
use Rattle.std.proofs.Common.{sym, ◌∙◌, ap, append_assoc, arith}
use Rattle.std.specs.Fmt.{decimal}
use Rattle.std.proofs.lemmas.Grind.{get_or_default_zero}
use Rattle.std.specs.List.{range_with_len}
use Rattle.sp_defs.specs.Node.{content}
use Rattle.sp_cert.specs.Texts.{counts_text}
use Rattle.sp_cert.proofs.Pieces.{piece_more, all_pieces, flat_map-map}
use Rattle.sp_cert.proofs.lines.put_block.Goals as goal

-- a space and a number behind a text
both : (now mid new : List ℕ) (k : ℕ) → mid ≡ now ++ codes " " → new ≡ mid ++ decimal k →
    new ≡ now ++ (codes " " ++ decimal k)
both now mid new k h w = w ∙ ap (λ t. t ++ decimal k) h ∙ append_assoc now (codes " ") (decimal k)

pub loop-count-preserved : goal.loop-count-preserved
loop-count-preserved c =
    let xs = c.as_slice-count-items.result.now in
    let i = c.loop-count.count-index in
    piece_more (λ k. codes " " ++ decimal k) (c.args.out.now.items ++ codes "block") c.loop-count.out.items
    c.put_number.new.out.items xs i (get_or xs i 0) c.loop-count-test.true
    (sym (get_or_default_zero xs i (get_or xs i 0) c.loop-count-test.true))
    c.loop-count.invariant
    (both c.loop-count.out.items c.extend_from_slice-in-loop-count.new.self.items c.put_number.new.out.items
    (get_or xs i 0) c.in_ok-extend_from_slice-2.ensures.items c.in_ok-put_number.ensures)

pub returns : goal.returns
returns c =
    let xs = c.as_slice-count-items.result.now in
    let end : c.loop-count.count-index ≡ length xs = omega arith in
    let same = c.as_slice-count-items.ensures.value ∙ c.content-counts.ensures in
    let front = c.args.out.now.items in
    let counts = counts_text c.args.e c.args.mu.now in
    let done = all_pieces (λ k. codes " " ++ decimal k) (front ++ codes "block") c.loop-count.out.items xs
    c.loop-count.count-index end c.loop-count.invariant
    ∙ ap (λ ys. (front ++ codes "block") ++ flat_map (λ k. codes " " ++ decimal k) ys) same
    ∙ ap (λ t. (front ++ codes "block") ++ t)
    (flat_map-map (λ k. codes " " ++ decimal k) (content c.args.e c.args.mu.now) (range_with_len 0 c.args.e)) in
    done ∙ append_assoc front (codes "block") counts
