use Rattle.std.proofs.Common.{◌≡◌, ◌++◌, [], ◌∷◌, length, ◌∙◌, ap, ap₂, arith}
use Rattle.sp_ranks.specs.Polynomials.{pieces}
use Rattle.sp_ranks.proofs.Pieces.{are_pieces_more, pieces_pushed}
use Rattle.sp_ranks.proofs.polynomials.Polynomials.push.Goals as goal

pub invariant_of-self-in-Ok : goal.invariant_of-self-in-Ok
invariant_of-self-in-Ok c =
    let added = c.in_ok-extend_from_slice.ensures.items in
    let here : c.len.result ≡ length c.extend_from_slice.new.self.items = omega arith in
    rw (c.in-Ok.ensures.items, added)
    (are_pieces_more c.self.inside.ends.items c.self.inside.terms.items c.args.polynomial.now c.len.result
    c.self.invariant c.requires (here ∙ ap length added))

pub returns-in-Ok : goal.returns-in-Ok
returns-in-Ok c =
    let added = c.in_ok-extend_from_slice.ensures.items in
    let here : c.len.result ≡ length c.extend_from_slice.new.self.items = omega arith in
    ap₂ (pieces 0) c.in-Ok.ensures.items added
    ∙ pieces_pushed c.self.inside.ends.items c.self.inside.terms.items c.args.polynomial.now c.len.result
    c.self.invariant (here ∙ ap length added)
    ∙ ap (λ ps. ps ++ (c.args.polynomial.now ∷ [])) c.self.view_is
