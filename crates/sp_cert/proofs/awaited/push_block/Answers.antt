use Rattle.std.proofs.Common.{[], ◌∷◌, ◌++◌, map, get_or, Vec, Global, ◌∙◌, sym, ap, arith}
use Rattle.std.proofs.lemmas.List.{get_or_default}
use Rattle.sp_cert.specs.declared.heads.Head.{Head}
use Rattle.sp_cert.specs.declared.heads.Head.TheVariants.{Block, Column}
use Rattle.sp_cert.specs.Drafts.{head_of}
use Rattle.sp_cert.proofs.Heading.{block_begun, block_more, block_same, block_whole}
use Rattle.sp_cert.proofs.awaited.push_block.Goals as goal
use Rattle.sp_cert.proofs.awaited.push_block.Goals.{then-is_same+in_ok-push-2, else-is_same}

pub loop-place-init : goal.loop-place-init
loop-place-init c = λ e are.
    block_begun e (get_or c.args.regulars.now c.args.leader []) c.args.regulars.now c.args.heads.now.items
    c.push.new.self.items
    (c.in_ok-push.ensures.items
    ∙ ap (λ mu. c.args.heads.now.items ++ (Block mu ∷ []))
    (c.index-regulars-leader.is
    ∙ get_or_default c.args.regulars.now c.args.leader c.index-regulars-leader.result [] c.requires.leader))

pub loop-place-preserved : goal.loop-place-preserved
loop-place-preserved c = λ e are.
    let list = c.args.regulars.now in
    let place = c.loop-place.place in
    let leader = get_or list c.args.leader [] in
    let mu = get_or list place [] in
    let front = map head_of c.args.heads.now.items in
    let here = sym (get_or_default list place mu [] c.loop-place-test.true) in
    elim c.if-is_same.branch [
      | then-is_same+in_ok-push-2 w ↦
          ap (λ (v : Vec Head Global). map head_of v.items) w.heads-is
          ∙ block_more e leader list place mu front c.loop-place.heads.items w.push-then-is_same.new.self.items
          c.loop-place-test.true here (c.loop-place.invariant e are)
          (sym (c.is_same.ensures e list are) ∙ w.if-is_same.true)
          (w.in_ok-push-2.ensures.items
          ∙ ap (λ nu. c.loop-place.heads.items ++ (Column nu ∷ []))
          (w.index-regulars-place.is
          ∙ get_or_default list place w.index-regulars-place.result [] c.loop-place-test.true))
      | else-is_same w ↦
          ap (λ (v : Vec Head Global). map head_of v.items) w.heads-is
          ∙ block_same e leader list place mu front c.loop-place.heads.items c.loop-place-test.true here
          (c.loop-place.invariant e are) (sym (c.is_same.ensures e list are) ∙ w.if-is_same.false)
    ]

pub returns : goal.returns
returns c = λ e are.
    block_whole e (get_or c.args.regulars.now c.args.leader []) c.args.regulars.now c.loop-place.place
    (map head_of c.args.heads.now.items) c.loop-place.heads.items (omega arith) (c.loop-place.invariant e are)
