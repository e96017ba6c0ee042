use Rattle.std.proofs.Common.{◌+◌, drop, get_or, arith, subst, ap}
use Rattle.std.proofs.lemmas.List.{drop_more, drop_all}
use Rattle.sp_good.proofs.Passes.{Descends, descends_same, descends_addable, descends_paired}
use Rattle.sp_good.proofs.Passes.{descends_left, descends_all, no_mark}
use Rattle.sp_good.proofs.signature.removable_left.Goals as goal
use Rattle.sp_good.proofs.signature.removable_left.Goals.{in-Addable, in-Removable, in-Removable-2}

pub loop-mark-preserved : goal.loop-mark-preserved
loop-mark-preserved c =
    let marks = c.args.marks.now in
    let seen = c.loop-mark.mark-index in
    let here = drop_more marks seen no_mark c.loop-mark-test.true in
    let m = get_or marks seen no_mark in
    elim c.match-mark.branch [
      | in-Addable w ↦ descends_same _ _ _ _ _ _ _ (ap (λ l. l.items) w.left-is) w.unpaired-is
          (descends_addable marks (drop seen marks) (drop (seen + 1) marks) m _ _ seen c.loop-mark.invariant here
          w.in-Addable.is)
      | in-Removable w ↦ descends_same _ _ _ _ _ _ _ (ap (λ l. l.items) w.left-is) w.unpaired-is
          (descends_paired marks (drop seen marks) (drop (seen + 1) marks) m _ _ seen c.loop-mark.invariant here
          w.in-Removable.is w.if-unpaired-gt0.true)
      | in-Removable-2 w ↦ descends_same _ _ _ _ _ _ _ (ap (λ l. l.items) w.left-is) w.unpaired-is
          (descends_left marks (drop seen marks) (drop (seen + 1) marks) m _ _ seen c.loop-mark.invariant here
          w.push.new.self.items w.push.ensures.items w.in-Removable.is (omega arith))
    ]

pub returns : goal.returns
returns c =
    descends_all c.args.marks.now _ _ c.loop-mark.mark-index
    (subst (λ rest. Descends c.args.marks.now rest c.loop-mark.left.items c.loop-mark.unpaired c.loop-mark.mark-index)
    (drop_all c.loop-mark.mark-index c.args.marks.now (omega arith)) c.loop-mark.invariant)
