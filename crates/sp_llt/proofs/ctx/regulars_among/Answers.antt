use Rattle.std.proofs.Common.{◌≡◌, ℕ, ◌+◌, List, [], ◌∷◌, ◌++◌, length, take, filter, sym, ◌∙◌, ap, subst, arith}
use Rattle.std.proofs.Common.{Vec}
use Rattle.std.specs.declared.alloc.Global.{Global}
use Rattle.std.proofs.Math.Seq.{take-length}
use Rattle.std.proofs.lemmas.List.{get_or_default}
use Rattle.sp_defs.specs.Partition.{is_regular}
use Rattle.sp_llt.proofs.Places.{AreFound, found_none, found_more, found_same}
use Rattle.sp_llt.proofs.ctx.regulars_among.Goals as goal
use Rattle.sp_llt.proofs.ctx.regulars_among.Goals.{then-is_regular+in_ok-push+in_ok-push-2, else-is_regular}

pub loop-place-init : goal.loop-place-init
loop-place-init c =
    subst (λ xs. AreFound c.args.e c.args.all.now 0 xs c.new-places.result.items) (sym c.new-regulars.ensures.items)
    (subst (AreFound c.args.e c.args.all.now 0 []) (sym c.new-places.ensures.items)
    (found_none c.args.e c.args.all.now))

pub loop-place-preserved : goal.loop-place-preserved
loop-place-preserved c =
    let e = c.args.e in
    let all = c.args.all.now in
    let k = c.loop-place.place in
    let p = c.index-all-place.result in
    let is = c.index-all-place.is ∙ get_or_default all k p [] c.loop-place-test.true in
    elim c.if-is_regular.branch [
      | then-is_regular+in_ok-push+in_ok-push-2 w ↦
          subst (λ (rs : Vec (List ℕ) Global). AreFound e all (k + 1) rs.items c.if-is_regular.places.items)
          (sym w.regulars-is)
          (subst (λ (is : Vec ℕ Global). AreFound e all (k + 1) w.push.new.self.items is.items) (sym w.places-is)
          (subst (λ xs. AreFound e all (k + 1) xs w.push-then-is_regular.new.self.items)
          (sym w.in_ok-push.ensures.items)
          (subst (AreFound e all (k + 1) (c.loop-place.regulars.items ++ (p ∷ []))) (sym w.in_ok-push-2.ensures.items)
          (found_more e all k c.loop-place.regulars.items c.loop-place.places.items p c.loop-place.invariant
          c.loop-place-test.true is (sym c.is_regular.ensures ∙ w.if-is_regular.true)))))
      | else-is_regular w ↦
          subst (λ (rs : Vec (List ℕ) Global). AreFound e all (k + 1) rs.items c.if-is_regular.places.items)
          (sym w.regulars-is)
          (subst (λ (is : Vec ℕ Global). AreFound e all (k + 1) c.loop-place.regulars.items is.items) (sym w.places-is)
          (found_same e all k c.loop-place.regulars.items c.loop-place.places.items p c.loop-place.invariant
          c.loop-place-test.true is (sym c.is_regular.ensures ∙ w.if-is_regular.false)))
    ]

pub returns : goal.returns
returns c =
    let end : c.loop-place.place ≡ length c.args.all.now = omega arith in
    record {
      regulars =
          c.loop-place.invariant.regulars
          ∙ ap (λ k. filter (is_regular c.args.e) (take k c.args.all.now)) end
          ∙ ap (filter (is_regular c.args.e)) (take-length c.args.all.now);
      places = record { within = c.loop-place.invariant.within; at = c.loop-place.invariant.at };
    }
