use Rattle.std.proofs.Common.{◌≡◌, ◌+◌, ◌-◌, ◌++◌, ◌∷◌, [], arith, subst, ◌∙◌, ap, suc, length, ◌<◌}
use Rattle.sp_lr.proofs.Groups.{AreCounted, count_on, count_ends, same_before, same_member}
use Rattle.sp_lr.proofs.products.counted.Goals as goal

pub loop-place-preserved-then-is_first : goal.loop-place-preserved-then-is_first
loop-place-preserved-then-is_first c =
    let next : c.loop-place.place ≡ suc (c.loop-place.place - 1) = omega arith in
    let within : c.loop-place.place - 1 < length c.args.ends.now = omega (arith, c.loop-place.invariant.few) in
    count_ends c.args.ends.now (c.loop-place.place - 1) c.loop-place.count c.loop-place.pairs.items
    c.push.new.self.items
    c.requires within (c.is_first.ensures.0 c.if-is_first.true)
    (c.in_ok-push.ensures.items
    ∙ ap (λ x. c.loop-place.pairs.items ++ (x, c.loop-place.count + 1) ∷ [])
    (same_member c.args.ends.now (c.loop-place.place - 1) c.index-ends-place.result within c.index-ends-place.is))
    (subst (λ i. AreCounted c.args.ends.now i c.loop-place.count c.loop-place.pairs.items) next c.loop-place.invariant)

pub loop-place-preserved : goal.loop-place-preserved
loop-place-preserved c =
    let next : c.loop-place.place ≡ suc (c.loop-place.place - 1) = omega arith in
    let within : c.loop-place.place - 1 < length c.args.ends.now = omega (arith, c.loop-place.invariant.few) in
    let alike = same_before c.args.ends.now (c.loop-place.place - 1) c.is_first.result c.is_first.ensures
    c.if-is_first.false in
    count_on c.args.ends.now (c.loop-place.place - 1) c.loop-place.count c.loop-place.pairs.items within alike.0 alike.1
    (subst (λ i. AreCounted c.args.ends.now i c.loop-place.count c.loop-place.pairs.items) next c.loop-place.invariant)
