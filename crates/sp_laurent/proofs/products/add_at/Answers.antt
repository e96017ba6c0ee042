use Rattle.std.proofs.Common.{rules, ◌≡◌, ◌≢◌, [], ◌+ℤ◌, set}
use Rattle.std.proofs.Common.{of_z, to_z-of_z, refl, ◌∙◌, ap, ap₂, pos, arith, SFits}
use Rattle.std.specs.Int.{w128}
use Rattle.std.proofs.lemmas.Int.{ints}
use Rattle.sp_defs.specs.Laurent.{add_term}
use Rattle.std.specs.List.{insert}
use Rattle.sp_laurent.proofs.Machine.{add_fits, add_back, small_fits, sum_nought, nought_sum, back_nought}
use Rattle.sp_laurent.proofs.Placing.{parted_gone, parted_none, parted_new, parted_set}
use Rattle.sp_laurent.proofs.Placing.{parted_inside, parted_behind, parted_low, parted_low_next}
use Rattle.sp_laurent.proofs.Placing.{from_place_laurent, from_place_high, from_place_parted, from_place_small}
use Rattle.sp_laurent.proofs.products.add_at.Goals as goal
use Rattle.sp_laurent.proofs.products.add_at.Goals.{then-there-eq0+in_ok-insert_at, else-there-eq0}

pub split_first-there-requires-clause-laurent : goal.split_first-there-requires-clause-laurent
split_first-there-requires-clause-laurent c =
    from_place_laurent c.args.terms.now.items _ [] c.args.place c.args.power c.args.power (pos 0) c.deref.ensures.value
    refl c.requires.place c.requires.laurent

pub split_first-there-requires-clause-above : goal.split_first-there-requires-clause-above
split_first-there-requires-clause-above c =
    from_place_high c.args.terms.now.items _ [] c.args.place c.args.power _ (pos 0) c.deref.ensures.value
    (to_z-of_z c.ranges.power) c.requires.place c.requires.high

pub overflow_add-sum : goal.overflow_add-sum
overflow_add-sum c =
    let there = c.split_first-there.result.0 in
    let fits : SFits w128 there = search rules in
    let small = from_place_small c.args.terms.now.items _ _ c.args.place c.args.power _ there c.deref.ensures.value
    (to_z-of_z c.ranges.power) c.requires.place c.split_first-there.ensures.joined in
    add_fits w128 c.args.coefficient there c.ranges.coefficient fits
    (small_fits (c.args.coefficient +ℤ there) (omega (arith, ints, small, c.requires.fits)))

pub returns-then-there-ne0 : goal.returns-then-there-ne0
returns-then-there-ne0 c =
    let there = c.split_first-there.result.0 in
    let fits : SFits w128 there = search rules in
    let back = to_z-of_z c.ranges.power in
    let parted = from_place_parted c.args.terms.now.items _ _ c.args.place c.args.power _ there c.deref.ensures.value
    back c.requires.place c.requires.low c.split_first-there.ensures.joined c.split_first-there.ensures.above in
    let small = from_place_small c.args.terms.now.items _ _ c.args.place c.args.power _ there c.deref.ensures.value
    back c.requires.place c.split_first-there.ensures.joined in
    let sum_fits = small_fits (c.args.coefficient +ℤ there) (omega (arith, ints, small, c.requires.fits)) in
    let none = sum_nought c.args.coefficient there c.ranges.coefficient fits sum_fits c.if-sum-eq0.true in
    let added = c.remove.ensures.items ∙ parted_gone _ _ _ _ c.args.coefficient there parted none
    (λ e. c.if-there-ne0.true (ap (of_z w128) e)) in
    record {
      added = added;
      behind = omega (
        arith,
        c.remove.ensures.len,
        parted_inside _ _ _ _ c.args.coefficient there parted
            (λ e. c.if-there-ne0.true (ap (of_z w128) e)),
      );
      low = parted_low _ _ _ _ c.args.coefficient there parted c.remove.new.self.items added;
    }

pub returns-else-there-ne0 : goal.returns-else-there-ne0
returns-else-there-ne0 c =
    let there = c.split_first-there.result.0 in
    let fits : SFits w128 there = search rules in
    let back = to_z-of_z c.ranges.power in
    let parted = from_place_parted c.args.terms.now.items _ _ c.args.place c.args.power _ there c.deref.ensures.value
    back c.requires.place c.requires.low c.split_first-there.ensures.joined c.split_first-there.ensures.above in
    let small = from_place_small c.args.terms.now.items _ _ c.args.place c.args.power _ there c.deref.ensures.value
    back c.requires.place c.split_first-there.ensures.joined in
    let sum_fits = small_fits (c.args.coefficient +ℤ there) (omega (arith, ints, small, c.requires.fits)) in
    let none = sum_nought c.args.coefficient there c.ranges.coefficient fits sum_fits c.if-sum-eq0.true in
    let added = parted_none _ _ _ _ c.args.coefficient there parted none
    (back_nought there fits c.if-there-ne0.false) in
    record {
      added = added;
      behind = c.requires.place;
      low = parted_low _ _ _ _ c.args.coefficient there parted c.args.terms.now.items added;
    }

pub returns : goal.returns
returns c =
    let there = c.split_first-there.result.0 in
    let fits : SFits w128 there = search rules in
    let back = to_z-of_z c.ranges.power in
    let parted = from_place_parted c.args.terms.now.items _ _ c.args.place c.args.power _ there c.deref.ensures.value
    back c.requires.place c.requires.low c.split_first-there.ensures.joined c.split_first-there.ensures.above in
    let small = from_place_small c.args.terms.now.items _ _ c.args.place c.args.power _ there c.deref.ensures.value
    back c.requires.place c.split_first-there.ensures.joined in
    let sum_fits = small_fits (c.args.coefficient +ℤ there) (omega (arith, ints, small, c.requires.fits)) in
    let some : c.args.coefficient +ℤ there ≢ pos 0 =
    λ e. c.if-sum-eq0.false (nought_sum c.args.coefficient there c.ranges.coefficient fits sum_fits e) in
    let sum = add_back w128 c.args.coefficient there c.ranges.coefficient fits sum_fits in
    let added : c.if-there-eq0.terms.items ≡ add_term c.args.power c.args.coefficient c.args.terms.now.items =
    elim c.if-there-eq0.branch [
      | then-there-eq0+in_ok-insert_at w ↦
          ap (λ v. v.items) w.terms-is ∙ w.in_ok-insert_at.ensures
          ∙ ap₂ (λ k a. insert c.args.terms.now.items c.args.place (k, a)) back sum
          ∙ parted_new _ _ _ _ c.args.coefficient there parted some (back_nought there fits w.if-there-eq0.true)
      | else-there-eq0 w ↦
          ap (λ v. v.items) w.terms-is
          ∙ ap₂ (λ k a. set c.args.terms.now.items c.args.place (k, a)) back sum
          ∙ parted_set _ _ _ _ c.args.coefficient there parted some (λ e. w.if-there-eq0.false (ap (of_z w128) e))
    ] in
    record {
      added = added;
      behind = parted_behind _ _ _ _ c.args.coefficient there parted c.if-there-eq0.terms.items some added;
      low = parted_low_next _ _ _ _ c.args.coefficient there parted c.if-there-eq0.terms.items some added;
    }
