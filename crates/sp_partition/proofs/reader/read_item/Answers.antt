use Rattle.std.proofs.Common.{◌+◌, refl, sym, arith, true≢false}
use Rattle.sp_partition.proofs.ItemReading.{item_no_part, item_no_count, item_once, item_often}
use Rattle.sp_partition.proofs.Marks.{rest_whole}
use Rattle.sp_partition.proofs.reader.read_item.Goals as goal

pub returns-then-not-is_number-clause-none : goal.returns-then-not-is_number-clause-none
returns-then-not-is_number-clause-none c = λ _.
    item_no_part _ _ c.place-end.ensures (λ h. true≢false (sym (c.if-not-is_number.ensures.1 h)))

pub returns-then-end-text-clause-item : goal.returns-then-end-text-clause-item
returns-then-end-text-clause-item c = item_once _ _ _ (omega arith) (c.if-not-is_number.ensures.0 refl)

pub returns-then-not-is_number-2-clause-none : goal.returns-then-not-is_number-2-clause-none
returns-then-not-is_number-2-clause-none c = λ _.
    item_no_count _ _ _ c.place-end.ensures (omega (arith, c.place-end.ensures.within))
    (rest_whole c.args.text.now (c.place-end.result + 1))
    (λ h. true≢false (sym (c.if-not-is_number-2.ensures.1 h)))

pub returns-clause-item : goal.returns-clause-item
returns-clause-item c =
    item_often _ _ _ _ _ _ c.place-end.ensures (omega (arith, c.place-end.ensures.within))
    (rest_whole c.args.text.now (c.place-end.result + 1))
    (c.if-not-is_number.ensures.0 refl) (c.if-not-is_number-2.ensures.0 refl) c.value.ensures
