use Rattle.std.proofs.Common.{◌≡◌, Ok, codes, ap, sym, ◌∙◌, true≢false}
use Rattle.sp_partition.specs.OrderLaws.{equal_lists, lists_equal}
use Rattle.sp_partition.specs.Reading.{list_of, parsed}
use Rattle.sp_partition.proofs.Canonical.{dash_read, list_read, printed, canonical}
use Rattle.sp_partition.proofs.Falls.{reads_partition}
use Rattle.sp_partition.proofs.partition.Partition.parse.Goals as goal

pub returns-then-eq-clause-reads : goal.returns-then-eq-clause-reads
returns-then-eq-clause-reads c =
    let dash : c.args.text.now ≡ codes "-" = equal_lists _ _ (sym c.if-eq.ensures) ∙ c.as_slice.ensures in
    ap Ok c.empty.ensures ∙ ap parsed (sym (dash_read c.args.text.now dash))

pub returns-then-eq-clause-partition : goal.returns-then-eq-clause-partition
returns-then-eq-clause-partition c = reads_partition c.args.text.now

pub returns-then-eq-clause-canonical : goal.returns-then-eq-clause-canonical
returns-then-eq-clause-canonical c = λ p. canonical c.args.text.now p _ (returns-then-eq-clause-reads c)

pub returns-then-eq-clause-printed : goal.returns-then-eq-clause-printed
returns-then-eq-clause-printed c = printed c.args.text.now

pub returns-clause-reads : goal.returns-clause-reads
returns-clause-reads c =
    c.read_list.ensures
    ∙ ap (λ t. parsed (list_of t)) c.inner.ensures
    ∙ ap parsed (sym (list_read c.args.text.now
    (λ e. true≢false (sym (c.if-eq.ensures ∙ lists_equal _ _ (e ∙ sym c.as_slice.ensures))))))

pub returns-clause-partition : goal.returns-clause-partition
returns-clause-partition c = reads_partition c.args.text.now

pub returns-clause-canonical : goal.returns-clause-canonical
returns-clause-canonical c = λ p. canonical c.args.text.now p _ (returns-clause-reads c)

pub returns-clause-printed : goal.returns-clause-printed
returns-clause-printed c = printed c.args.text.now
