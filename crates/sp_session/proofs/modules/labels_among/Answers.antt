use Rattle.std.proofs.Common.{ℕ, Bool, List, ◌-◌, ◌++◌, ◌∷◌, [], filter, reverse, take, sym, ◌∙◌, ap, append_assoc}
use Rattle.std.proofs.Common.{append-nil}
use Rattle.sp_defs.specs.Partition.{is_regular}
use Rattle.sp_lang.specs.Convention.{label_in}
use Rattle.sp_session.proofs.Labels.{kept_done, kept_here, kept_past}
use Rattle.sp_session.proofs.modules.labels_among.Goals as goal

pub loop-k-preserved-in-Continue-1 : goal.loop-k-preserved-in-Continue-1
loop-k-preserved-in-Continue-1 c =
    let test : List ℕ → Bool = λ p. is_regular c.args.e (label_in c.args.convention p) in
    let xs = c.args.partitions.now in
    let k = c.loop-k.k in
    let x = c.index-partitions-k.result in
    let rest = filter test (reverse (take (k - 1) xs)) in
    ap (λ ys. ys ++ rest) c.in_ok-push.ensures.items
    ∙ append_assoc c.loop-k.labels.items (x ∷ []) rest
    ∙ ap (λ ys. c.loop-k.labels.items ++ ys)
    (sym (kept_here test xs k x c.loop-k-test.true c.loop-k.auto.k c.index-partitions-k.is
    (ap (is_regular c.args.e) (sym c.label.ensures) ∙ sym c.is_regular.ensures ∙ c.if-is_regular.true)))
    ∙ c.loop-k.invariant

pub loop-k-preserved : goal.loop-k-preserved
loop-k-preserved c =
    let test : List ℕ → Bool = λ p. is_regular c.args.e (label_in c.args.convention p) in
    ap (λ ys. c.loop-k.labels.items ++ ys)
    (sym (kept_past test c.args.partitions.now c.loop-k.k c.index-partitions-k.result
    c.loop-k-test.true c.loop-k.auto.k c.index-partitions-k.is
    (ap (is_regular c.args.e) (sym c.label.ensures) ∙ sym c.is_regular.ensures ∙ c.if-is_regular.false)))
    ∙ c.loop-k.invariant

pub returns : goal.returns
returns c =
    let test : List ℕ → Bool = λ p. is_regular c.args.e (label_in c.args.convention p) in
    sym (append-nil c.loop-k.labels.items)
    ∙ ap (λ ys. c.loop-k.labels.items ++ ys) (sym (kept_done test c.args.partitions.now c.loop-k.k c.loop-k-test.false))
    ∙ c.loop-k.invariant
