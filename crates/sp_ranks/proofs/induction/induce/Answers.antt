-- The runs of the sorted moves are the divided power, by the theorem on them.
use Rattle.std.proofs.Common.{◌≤◌, ◌<◌, subst}
use Rattle.std.specs.declared.result.Result.{Result}
use Rattle.std.specs.declared.result.Result.TheVariants.{Ok, Err}
use Rattle.std.specs.Result.{IfOk}
use Rattle.std.proofs.lemmas.Result.{on_ok_weaker}
use Rattle.sp_ranks.proofs.Induced.{all_brought_by, read_sorted, weight_by, vector_by, within_by}
use Rattle.sp_ranks.proofs.induction.induce.Goals as goal

-- What two facts of a value say together.
both : {T E : Type 0} (r : Result T E) (P Q R : T → Type 0) → ((x : T) → P x → Q x → R x) → IfOk r P → IfOk r Q →
    IfOk r R
both (Ok x) P Q R f p q = f x p q
both (Err fault) P Q R f p q = tt

pub sums-requires-clause-brought : goal.sums-requires-clause-brought
sums-requires-clause-brought c =
    all_brought_by c.args.e c.args.i c.args.m c.args.v.now c.in_ok-found.found.items c.in_ok-found.ensures
    c.degree.result c.degree.ensures.value c.deref.result.now c.deref.ensures.value c.requires.powers

pub sums-requires-clause-sorted : goal.sums-requires-clause-sorted
sums-requires-clause-sorted c =
    read_sorted c.args.e c.args.i c.args.m c.args.v.now c.in_ok-found.found.items c.in_ok-found.ensures
    c.degree.result c.degree.ensures.value c.deref.result.now c.deref.ensures.value

pub returns-clause-ok : goal.returns-clause-ok
returns-clause-ok c =
    both c.sums.result _ _ _
    (vector_by c.args.e c.args.i c.args.m c.args.v.now c.in_ok-found.found.items c.in_ok-found.ensures
    c.degree.result c.degree.ensures.value c.deref.result.now c.deref.ensures.value)
    c.sums.ensures.degree c.sums.ensures.sums

pub returns-clause-fits : goal.returns-clause-fits
returns-clause-fits c =
    on_ok_weaker c.sums.result
    (subst (λ k. k ≤ c.args.limit)
    (weight_by c.args.e c.args.i c.args.m c.args.v.now c.in_ok-found.found.items c.in_ok-found.ensures
    c.degree.result c.degree.ensures.value c.deref.result.now c.deref.ensures.value))
    c.sums.ensures.fits

pub returns-clause-too_large : goal.returns-clause-too_large
returns-clause-too_large c = λ large.
    subst (λ k. c.args.limit < k)
    (weight_by c.args.e c.args.i c.args.m c.args.v.now c.in_ok-found.found.items c.in_ok-found.ensures
    c.degree.result c.degree.ensures.value c.deref.result.now c.deref.ensures.value)
    (c.sums.ensures.too_large large)

pub returns-clause-powers : goal.returns-clause-powers
returns-clause-powers c =
    both c.sums.result _ _ _
    (within_by c.args.e c.args.i c.args.m c.args.v.now c.in_ok-found.found.items c.in_ok-found.ensures
    c.degree.result c.degree.ensures.value c.deref.result.now c.deref.ensures.value)
    c.sums.ensures.degree c.sums.ensures.sums
