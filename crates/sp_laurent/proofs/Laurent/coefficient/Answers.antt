use Rattle.std.proofs.Common.{rules, sym, ◌∙◌, ap, subst, get_or, Ok, Err, to_z, of_z, int_cmp, SFits, w32, to_z-of_z}
use Rattle.std.specs.Int.{w128}
use Rattle.std.specs.List.Sorted.{IsBinarySearchResult}
use Rattle.std.proofs.lemmas.List.Sorted.{answers_always}
use Rattle.sp_defs.specs.Laurent.{IsLaurent, coefficient}
use Rattle.sp_algebra.proofs.Canonical.{canonical-from}
use Rattle.sp_algebra.proofs.Places.{searched}
use Rattle.sp_laurent.proofs.Laurent.coefficient.Goals as goal

pub returns-in-Ok : goal.returns-in-Ok
returns-in-Ok c =
    let h : IsBinarySearchResult (λ t. int_cmp t.0 (to_z w32 (of_z w32 c.args.power))) c.deref.result.now
    (Ok c.in-Ok.place) =
    c.in-Ok.ensures.position (λ t. t.0)
    (answers_always _ _ _ (λ f a r g called. search rules)) in
    let laurent : IsLaurent c.deref.result.now =
    subst IsLaurent (sym c.deref.ensures.value) c.self.invariant.laurent in
    let found = searched c.deref.result.now (canonical-from c.deref.result.now laurent)
    (to_z w32 (of_z w32 c.args.power)) (Ok c.in-Ok.place) c.in-Ok.ensures.bound h c.index.result.now in
    let fits : SFits w128 c.index.result.now.1 = search rules in
    to_z-of_z fits ∙ ap (λ t. t.1) c.index.ensures ∙ ap (λ p. (get_or p c.in-Ok.place c.index.result.now).1)
    (sym c.deref.ensures.value)
    ∙ sym found ∙ ap (coefficient c.deref.result.now) (to_z-of_z c.ranges.power)
    ∙ ap (λ p. coefficient p c.args.power) (c.deref.ensures.value ∙ c.self.view_is)

pub returns-in-Err : goal.returns-in-Err
returns-in-Err c =
    let h : IsBinarySearchResult (λ t. int_cmp t.0 (to_z w32 (of_z w32 c.args.power))) c.deref.result.now
    (Err c.in-Err.field-0) =
    c.in-Err.ensures.position (λ t. t.0)
    (answers_always _ _ _ (λ f a r g called. search rules)) in
    let laurent : IsLaurent c.deref.result.now =
    subst IsLaurent (sym c.deref.ensures.value) c.self.invariant.laurent in
    let found = searched c.deref.result.now (canonical-from c.deref.result.now laurent)
    (to_z w32 (of_z w32 c.args.power)) (Err c.in-Err.field-0) c.in-Err.ensures.bound h in
    sym (ap (λ p. coefficient p c.args.power) (sym c.self.view_is ∙ sym c.deref.ensures.value)
    ∙ ap (coefficient c.deref.result.now) (sym (to_z-of_z c.ranges.power)) ∙ found)
