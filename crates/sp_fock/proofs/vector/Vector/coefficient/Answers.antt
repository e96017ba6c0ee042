use Rattle.std.proofs.Common.{rules, ◌≡◌, sym, ◌∙◌, ap, subst, Ok, Err, get_or}
use Rattle.std.specs.List.Sorted.{IsBinarySearchResult}
use Rattle.std.proofs.lemmas.Fn.{always_returns_same}
use Rattle.sp_defs.specs.Partition.{order}
use Rattle.sp_defs.specs.Power.{Entries}
use Rattle.sp_fock.specs.Held.{IsHeld}
use Rattle.sp_fock.proofs.Search.{found_value, found_nonzero, absent_value}
use Rattle.sp_fock.proofs.vector.Vector.coefficient.Goals as goal

pub returns-in-Ok-clause-none : goal.returns-in-Ok-clause-none
returns-in-Ok-clause-none c =
    let v = c.args.self.now in
    let held : IsHeld v = subst IsHeld c.self.view_is c.self.invariant in
    let es : Entries = c.deref.result.now in
    let same : es ≡ v.entries = c.deref.ensures.value ∙ ap (λ x. x.entries) c.self.view_is in
    let found : IsBinarySearchResult (λ t. order t.0 c.args.p.now) es (Ok c.in-Ok.place) =
    c.in-Ok.ensures.position (λ t. order t.0 c.args.p.now) (always_returns_same _ _ _ (λ a r g called. search rules)) in
    let nonzero =
    found_nonzero v held es same c.args.p.now c.in-Ok.place c.index.result.now c.in-Ok.ensures.bound found in
    ((λ none. cc), (λ e. absurd (nonzero e)))

pub returns-in-Ok-clause-some : goal.returns-in-Ok-clause-some
returns-in-Ok-clause-some c =
    let v = c.args.self.now in
    let held : IsHeld v = subst IsHeld c.self.view_is c.self.invariant in
    let es : Entries = c.deref.result.now in
    let same : es ≡ v.entries = c.deref.ensures.value ∙ ap (λ x. x.entries) c.self.view_is in
    let found : IsBinarySearchResult (λ t. order t.0 c.args.p.now) es (Ok c.in-Ok.place) =
    c.in-Ok.ensures.position (λ t. order t.0 c.args.p.now) (always_returns_same _ _ _ (λ a r g called. search rules)) in
    ap (λ t. t.1) c.index.ensures ∙ ap (λ xs. (get_or xs c.in-Ok.place c.index.result.now).1)
    (sym c.deref.ensures.value)
    ∙ found_value v held es same c.args.p.now c.in-Ok.place c.index.result.now c.in-Ok.ensures.bound found

pub returns-in-Err-clause-none : goal.returns-in-Err-clause-none
returns-in-Err-clause-none c =
    let v = c.args.self.now in
    let held : IsHeld v = subst IsHeld c.self.view_is c.self.invariant in
    let es : Entries = c.deref.result.now in
    let same : es ≡ v.entries = c.deref.ensures.value ∙ ap (λ x. x.entries) c.self.view_is in
    let found : IsBinarySearchResult (λ t. order t.0 c.args.p.now) es (Err c.in-Err.field-0) =
    c.in-Err.ensures.position (λ t. order t.0 c.args.p.now)
    (always_returns_same _ _ _ (λ a r g called. search rules)) in
    let value = absent_value v held es same c.args.p.now c.in-Err.field-0 c.in-Err.ensures.bound found in
    ((λ _. value), (λ _. search rules))
