use Rattle.std.proofs.Common.{rules, ◌≡◌, sym, ◌∙◌, ap, subst, Ok, Err, get_or}
use Rattle.std.specs.List.Sorted.{IsBinarySearchResult}
use Rattle.std.proofs.lemmas.Fn.{always_returns_same}
use Rattle.sp_defs.specs.Partition.{order}
use Rattle.sp_fock_law.specs.Tally.{Totals, IsTally}
use Rattle.sp_fock.proofs.Search.{total_found, total_absent}
use Rattle.sp_fock.proofs.tally.Tally.total.Goals as goal

pub returns-in-Ok : goal.returns-in-Ok
returns-in-Ok c =
    let tally : IsTally c.args.self.now = subst IsTally c.self.view_is c.self.invariant in
    let ts : Totals = c.deref.result.now in
    let same : ts ≡ c.args.self.now.totals = c.deref.ensures.value ∙ ap (λ t. t.totals) c.self.view_is in
    let found : IsBinarySearchResult (λ t. order t.0 c.args.p.now) ts (Ok c.in-Ok.place) =
    c.in-Ok.ensures.position (λ t. order t.0 c.args.p.now) (always_returns_same _ _ _ (λ a r g called. search rules)) in
    ap (λ t. t.1) c.index.ensures ∙ ap (λ xs. (get_or xs c.in-Ok.place c.index.result.now).1)
    (sym c.deref.ensures.value)
    ∙ total_found c.args.self.now tally ts same c.args.p.now c.in-Ok.place c.index.result.now c.in-Ok.ensures.bound
    found

pub returns-in-Err : goal.returns-in-Err
returns-in-Err c =
    let tally : IsTally c.args.self.now = subst IsTally c.self.view_is c.self.invariant in
    let ts : Totals = c.deref.result.now in
    let same : ts ≡ c.args.self.now.totals = c.deref.ensures.value ∙ ap (λ t. t.totals) c.self.view_is in
    let parted : IsBinarySearchResult (λ t. order t.0 c.args.p.now) ts (Err c.in-Err.field-0) =
    c.in-Err.ensures.position (λ t. order t.0 c.args.p.now)
    (always_returns_same _ _ _ (λ a r g called. search rules)) in
    total_absent c.args.self.now tally ts same c.args.p.now c.in-Err.field-0 parted
