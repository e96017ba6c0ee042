use Rattle.std.proofs.Common.{◌≡◌, List, ◌∙◌, ap, subst, MatchOption}
use Rattle.sp_core.specs.declared.machine.WorkerState.{WorkerState}
use Rattle.sp_core.specs.Machine.{World}
use Rattle.sp_core.specs.Law.{IsFirstLeastBusy, NoneBusy, NoneFree, IsLeastFree}
use Rattle.sp_core.proofs.Workers.{named_by_busy, named_by_free}
use Rattle.sp_core.proofs.state.State.can_go_on.Goals as goal

-- the slice that was searched is the state's list of workers
pub returns-in-Some : goal.returns-in-Some
returns-in-Some c =
    let workers = c.args.self.now.workers in
    let same : c.deref.result.now ≡ workers =
    c.deref.ensures.value ∙ ap (λ (s : World). s.workers) c.self.view_is in
    let found = subst (λ (l : List WorkerState). IsFirstLeastBusy l c.in-Some.w) same c.in-Some.ensures in
    let names = named_by_busy workers c.in-Some.w found in
    record { named = names.named; none = names.none }

pub returns-in-None : goal.returns-in-None
returns-in-None c =
    let workers = c.args.self.now.workers in
    let same : c.self.inside.workers.items ≡ workers = ap (λ (s : World). s.workers) c.self.view_is in
    let idle = subst (λ (l : List WorkerState). NoneBusy l) (c.deref.ensures.value ∙ same) c.in-None.ensures in
    let found : List WorkerState → Type 0 = λ l. MatchOption c.least_free.result (NoneFree l) (IsLeastFree l) in
    let free = subst found (c.deref-in-None.ensures.value ∙ same) c.least_free.ensures in
    let names = named_by_free workers c.least_free.result idle free in
    record { named = names.named; none = names.none }
