use Rattle.std.proofs.Common.{rules, ◌++◌, ◌+◌, ◌*◌, ◌<◌, ◌^◌, map, reverse, pos, neg_ℤ, sym, ◌∙◌, ap, subst}
use Rattle.std.proofs.Common.{SFits, to_z-of_z}
use Rattle.std.specs.Int.{w128}
use Rattle.std.specs.Int.RustNames.{unsigned_abs}
use Rattle.sp_defs.specs.Laurent.{monomial, size}
use Rattle.sp_algebra.proofs.Canonical.{canonical-from}
use Rattle.sp_algebra.proofs.Coefficients.{Canonical, IsLaurent-canonical}
use Rattle.sp_algebra.proofs.Lifted.{IsSplitAtZero}
use Rattle.sp_laurent.specs.Held.{IsHeld}
use Rattle.sp_laurent.proofs.Merging.{canonical_right}
use Rattle.sp_laurent.proofs.Lower.{lower_lift, lower_sizes, lower_small, lower_within, lower_held}
use Rattle.sp_laurent.proofs.Laurent.lower_half.Goals as goal

pub split_first-constant-requires-clause-laurent : goal.split_first-constant-requires-clause-laurent
split_first-constant-requires-clause-laurent c =
    let below = c.split_below.result.0.now in
    let others = c.split_below.result.1.now in
    let parts = c.split_below.ensures.joined ∙ c.deref.ensures.value in
    IsLaurent-canonical others (canonical_right below others
    (subst Canonical (sym parts) (canonical-from _ c.self.invariant.laurent)))

pub returns : goal.returns
returns c =
    let p = c.args.self.now in
    let below = c.split_below.result.0.now in
    let constant = c.split_first-constant.result.0 in
    let above = c.split_first-constant.result.1.now in
    let held = subst IsHeld c.self.view_is c.self.invariant in
    let fits : SFits w128 constant = search rules in
    let back = sym (to_z-of_z fits) in
    let split : IsSplitAtZero p below constant above = record {
      parts = ap (λ q. below ++ q) c.split_first-constant.ensures.joined ∙ c.split_below.ensures.joined
          ∙ c.deref.ensures.value ∙ c.self.view_is;
      low = c.split_below.ensures.below;
      high = c.split_first-constant.ensures.above;
    } in
    record {
      lift = lower_lift p below constant above held split
          ∙ ap (λ a. (below ++ monomial (pos 0) a) ++ reverse (map (λ t. (neg_ℤ t.0, t.1)) below)) back;
      sizes = lower_sizes p below constant above held split ∙ ap (λ a. 2 * size below + unsigned_abs a) back;
      small = subst (λ a. size below + unsigned_abs a < 2 ^ 127) back (lower_small p below constant above held split);
      within = lower_within p below constant above held split;
      held = lower_held p below constant above held split;
    }
