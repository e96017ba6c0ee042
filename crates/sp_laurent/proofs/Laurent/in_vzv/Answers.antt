use Rattle.std.proofs.Common.{rules, ◌≡◌, ◌<◌, length, refl, sym, ◌∙◌, ap, subst, pos, true, int_lt, to_z, of_z, w32}
use Rattle.std.proofs.Common.{to_z-of_z, SFits, get_or}
use Rattle.sp_defs.specs.Laurent.{IsPositive}
use Rattle.sp_algebra.proofs.Canonical.{canonical-from}
use Rattle.sp_algebra.proofs.Values.{first_decides, positive_nought}
use Rattle.sp_laurent.proofs.Laurent.in_vzv.Goals as goal

pub returns-in-Some : goal.returns-in-Some
returns-in-Some c =
    let p = c.self.inside.terms.items in
    let first = c.in-Some.first.now in
    let fits : SFits w32 first.0 = search rules in
    let some = subst (λ q. 0 < length q) c.deref.ensures.value c.in-Some.ensures.item.3.0 in
    let is = c.in-Some.ensures.item.1 ∙ ap (λ q. get_or q 0 first) c.deref.ensures.value in
    let power = to_z-of_z fits ∙ ap (λ t. t.0) is in
    let decides = first_decides p first (canonical-from p c.self.invariant.laurent) some in
    subst (λ q. (int_lt (pos 0) (to_z w32 (of_z w32 first.0)) ≡ true → IsPositive q) × (IsPositive q → int_lt (pos 0)
    (to_z w32 (of_z w32 first.0)) ≡ true))
    c.self.view_is
    (subst (λ k. (int_lt (pos 0) k ≡ true → IsPositive p) × (IsPositive p → int_lt (pos 0) k ≡ true))
    (sym power) decides)

pub returns-in-None : goal.returns-in-None
returns-in-None c =
    let p = c.deref.result.now in
    let positive = positive_nought p c.in-None.ensures.item.3 in
    ((λ _. subst IsPositive (c.deref.ensures.value ∙ c.self.view_is) positive), (λ _. refl))
