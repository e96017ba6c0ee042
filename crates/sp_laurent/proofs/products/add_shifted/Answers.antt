-- To no terms they are appended; else it is the multiple of a term.
use Rattle.std.proofs.Common.{◌≡◌, ◌++◌, [], sym, ◌∙◌, ap, ap₂, arith, to_z-of_z}
use Rattle.std.proofs.lemmas.Bool.Decides.{nat_tests}
use Rattle.std.proofs.lemmas.List.{nil_from_length}
use Rattle.std.proofs.lemmas.Result.{on_ok_weaker}
use Rattle.sp_defs.specs.Laurent.{plus, power, times}
use Rattle.sp_algebra.proofs.Canonical.{shifted, shifted_is}
use Rattle.sp_algebra.proofs.Laws.{nought_plus, IsLaurent-times}
use Rattle.sp_laurent.proofs.products.add_shifted.Goals as goal

pub returns-then-is_empty : goal.returns-then-is_empty
returns-then-is_empty c =
    let k = c.args.power in
    let items = c.args.terms.now.items in
    let others = c.args.others.now in
    let none : items ≡ [] = nil_from_length items (grind (arith, nat_tests)) in
    let is : times (power k) others ≡ shifted k others = shifted_is k others c.requires.others_laurent in
    on_ok_weaker c.push_shifted.result
    (λ added.
    added ∙ ap₂ (λ xs j. xs ++ shifted j others) none (to_z-of_z c.ranges.power)
    ∙ sym is
    ∙ sym (ap (λ p. plus p (times (power k) others)) none
    ∙ nought_plus (times (power k) others) (IsLaurent-times (power k) others)))
    c.push_shifted.ensures
