use Rattle.std.proofs.Common.{◌≡◌, ◌≤◌, sym, ◌∙◌, ap, ap₂, subst}
use Rattle.std.specs.List.{AllByRecursion}
use Rattle.sp_defs.specs.Laurent.{negate}
use Rattle.sp_defs.specs.Within.{ProductWithin}
use Rattle.sp_shapes.proofs.Order.{all_mono}
use Rattle.sp_fock_law.specs.Addition.{scaled_sum, scaled_sum_weight}
use Rattle.sp_fock_law.specs.Joined.{joined}
use Rattle.sp_fock_law.specs.Tally.{IsTally, constants}
use Rattle.sp_fock_law.proofs.Tally.{within_negate, smaller_weight}
use Rattle.sp_laurent.specs.Held.{power_limit}
use Rattle.sp_fock.specs.Growth.{grown_along}
use Rattle.sp_fock.proofs.Adding.{fit_moved}
use Rattle.sp_fock.proofs.Tallies.{fits_exactly, left_tally, left_kept}
use Rattle.sp_fock.proofs.tally.Tally.left.Goals as goal

pub grown_totals-requires-clause-fits : goal.grown_totals-requires-clause-fits
grown_totals-requires-clause-fits c =
    let t = c.args.self in
    let w = c.args.w.now in
    let limit = c.args.limit in
    let tested = fits_exactly t (subst IsTally c.self.view_is c.self.invariant) c.args.a.now w c.pairs.ensures.held
    c.requires.one_degree limit in
    let walk : joined (constants c.deref.result.now) c.pairs.result.now ≡ joined (constants t.totals) w.entries =
    ap₂ (λ ts es. joined (constants ts) es) (c.deref.ensures.value ∙ ap (λ x. x.totals) c.self.view_is)
    c.pairs.ensures.value in
    fit_moved limit _ _ _ _ (sym c.size.ensures.value) (sym walk) (tested.0 c.requires.fits)

pub plus_scaled-requires-clause-within : goal.plus_scaled-requires-clause-within
plus_scaled-requires-clause-within c =
    let a = c.args.a.now in
    let w = c.args.w.now in
    subst (λ p. AllByRecursion (λ t. ProductWithin power_limit p t.1) w.entries) (sym c.in_ok-negated.ensures)
    (all_mono (λ t. ProductWithin power_limit a t.1) (λ t. ProductWithin power_limit (negate a) t.1) w.entries
    (λ t h. within_negate power_limit a t.1 c.size.ensures.held.laurent h) c.requires.within)

pub plus_scaled-requires-clause-fits : goal.plus_scaled-requires-clause-fits
plus_scaled-requires-clause-fits c =
    let t = c.args.self in
    let a = c.args.a.now in
    let w = c.args.w.now in
    let same : scaled_sum_weight c.self.inside.vector c.in_ok-negated.negated w
    ≡ scaled_sum_weight t.vector (negate a) w =
    ap₂ (λ v p. scaled_sum_weight v p w) (ap (λ x. x.vector) c.self.view_is) c.in_ok-negated.ensures in
    subst (λ n. n ≤ c.args.limit) (sym same)
    (smaller_weight t (subst IsTally c.self.view_is c.self.invariant) a w c.args.limit c.requires.fits)

pub invariant_of-result : goal.invariant_of-result
invariant_of-result c =
    let t = c.args.self in
    let w = c.args.w.now in
    let tally = subst IsTally c.self.view_is c.self.invariant in
    let walk : joined (constants c.deref.result.now) c.pairs.result.now ≡ joined (constants t.totals) w.entries =
    ap₂ (λ ts es. joined (constants ts) es) (c.deref.ensures.value ∙ ap (λ x. x.totals) c.self.view_is)
    c.pairs.ensures.value in
    left_kept t tally c.args.a.now w c.pairs.ensures.held c.requires.one_degree c.in_ok-left.left
    c.in_ok-grown.grown.items
    (c.in_ok-left.ensures.sum ∙ ap₂ (λ v p. scaled_sum v p w) (ap (λ x. x.vector) c.self.view_is)
    c.in_ok-negated.ensures) (c.in_ok-grown.ensures ∙ ap₂ grown_along c.size.ensures.value walk) c.args.limit
    c.requires.most
    ((fits_exactly t tally c.args.a.now w c.pairs.ensures.held c.requires.one_degree c.args.limit).0 c.requires.fits)

pub returns-clause-left : goal.returns-clause-left
returns-clause-left c =
    let t = c.args.self in
    let w = c.args.w.now in
    let tally = subst IsTally c.self.view_is c.self.invariant in
    let walk : joined (constants c.deref.result.now) c.pairs.result.now ≡ joined (constants t.totals) w.entries =
    ap₂ (λ ts es. joined (constants ts) es) (c.deref.ensures.value ∙ ap (λ x. x.totals) c.self.view_is)
    c.pairs.ensures.value in
    left_tally t tally c.args.a.now w c.pairs.ensures.held c.requires.one_degree c.in_ok-left.left
    c.in_ok-grown.grown.items
    (c.in_ok-left.ensures.sum ∙ ap₂ (λ v p. scaled_sum v p w) (ap (λ x. x.vector) c.self.view_is)
    c.in_ok-negated.ensures) (c.in_ok-grown.ensures ∙ ap₂ grown_along c.size.ensures.value walk)
