use Rattle.std.proofs.Common.{sym, subst}
use Rattle.std.specs.List.{AllByRecursion}
use Rattle.sp_defs.specs.Laurent.{one}
use Rattle.sp_defs.specs.Within.{ProductWithin}
use Rattle.sp_shapes.proofs.Order.{all_mono}
use Rattle.sp_fock_law.proofs.Single.{one_within}
use Rattle.sp_partition.specs.Held.{IsHeld as IsHeldPartition}
use Rattle.sp_laurent.specs.Held.{power_limit, IsHeld as IsHeldPolynomial}
use Rattle.sp_value_tests.proofs.vectors.subtract_once.Goals as goal

pub subtract-requires-clause-within : goal.subtract-requires-clause-within
subtract-requires-clause-within g c =
    let w = c.args.w.now in
    subst (λ p. AllByRecursion (λ t. ProductWithin power_limit p t.1) w.entries) (sym c.in_ok-one.ensures)
    (all_mono (λ t. IsHeldPartition t.0 × IsHeldPolynomial t.1) (λ t. ProductWithin power_limit one t.1) w.entries
    (λ t h. one_within power_limit t.1 h.1.powers) c.degree-2.ensures.held.pairs)
