-- A vector has the powers of its entries.
use Rattle.std.proofs.Common.{sym, subst}
use Rattle.sp_defs.specs.Within.{PowersWithin}
use Rattle.sp_fock_law.proofs.Vectors.{vector_of-all}
use Rattle.sp_power.specs.Arrivals.{half_power_limit}
use Rattle.sp_sl2.proofs.Brought.{shown_is}
use Rattle.sp_sl2.proofs.shares.share.Goals as goal

pub returns-in-Addable-clause-powers : goal.returns-in-Addable-clause-powers
returns-in-Addable-clause-powers c =
    subst (PowersWithin half_power_limit)
    (sym (shown_is c.coefficient.result _ c.coefficient.ensures.none c.coefficient.ensures.some))
    (vector_of-all (PowersWithin half_power_limit) tt c.args.v.now.entries c.requires.powers _)
