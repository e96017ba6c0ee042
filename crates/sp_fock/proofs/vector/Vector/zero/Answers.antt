use Rattle.std.proofs.Common.{sym, ◌∙◌, ap}
use Rattle.sp_fock.specs.Held.{held_as}
use Rattle.sp_fock_law.proofs.Single.{entries-nought}
use Rattle.sp_fock.proofs.vector.Vector.zero.Goals as goal

pub returns : goal.returns
returns c = ap (held_as c.args.degree) (c.new.ensures.items ∙ sym (entries-nought c.args.degree))
