use Rattle.std.proofs.Common.{◌≡◌, map, ◌∙◌, ap}
use Rattle.std.specs.Option.{option_map}
use Rattle.sp_defs.specs.Signature.{reduced, addables, first, cogood}
use Rattle.sp_nodes.specs.Nodes.{pair}
use Rattle.sp_nodes.specs.Marks.{mark_of}
use Rattle.sp_good.proofs.Chosen.{cogood_addable, cogood_regular}
use Rattle.sp_good.proofs.signature.cogood.Goals as goal
use Rattle.sp_good.proofs.signature.cogood.Goals.{After-highest_addable_left}

is_cogood : (c : After-highest_addable_left) →
    option_map pair c.highest_addable_left.result ≡ cogood c.args.e c.args.i c.args.p.now
is_cogood c =
    c.highest_addable_left.ensures
    ∙ ap (λ marks. first (addables (reduced marks))) (ap (map mark_of) c.deref.ensures.0 ∙ c.marks.ensures)

pub returns-clause-addable : goal.returns-clause-addable
returns-clause-addable c =
    cogood_addable c.args.e c.requires.e_least c.args.i c.args.p.now c.degree.ensures.held.partition
    c.highest_addable_left.result (is_cogood c)

pub returns-clause-regular : goal.returns-clause-regular
returns-clause-regular c =
    cogood_regular c.args.e c.requires.e_least c.args.i c.args.p.now c.degree.ensures.held.partition
    c.highest_addable_left.result (is_cogood c)
