use Rattle.std.proofs.Common.{◌≡◌, length, ◌-◌, ◌∙◌, ap}
use Rattle.std.specs.Option.{option_map}
use Rattle.std.specs.List.{slice_get}
use Rattle.sp_defs.specs.Signature.{last, good}
use Rattle.sp_nodes.specs.Nodes.{pair}
use Rattle.sp_good.proofs.Chosen.{last-mapped, good_removable, good_regular}
use Rattle.sp_good.proofs.signature.good.Goals as goal
use Rattle.sp_good.proofs.signature.good.Goals.{After-copied}

is_good : (c : After-copied) → option_map pair c.copied.result ≡ good c.args.e c.args.i c.args.p.now
is_good c =
    ap (option_map pair) (c.copied.ensures ∙ c.last.ensures.value
    ∙ ap (λ xs. slice_get xs (length xs - 1)) c.deref.ensures.0)
    ∙ last-mapped c.normal.result.items
    ∙ ap last c.normal.ensures

pub returns-clause-node : goal.returns-clause-node
returns-clause-node c = is_good c

pub returns-clause-removable : goal.returns-clause-removable
returns-clause-removable c =
    good_removable c.args.e c.requires.e_least c.args.i c.args.p.now c.degree.ensures.held.partition c.copied.result
    (is_good c)

pub returns-clause-regular : goal.returns-clause-regular
returns-clause-regular c =
    good_regular c.args.e c.requires.e_least c.args.i c.args.p.now c.degree.ensures.held.partition c.copied.result
    (is_good c)
