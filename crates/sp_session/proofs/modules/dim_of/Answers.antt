use Rattle.std.proofs.Common.{rules, get_or, pos, sym, ◌∙◌, ap, SFits, to_z-of_z}
use Rattle.std.specs.Int.{w128}
use Rattle.sp_session.proofs.Labels.{dim_missing, place_found}
use Rattle.sp_session.proofs.modules.dim_of.Goals as goal

pub returns-in-Some : goal.returns-in-Some
returns-in-Some c =
    let dims = c.args.dims.now in
    let fits : SFits w128 (get_or dims c.in-Some.place (pos 0)) = search rules in
    to_z-of_z fits
    ∙ ap (λ k. get_or dims k (pos 0))
    (sym (place_found c.args.columns.now c.args.mu.now c.in-Some.place (sym c.place_in.ensures ∙ c.in-Some.is)).1)

pub returns-in-None : goal.returns-in-None
returns-in-None c =
    sym (dim_missing c.args.columns.now c.args.dims.now c.args.mu.now c.requires
    (sym c.place_in.ensures ∙ c.in-None.is))
