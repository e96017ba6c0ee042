use Rattle.std.proofs.Common.{◌∙◌, ap, nat_eq}
use Rattle.std.specs.Cmp.Lexicographic.{pointwise}
use Rattle.std.specs.List.{position}
use Rattle.std.specs.Option.{unwrap_or}
use Rattle.sp_module_defs.proofs.Places.{found_place}
use Rattle.sp_dims.proofs.simple.line_of.Goals as goal

pub returns-clause-place : goal.returns-clause-place
returns-clause-place c =
    c.unwrap_or.ensures
    ∙ ap (λ r. unwrap_or r 0)
    (c.place_in.ensures
    ∙ ap (position (λ line. pointwise nat_eq line c.args.column.now)) c.lines.ensures.value
    ∙ found_place c.args.grid.now.lines c.args.column.now c.requires)
