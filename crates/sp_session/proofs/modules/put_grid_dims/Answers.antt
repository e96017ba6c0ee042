use Rattle.std.proofs.Common.{◌++◌, ◌∙◌, ap, Err}
use Rattle.std.proofs.Common.{flat_map}
use Rattle.std.proofs.lemmas.Result.{on_ok_weaker}
use Rattle.sp_session.specs.Modules.{label_line}
use Rattle.sp_session.proofs.SimpleDims.{fault_told, past_text, solved_text, within_text}
use Rattle.sp_session.proofs.modules.put_grid_dims.Goals as goal

pub returns-in-Ok-clause-text : goal.returns-in-Ok-clause-text
returns-in-Ok-clause-text c =
    let g = c.args.grid.now in
    let labels = c.args.labels.now in
    on_ok_weaker c.put_grid_dims_lines.result
    (λ is. is
    ∙ ap (λ dims. c.args.out.now.items ++ flat_map (label_line c.args.convention g.columns dims) labels)
    c.deref.ensures.value
    ∙ ap (λ text. c.args.out.now.items ++ text)
    (within_text c.args.limit c.args.convention labels g c.degree-held.ensures.grid c.requires.triangular
    c.in-Ok.dims.items c.in-Ok.ensures.dims))
    c.put_grid_dims_lines.ensures

pub returns-in-Err-clause-text : goal.returns-in-Err-clause-text
returns-in-Err-clause-text c =
    fault_told c.put_dims_fault.result c.args.convention c.in-Err.fault _ _ _ c.put_dims_fault.ensures.line
    c.put_dims_fault.ensures.memory
    (λ at is. past_text c.args.limit c.args.convention c.args.labels.now c.args.grid.now c.degree-held.ensures.grid
    c.requires.triangular at (c.in-Err.ensures.too_large at (ap Err is)))

pub returns-in-Ok-clause-solved : goal.returns-in-Ok-clause-solved
returns-in-Ok-clause-solved c =
    on_ok_weaker c.put_grid_dims_lines.result
    (λ is. solved_text c.args.limit c.args.convention c.args.labels.now c.args.grid.now c.degree-held.ensures.grid
    c.requires.triangular)
    c.put_grid_dims_lines.ensures

pub returns-in-Err-clause-solved : goal.returns-in-Err-clause-solved
returns-in-Err-clause-solved c =
    on_ok_weaker c.put_dims_fault.result
    (λ is. solved_text c.args.limit c.args.convention c.args.labels.now c.args.grid.now c.degree-held.ensures.grid
    c.requires.triangular)
    c.put_dims_fault.ensures.line
