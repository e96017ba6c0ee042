use Rattle.std.proofs.Common.{◌≡◌, ◌++◌, flat_map, take}
use Rattle.sp_session.specs.Modules.{label_line}
use Rattle.sp_session.proofs.modules.put_dims_lines.Given as goal

abbrev pub invariant-loop-label : goal.invariant-loop-label
invariant-loop-label l =
    l.out.items ≡ l.fn.out.items ++ flat_map (label_line l.convention l.columns l.dims) (take l.label-index l.labels)
