-- What the definitions see of the marks of the code.
use Rattle.sp_defs.specs.Signature.{Letter, Addable as A, Removable as R, Mark as Marked}
use Rattle.sp_nodes.specs.declared.corners.Corner.{Corner}
use Rattle.sp_nodes.specs.declared.corners.Corner.TheVariants.{Addable, Removable}
use Rattle.sp_nodes.specs.declared.corners.Mark.{Mark}
use Rattle.sp_nodes.specs.Nodes.{pair}

abbrev pub letter : Corner → Letter
letter Addable = A
letter Removable = R

abbrev pub mark_of : Mark → Marked
mark_of mark = (letter mark.corner, pair mark.node)
