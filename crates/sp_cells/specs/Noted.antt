-- What the notes of a pass come to.
use Rattle.std.specs.Prelude.{List, map}
use Rattle.std.specs.Option.{option_map}
use Rattle.std.specs.Arc.{arc_value}
use Rattle.std.specs.declared.option.Option.{Option}
use Rattle.std.specs.declared.sync.Arc.{Arc}
use Rattle.std.specs.declared.alloc.Global.{Global}
use Rattle.once_cell.specs.declared.race.note.Note.{Note}
use Rattle.sp_cells.specs.Known.{Known, known}

-- The piece that a note knows, whoever else holds it.
abbrev pub piece_of : {T : Type 0} → Option (Arc T Global) → Option T
piece_of o = option_map (λ a. arc_value a) o

-- The pass with these notes.
abbrev pub view_of : {T : Type 0} → List (Note (Arc T Global)) → Known T
view_of notes = known (map (λ n. n.cell) notes) (map (λ n. piece_of n.known) notes)
