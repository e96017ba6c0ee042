-- What contracts see of cells and of a pass, this project's own.
use Rattle.std.specs.Prelude.{◌≡◌, ◌≢◌, ℕ, List, slice_get}
use Rattle.std.specs.declared.option.Option.{Option}
use Rattle.std.specs.declared.option.Option.TheVariants.{Some}
use Rattle.sp_core.specs.declared.piece.Key.{Key}

-- A table of cells: its key, and the names of the cells, in the order of the rows. No two cells have one name.
pub record CellTable : Type 0 where
  pub key : Key
  pub names : List ℕ

abbrev pub cell_table : Key → List ℕ → CellTable
cell_table key names = record { key = key; names = names }

-- A pass: the names of the cells that it is of, and the piece that it knows of each, if any.
pub record Known (T : Type 0) : Type 0 where
  pub names : List ℕ
  pub seen : List (Option T)

abbrev pub known : {T : Type 0} → List ℕ → List (Option T) → Known T
known names seen = record { names = names; seen = seen }

-- The pass is of these cells.
abbrev pub IsOf : {T : Type 0} → CellTable → Known T → Type 0
IsOf c p = p.names ≡ c.names

-- The piece has the cells' key and this number.
abbrev pub IsRow : {T : Type 0} → (T → Key) → (T → ℕ) → CellTable → ℕ → T → Type 0
IsRow key number c k x = (key x ≡ c.key) × (number x ≡ k)

-- The note of cell k knows this piece.
abbrev pub Knows : {T : Type 0} → Known T → ℕ → T → Type 0
Knows p k x = slice_get p.seen k ≡ Some (Some x)

-- After a call at cell k the pass is of the same cells, knows of the others what it knew, and of cell k no less.
pub record Looks {T : Type 0} (old new : Known T) (k : ℕ) : Type 0 where
  pub names : new.names ≡ old.names
  pub others : (i : ℕ) → i ≢ k → slice_get new.seen i ≡ slice_get old.seen i
  pub kept : (y : T) → Knows old k y → Knows new k y
