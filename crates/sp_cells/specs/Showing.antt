-- What `show` answers.
use Rattle.std.specs.Prelude.{◌≡◌, ℕ}
use Rattle.sp_core.specs.declared.piece.Key.{Key}
use Rattle.sp_cells.specs.declared.cells.Shown.{Shown}
use Rattle.sp_cells.specs.declared.cells.Shown.TheVariants.{Row, Strange}
use Rattle.sp_cells.specs.Known.{CellTable, Known, Knows, IsRow}

-- `Row` has a row that the pass then knows; `Strange` has a piece that it then knows, of another key or number.
abbrev pub IsShown : {T : Type 0} → (T → Key) → (T → ℕ) → CellTable → Known T → ℕ → Shown T → Type 0
IsShown key number c p k (Row r) = Knows p k r.now × IsRow key number c k r.now
IsShown key number c p k (Strange there) = Knows p k there.now × (IsRow key number c k there.now → ⊥)

-- It answers this row.
abbrev pub ShowsKnown : {T : Type 0} → T → Shown T → Type 0
ShowsKnown x (Row r) = r.now ≡ x
ShowsKnown x (Strange there) = ⊥

-- The piece is answered as a row exactly where it has this key and number.
abbrev pub IsSorted : {T : Type 0} → (T → Key) → (T → ℕ) → Key → ℕ → T → Shown T → Type 0
IsSorted key number e k x (Row r) = (r.now ≡ x) × (key x ≡ e) × (number x ≡ k)
IsSorted key number e k x (Strange there) = (there.now ≡ x) × ((key x ≡ e) × (number x ≡ k) → ⊥)
