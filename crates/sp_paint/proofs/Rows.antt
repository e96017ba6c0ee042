-- The texts of a grid's lines, one after the other.
use Rattle.std.proofs.Common.{◌≡◌, ℕ, ◌+◌, ◌<◌, ◌≤◌, List, [], ◌∷◌, ◌++◌, flat_map, drop, length, get_or}
use Rattle.std.proofs.Common.{sym, ◌∙◌, ap, append_assoc, append-nil, arith}
use Rattle.std.specs.List.{zip}
use Rattle.std.proofs.lemmas.List.{drop_all, drop_more, get_or_default}
use Rattle.std.proofs.lemmas.Slice.Zip.{get_or-zip, length-zip}
use Rattle.sp_defs.specs.Laurent.{Laurent}
use Rattle.sp_fock_law.specs.Grid.{GridValue, IsGrid, row_of}
use Rattle.sp_paint.specs.Page.{rows_of}

module _ (g : GridValue) (grid : IsGrid g) (lines : List (List ℕ)) (same : lines ≡ g.lines) (i : ℕ) where
  as_long : length lines ≡ length g.cells
  as_long = ap length same ∙ sym grid.height

  -- A place of a line is a place of a row of cells.
  pub within : i < length lines → i < length g.cells
  within lt = omega (arith, as_long)

  -- The cells that the grid lends at such a place are the element in this place.
  pub row_at : (row : List Laurent) → i < length lines → row ≡ row_of g i → row ≡ get_or g.cells i row
  row_at row lt is = is ∙ get_or_default g.cells i [] row (within lt)

  rows-drop : (line : List ℕ) → i < length lines → line ≡ get_or lines i line →
      drop i (rows_of g) ≡ (line, row_of g i) ∷ drop (i + 1) (rows_of g)
  rows-drop line lt is =
      ap (λ ls. drop i (zip ls g.cells)) (sym same)
      ∙ drop_more (zip lines g.cells) i (line, []) (omega (arith, as_long, length-zip lines g.cells))
      ∙ ap (λ row. row ∷ drop (i + 1) (zip lines g.cells))
      (get_or-zip lines g.cells i (line, []) lt (within lt) ∙ ap (λ l. (l, row_of g i)) (sym is))
      ∙ ap (λ ls. (line, row_of g i) ∷ drop (i + 1) (zip ls g.cells)) same

  module _ (text : List ℕ × List Laurent → List ℕ) (before whole : List ℕ)
      (h : before ++ flat_map text (drop i (rows_of g)) ≡ whole) where
    -- What is missing of the whole text is less by one line, once the text of that line is appended.
    pub written_row : (line : List ℕ) (cells : List Laurent) (now : List ℕ) → i < length lines →
        line ≡ get_or lines i line → cells ≡ row_of g i → now ≡ before ++ text (line, cells) →
        now ++ flat_map text (drop (i + 1) (rows_of g)) ≡ whole
    written_row line cells now lt is row e =
        ap (λ t. t ++ flat_map text (drop (i + 1) (rows_of g))) (e ∙ ap (λ cs. before ++ text (line, cs)) row)
        ∙ append_assoc before (text (line, row_of g i)) (flat_map text (drop (i + 1) (rows_of g)))
        ∙ ap (λ rows. before ++ flat_map text rows) (sym (rows-drop line lt is)) ∙ h

    -- After the last line nothing is missing.
    pub written_rows : length lines ≤ i → before ≡ whole
    written_rows le =
        sym (append-nil before)
        ∙ ap (λ rows. before ++ flat_map text rows)
        (sym (ap (λ ls. drop i (zip ls g.cells)) (sym same)
        ∙ drop_all i (zip lines g.cells) (omega (arith, as_long, length-zip lines g.cells)))) ∙ h
