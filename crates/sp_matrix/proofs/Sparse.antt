-- Lines of a table, by their cells that aren't 0, column by column.
use Rattle.std.proofs.Common.{◌≡◌, ℕ, ◌+◌, ◌<◌, List, [], ◌∷◌, ◌++◌, map, length, take, get_or, Bor}
use Rattle.std.proofs.Common.{sym, ◌∙◌, ap, subst, arith}
use Rattle.std.proofs.lemmas.List.{append-nil, map-append}
use Rattle.sp_defs.specs.Laurent.{Laurent}
use Rattle.sp_defs.specs.Power.{FockVector, vector_of}
use Rattle.sp_fock.specs.Rows.{cells_at}
use Rattle.sp_fock_law.specs.Sparse.{Cells, IsSparse, spread}
use Rattle.sp_fock_law.proofs.Sparse.{IsSparseFrom-append, IsSparseFrom-wider, spread-append, spread-append_zero}
use Rattle.sp_matrix.specs.declared.scope.Form.{Form}
use Rattle.sp_matrix.specs.Scope.{shown}
use Rattle.sp_matrix.specs.Walk.{line_cells, vectors_of}
use Rattle.sp_matrix.proofs.Shown.{map_more}

-- The cells of a line with one column more, whose polynomial is p.
pub record HasNext (place : ℕ) (cells : Cells) (p : Laurent) (more : Cells) : Type 0 where
  pub sparse : IsSparse (place + 1) more
  pub row : spread (place + 1) more ≡ spread place cells ++ p ∷ []

module _ (place : ℕ) (cells : Cells) (h : IsSparse place cells) where
  with_cell : (p : Laurent) → HasNext place cells p (cells ++ cells_at place p)
  with_cell [] = subst (HasNext place cells []) (sym (append-nil cells)) (record {
    sparse = IsSparseFrom-wider 0 place (place + 1) cells (omega arith) h;
    row = spread-append_zero place cells h;
  })
  with_cell (t ∷ ts) = record {
    sparse = IsSparseFrom-append 0 place cells h place (t ∷ ts) (omega arith) (omega arith) (λ e. cc);
    row = spread-append place cells h (t ∷ ts);
  }

  -- A cell that isn't 0 goes to the end of the list, and for a 0 the list stays.
  pub pushed : (p : Laurent) (more : Cells) → more ≡ cells ++ cells_at place p → HasNext place cells p more
  pushed p more is = subst (HasNext place cells p) (sym is) (with_cell p)

module _ (rows : List (Bor FockVector)) (i : ℕ) (r : Bor FockVector) (lt : i < length rows)
    (at : r ≡ get_or rows i r) where
  -- A line has the cell of one row more.
  pub line_more : (form : Form) (lambda : List ℕ) →
      line_cells form (vectors_of (take (i + 1) rows)) lambda ≡
      line_cells form (vectors_of (take i rows)) lambda ++ shown form (vector_of r.now.entries lambda) ∷ []
  line_more form lambda =
      ap (λ vs. line_cells form vs lambda) (map_more (λ (b : Bor FockVector). b.now) rows i r lt at)
      ∙ map-append (λ (v : FockVector). shown form (vector_of v.entries lambda)) (vectors_of (take i rows)) (r.now ∷ [])

  -- The ends of one row more.
  pub ends_more :
      map (λ (v : FockVector). length v.entries) (vectors_of (take (i + 1) rows)) ≡
      map (λ (v : FockVector). length v.entries) (vectors_of (take i rows)) ++ length r.now.entries ∷ []
  ends_more =
      ap (map (λ (v : FockVector). length v.entries)) (map_more (λ (b : Bor FockVector). b.now) rows i r lt at)
      ∙ map-append (λ (v : FockVector). length v.entries) (vectors_of (take i rows)) (r.now ∷ [])
