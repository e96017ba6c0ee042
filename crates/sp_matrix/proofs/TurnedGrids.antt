-- Grids whose lines and columns were conjugated, and vectors and grids that were so twice.
use Rattle.std.proofs.Common.{◌≡◌, ℕ, zero, suc, ◌+◌, ◌<◌, Bool, true, false, cond, not, nat_eq, List, [], ◌∷◌, map}
use Rattle.std.proofs.Common.{length, get_or, refl, sym, ◌∙◌, ap, ap₂, subst, arith, Equal, Greater}
use Rattle.std.proofs.lemmas.List.{get_or-map, get_or_default, length-map, same_lists}
use mathlib.Core.List.{map-map}
use Rattle.std.specs.List.{AllByRecursion}
use Rattle.std.specs.Cmp.Lexicographic.{pointwise}
use Rattle.sp_defs.specs.Laurent.{Laurent}
use Rattle.sp_defs.specs.Partition.{IsPartition, IsPartitionOf, compare, conjugate}
use Rattle.sp_defs.specs.Power.{FockVector, IsVector, Vector, entries, vector_of}
use Rattle.std.specs.Global.{Vec}
use Rattle.sp_fock.specs.Cells.{sparse_grid, spread_rows}
use Rattle.sp_fock.specs.Held.{held_as}
use Rattle.sp_fock_law.proofs.Vectors.{entries-alike, entries-vector_of, vector_of-entries}
use Rattle.sp_fock_law.specs.Grid.{GridValue, IsGrid, IsHeading, cell_of, row_of}
use Rattle.sp_lists.proofs.Elements.{all_both, all_every, all_map}
use Rattle.sp_lists.proofs.Maps.{map-alike}
use Rattle.sp_lists.proofs.Occurrence.{Occurs, all_occur}
use Rattle.sp_lists.proofs.Places.{all_at, all_weaken}
use Rattle.sp_module_defs.proofs.Places.{Descends, descends, gridded, row_cells}
use Rattle.sp_module_defs.specs.Agreement.{Cells}
use Rattle.sp_module_defs.specs.Cells.{cell_at, place}
use Rattle.sp_partition.specs.OrderLaws.{equal_lists, lists_equal}
use Rattle.sp_shapes.proofs.Involution.{conjugate_twice}
use Rattle.sp_shapes.proofs.Order.{equal_self}
use Rattle.sp_matrix.specs.Conjugates.{conjugate_fock_vector, conjugate_grid, conjugate_vector, conjugates, with_place}
use Rattle.sp_matrix.specs.Matrix.{table}
use Rattle.sp_matrix.proofs.Conjugating.{conjugate_occurs, conjugate_of_degree, conjugates_from, conjugates_heading}
use Rattle.sp_matrix.proofs.Conjugating.{conjugates_twice}
use Rattle.sp_matrix.proofs.Lined.{place_below}
use Rattle.sp_matrix.proofs.Tables.{is_grid}
use Rattle.sp_matrix.proofs.Triangular.{cell_found}

-- ---- places in a descending list

apart : (x y : List ℕ) → compare x y ≡ Greater → pointwise nat_eq x y ≡ false
apart x y h = settle (pointwise nat_eq x y) refl
  where
    settle : (b : Bool) → pointwise nat_eq x y ≡ b → pointwise nat_eq x y ≡ false
    settle false e = e
    settle true e =
        let k : Greater ≡ Equal = sym h ∙ ap (compare x) (sym (equal_lists x y e)) ∙ equal_self x in
        cc

-- In a descending list each element stands at its place.
pub place_at : (xs : List (List ℕ)) → Descends xs → (k : ℕ) (d : List ℕ) → k < length xs →
    place xs (get_or xs k d) ≡ k
unfolding place
place_at [] down k d lt = absurd (omega arith)
place_at (x ∷ xs) (below, down) zero d lt = ap (λ b. cond (not b) (1 + place xs x) 0) (lists_equal x x refl)
place_at (x ∷ xs) (below, down) (suc k) d lt =
    ap₂ (λ b m. cond (not b) (1 + m) 0)
    (apart x (get_or xs k d) (all_at (λ z. compare x z ≡ Greater) xs k d below (omega arith)))
    (place_at xs down k d (omega arith))
    ∙ next k
  where
    next : (m : ℕ) → 1 + m ≡ suc m
    next m = omega arith

-- ---- the conjugate of a grid

-- It is a grid.
pub conjugate_is_grid : (g : GridValue) → IsGrid (conjugate_grid g)
unfolding conjugate_grid
conjugate_is_grid g =
    is_grid g.degree (conjugates g.degree g.columns) (conjugates g.degree g.lines)
    (λ lambda mu. cell_at g (conjugate lambda) (conjugate mu)) (conjugates_heading g.degree g.columns)
    (conjugates_heading g.degree g.lines)

-- The places of the conjugates are places of the list.
pub all_placed : (n : ℕ) (xs : List (List ℕ)) (ps : List (List ℕ × ℕ)) →
    ps ≡ map (with_place xs) (conjugates n xs) → AllByRecursion (λ t. t.1 < length xs) ps
all_placed n xs ps is =
    subst (AllByRecursion (λ t. t.1 < length xs)) (sym is)
    (all_map (λ t. t.1 < length xs) (with_place xs) (conjugates n xs)
    (all_weaken (λ x. IsPartitionOf n x × Occurs (conjugate x) xs) (λ x. place xs (conjugate x) < length xs)
    (conjugates n xs) (λ x h. place_below (conjugate x) xs h.1) (conjugates_from n xs)))

first_parts : (xs ys : List (List ℕ)) → map (λ t. t.0) (map (with_place xs) ys) ≡ ys
first_parts xs [] = refl
first_parts xs (y ∷ ys) = ap (λ zs. y ∷ zs) (first_parts xs ys)

-- The cells at the places of the conjugates are its cells.
pub turned_grid : (g : GridValue) (columns lines : List (List ℕ × ℕ)) (cells : List (List Laurent)) →
    columns ≡ map (with_place g.columns) (conjugates g.degree g.columns) →
    lines ≡ map (with_place g.lines) (conjugates g.degree g.lines) →
    cells ≡ map (λ line. map (λ column. cell_of g line.1 column.1) columns) lines →
    gridded g.degree (map (λ t. t.0) columns) (map (λ t. t.0) lines) cells ≡ conjugate_grid g
unfolding conjugate_grid cell_at
turned_grid g columns lines cells c l k =
    ap₂ (λ a b. gridded g.degree a b cells)
    (ap (map (λ t. t.0)) c ∙ first_parts g.columns new_columns)
    (ap (map (λ t. t.0)) l ∙ first_parts g.lines new_lines)
    ∙ ap (gridded g.degree new_columns new_lines) (k
    ∙ ap₂ (λ cs ls. map (λ line. map (λ column. cell_of g line.1 column.1) cs) ls) c l
    ∙ map-map (λ line. map (λ column. cell_of g line.1 column.1) (map (with_place g.columns) new_columns))
    (with_place g.lines) new_lines
    ∙ map-alike
    (λ lambda. map (λ column. cell_of g (place g.lines (conjugate lambda)) column.1)
    (map (with_place g.columns) new_columns))
    (λ lambda. map (λ mu. cell_at g (conjugate lambda) (conjugate mu)) new_columns) new_lines
    (all_every
    (λ lambda. map (λ column. cell_of g (place g.lines (conjugate lambda)) column.1)
    (map (with_place g.columns) new_columns)
    ≡ map (λ mu. cell_at g (conjugate lambda) (conjugate mu)) new_columns) new_lines
    (λ lambda. map-map (λ column. cell_of g (place g.lines (conjugate lambda)) column.1) (with_place g.columns)
    new_columns)))
  where
    new_columns : List (List ℕ)
    new_columns = conjugates g.degree g.columns

    new_lines : List (List ℕ)
    new_lines = conjugates g.degree g.lines

-- ---- tables

tables_alike : (n : ℕ) (columns lines : List (List ℕ)) (d f : Cells) →
    AllByRecursion (λ lambda. AllByRecursion (λ mu. d lambda mu ≡ f lambda mu) columns) lines →
    table n columns lines d ≡ table n columns lines f
tables_alike n columns lines d f same =
    ap (gridded n columns lines)
    (map-alike (λ lambda. map (d lambda) columns) (λ lambda. map (f lambda) columns) lines
    (all_weaken (λ lambda. AllByRecursion (λ mu. d lambda mu ≡ f lambda mu) columns)
    (λ lambda. map (d lambda) columns ≡ map (f lambda) columns) lines
    (λ lambda h. map-alike (d lambda) (f lambda) columns h) same))

-- A grid is the table of its own cells.
own_table : (g : GridValue) → IsGrid g → table g.degree g.columns g.lines (cell_at g) ≡ g
own_table g h =
    ap (gridded g.degree g.columns g.lines)
    (same_lists (map row g.lines) g.cells (length-map g.lines row ∙ sym h.height)
    (λ k d lt. at k d (subst (λ m. k < m) (length-map g.lines row) lt)))
  where
    row : List ℕ → List Laurent
    row lambda = map (cell_at g lambda) g.columns

    at : (k : ℕ) (d : List Laurent) → k < length g.lines → get_or (map row g.lines) k d ≡ get_or g.cells k d
    at k d lt =
        let own : place g.lines (get_or g.lines k []) ≡ k =
        place_at g.lines (descends g.lines h.lines.descending) k [] lt in
        get_or-map row g.lines k [] d lt
        ∙ row_cells g (get_or g.lines k []) h (subst (λ m. m < length g.lines) (sym own) lt)
        ∙ ap (row_of g) own
        ∙ get_or_default g.cells k [] d (subst (λ m. k < m) (sym h.height) lt)

-- ---- twice

-- Each coefficient of a vector that was conjugated twice is what it was.
pub coefficients_twice : (w : Vector) (lambda : List ℕ) → IsPartition lambda →
    conjugate_vector (conjugate_vector w) lambda ≡ w lambda
coefficients_twice w lambda h = ap w (conjugate_twice lambda h)

-- A vector that was conjugated twice is what it was.
pub vectors_twice : (v : FockVector) → IsVector v.degree v.entries →
    conjugate_fock_vector (conjugate_fock_vector v) ≡ v
vectors_twice v h =
    ap (held_as v.degree)
    (entries-alike v.degree (conjugate_vector (vector_of (entries v.degree (conjugate_vector (vector_of v.entries)))))
    (vector_of v.entries) alike
    ∙ entries-vector_of v.degree v.entries h)
  where
    alike : (lambda : List ℕ) → IsPartitionOf v.degree lambda →
        vector_of (entries v.degree (conjugate_vector (vector_of v.entries))) (conjugate lambda)
        ≡ vector_of v.entries lambda
    alike lambda p =
        vector_of-entries v.degree (conjugate_vector (vector_of v.entries)) (conjugate lambda)
        (conjugate_of_degree v.degree lambda p)
        ∙ ap (vector_of v.entries) (conjugate_twice lambda p.partition)

-- A grid that was conjugated twice is what it was.
pub grids_twice : (g : GridValue) → IsGrid g → conjugate_grid (conjugate_grid g) ≡ g
unfolding conjugate_grid
grids_twice g h =
    ap₂ (λ columns lines. table n columns lines again) (conjugates_twice n g.columns h.columns)
    (conjugates_twice n g.lines h.lines)
    ∙ tables_alike n g.columns g.lines again (cell_at g)
    (all_weaken (λ lambda. IsPartitionOf n lambda × Occurs lambda g.lines)
    (λ lambda. AllByRecursion (λ mu. again lambda mu ≡ cell_at g lambda mu) g.columns) g.lines
    (λ lambda l. all_weaken (λ mu. IsPartitionOf n mu × Occurs mu g.columns)
    (λ mu. again lambda mu ≡ cell_at g lambda mu) g.columns (λ mu m. cell lambda mu l.0 l.1 m.0 m.1)
    (all_both (IsPartitionOf n) (λ mu. Occurs mu g.columns) g.columns h.columns.partitions_of (all_occur g.columns)))
    (all_both (IsPartitionOf n) (λ lambda. Occurs lambda g.lines) g.lines h.lines.partitions_of (all_occur g.lines)))
    ∙ own_table g h
  where
    n : ℕ
    n = g.degree

    turned : Cells
    turned lambda mu = cell_at g (conjugate lambda) (conjugate mu)

    again : Cells
    again lambda mu =
        cell_at (table n (conjugates n g.columns) (conjugates n g.lines) turned) (conjugate lambda) (conjugate mu)

    cell : (lambda mu : List ℕ) → IsPartitionOf n lambda → Occurs lambda g.lines → IsPartitionOf n mu →
        Occurs mu g.columns → again lambda mu ≡ cell_at g lambda mu
    cell lambda mu pl ol pm om =
        cell_found n (conjugates n g.columns) (conjugates n g.lines) turned (conjugate lambda) (conjugate mu)
        (conjugate_occurs n g.lines lambda pl ol) (conjugate_occurs n g.columns mu pm om)
        ∙ ap₂ (cell_at g) (conjugate_twice lambda pl.partition) (conjugate_twice mu pm.partition)

-- ---- as the code has them: headings and grids under names of their own

-- A heading is turned as its list is.
pub turned_heading : (n : ℕ) (now xs : List (List ℕ)) (ps : List (List ℕ × ℕ)) → now ≡ xs → IsHeading n xs →
    ((m : ℕ) → IsHeading m now → ps ≡ map (with_place now) (conjugates m now)) →
    ps ≡ map (with_place xs) (conjugates n xs)
turned_heading n now xs ps same h told =
    told n (subst (IsHeading n) (sym same) h) ∙ ap (λ ys. map (with_place ys) (conjugates n ys)) same

-- The headings and the cells that were made are those of the conjugate.
pub made_grid : (g : GridValue) (n : ℕ) (columns lines : List (List ℕ)) (cs ls read_cs read_ls : List (List ℕ × ℕ))
    (rows : List (Vec (ℕ × Laurent))) → n ≡ g.degree → columns ≡ map (λ t. t.0) cs → lines ≡ map (λ t. t.0) ls →
    cs ≡ map (with_place g.columns) (conjugates g.degree g.columns) →
    ls ≡ map (with_place g.lines) (conjugates g.degree g.lines) → read_cs ≡ cs → read_ls ≡ ls →
    spread_rows (length read_cs) rows ≡ map (λ line. map (λ column. cell_of g line.1 column.1) read_cs) read_ls →
    sparse_grid n columns lines rows ≡ conjugate_grid g
made_grid g n columns lines cs ls read_cs read_ls rows degree_is columns_are lines_are c l rc rl cells_are =
    ap (λ k. gridded k columns lines (spread_rows (length columns) rows)) degree_is
    ∙ ap₂ (λ a b. gridded g.degree a b (spread_rows (length a) rows)) columns_are lines_are
    ∙ ap (λ k. gridded g.degree (map (λ t. t.0) cs) (map (λ t. t.0) ls) (spread_rows k rows))
    (length-map cs (λ t. t.0))
    ∙ turned_grid g cs ls (spread_rows (length cs) rows) c l
    (ap (λ ts. spread_rows (length ts) rows) (sym rc)
    ∙ cells_are
    ∙ ap₂ (λ ts us. map (λ line. map (λ column. cell_of g line.1 column.1) ts) us) rc rl)
