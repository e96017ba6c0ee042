-- Tables have 1 at each column's own line and 0 above it.
use Rattle.std.proofs.Common.{◌≡◌, ◌≢◌, ℕ, suc, ◌+◌, ◌≤◌, Bool, true, false, cond, not, List, [], ◌∷◌}
use Rattle.std.proofs.Common.{map, reverse, get_or, nat_eq, refl, sym, ◌∙◌, ap, arith, ◌⊎◌, inl, inr}
use Rattle.std.specs.List.{AllByRecursion}
use Rattle.std.specs.Ordering.{is_eq}
use Rattle.std.specs.Cmp.Lexicographic.{pointwise}
use Rattle.std.specs.declared.cmp.Ordering.TheVariants.{Greater}
use Rattle.sp_defs.specs.Partition.{partitions, regulars, compare, IsPartitionOf, IsRegularOf}
use Rattle.sp_defs.specs.Abacus.{core}
use Rattle.sp_defs.specs.Laurent.{one, int_sum}
use Rattle.sp_defs.specs.Row.{regular_row}
use Rattle.sp_defs.specs.Statements.{IsLabel}
use Rattle.sp_lists.proofs.Elements.{nil_or_not, all_filter, all_reverse}
use Rattle.sp_lists.proofs.Places.{all_weaken}
use Rattle.sp_lists.proofs.Occurrence.{Occurs, occurs_filter, occurs_reverse}
use Rattle.sp_shapes.proofs.Listing.{all_partitions, all_regulars, each_partition, each_regular}
use Rattle.sp_shapes.proofs.Order.{equal_self}
use Rattle.sp_partition.specs.OrderLaws.{equal_lists, lists_equal}
use Rattle.sp_row_law.proofs.RowsLaw.{rows_law}
use Rattle.sp_outcome_law.proofs.Earlier.{row_earlier}
use Rattle.sp_module_defs.specs.Agreement.{Cells}
use Rattle.sp_module_defs.specs.Cells.{place, cell_at}
use Rattle.sp_module_defs.specs.Cells.{IsSquareUnitriangular}
use Rattle.sp_matrix.specs.declared.scope.Scope.{Scope}
use Rattle.sp_matrix.specs.declared.scope.Scope.TheVariants.{All, Block}
use Rattle.sp_matrix.specs.declared.scope.Form.{Form}
use Rattle.sp_matrix.specs.declared.scope.Form.TheVariants.{Polynomial, Constant}
use Rattle.sp_matrix.specs.Matrix.{table, lines_of, columns_of}
use Rattle.sp_matrix.specs.Scope.{is_in, within, shown, cell_of, table_of}
use Rattle.sp_matrix.specs.Triangular.{IsUnitriangular}
use Rattle.sp_matrix.proofs.Shown.{shown_nought}

-- ---- cells by their line and column

differs : (x y : List ℕ) (b : Bool) → pointwise nat_eq y x ≡ b → x ≡ y → b ≡ true
differs x y b e same = sym e ∙ lists_equal y x (sym same)

-- In the list of images the place of an element has its image.
pub found : {Y : Type 0} (f : List ℕ → Y) (d : Y) (x : List ℕ) (xs : List (List ℕ)) → Occurs x xs →
    get_or (map f xs) (place xs x) d ≡ f x
unfolding place
found f d x [] o = absurd o
found f d x (y ∷ ys) o = tested (pointwise nat_eq y x) refl o (λ later. found f d x ys later)
  where
    tested : (b : Bool) → pointwise nat_eq y x ≡ b → Occurs x (y ∷ ys) →
        (Occurs x ys → get_or (map f ys) (place ys x) d ≡ f x) →
        get_or (f y ∷ map f ys) (cond (not b) (1 + place ys x) 0) d ≡ f x
    tested true e o ih = ap f (equal_lists y x e)
    tested false e (inl same) ih = let k = differs x y false e same in cc
    tested false e (inr o) ih = ap (λ k. get_or (f y ∷ map f ys) k d) next ∙ ih o
      where
        next : 1 + place ys x ≡ suc (place ys x)
        next = omega arith

-- The cell of a table at a line and a column that it has is that of the function.
pub cell_found : (n : ℕ) (columns lines : List (List ℕ)) (d : Cells) (lambda mu : List ℕ) → Occurs lambda lines →
    Occurs mu columns → cell_at (table n columns lines d) lambda mu ≡ d lambda mu
unfolding cell_at
cell_found n columns lines d lambda mu l m =
    ap (λ row. get_or row (place columns mu) []) (found (λ x. map (d x) columns) [] lambda lines l)
    ∙ found (d lambda) [] mu columns m

-- ---- what is within a scope

occurs_within : (e : ℕ) (s : Scope) (x : List ℕ) (xs : List (List ℕ)) → is_in e s x ≡ true → Occurs x xs →
    Occurs x (within e s (reverse xs))
unfolding within
occurs_within e All x xs is o = occurs_reverse x xs o
occurs_within e (Block kappa) x xs is o =
    occurs_filter (λ y. is_eq (compare (core e y) kappa)) x (reverse xs) is (occurs_reverse x xs o)

all_within : (e : ℕ) (s : Scope) (P : List ℕ → Type 0) (xs : List (List ℕ)) → AllByRecursion P xs →
    AllByRecursion (λ x. P x × (is_in e s x ≡ true)) (within e s (reverse xs))
unfolding within
all_within e All P xs h =
    all_weaken P (λ x. P x × (true ≡ true)) (reverse xs) (λ x p. (p, refl)) (all_reverse P xs h)
all_within e (Block kappa) P xs h =
    all_filter (λ x. P x × (is_eq (compare (core e x) kappa) ≡ true)) (λ y. is_eq (compare (core e y) kappa))
    (reverse xs)
    (all_weaken P
    (λ x. is_eq (compare (core e x) kappa) ≡ true → P x × (is_eq (compare (core e x) kappa) ≡ true)) (reverse xs)
    (λ x p is. (p, is)) (all_reverse P xs h))

-- ---- rows

shown_one : (form : Form) → shown form one ≡ one
unfolding int_sum
shown_one Polynomial = refl
shown_one Constant = refl

row_above : (e : ℕ) (lambda mu : List ℕ) (n : ℕ) → IsLabel e mu → IsPartitionOf n lambda →
    compare lambda mu ≡ Greater → regular_row e mu lambda ≡ []
row_above e lambda mu n h p above = settle (nil_or_not (regular_row e mu lambda))
  where
    other : lambda ≢ mu
    other same = let k = sym above ∙ ap (compare lambda) (sym same) ∙ equal_self lambda in cc

    settle : (regular_row e mu lambda ≡ []) ⊎ (regular_row e mu lambda ≢ []) → regular_row e mu lambda ≡ []
    settle (inl is) = is
    settle (inr ne) = absurd (let k = sym above ∙ row_earlier e mu h lambda p.partition ne other in cc)

module _ (e n : ℕ) (two : 2 ≤ e) (s : Scope) (form : Form) where
  abbrev columns : List (List ℕ)
  columns = within e s (columns_of e n)

  abbrev lines : List (List ℕ)
  lines = within e s (lines_of n)

  abbrev IsColumn : List ℕ → Type 0
  IsColumn mu = IsRegularOf e n mu × (is_in e s mu ≡ true)

  abbrev IsLine : List ℕ → Type 0
  IsLine lambda = IsPartitionOf n lambda × (is_in e s lambda ≡ true)

  label : (mu : List ℕ) → IsColumn mu → IsLabel e mu
  label mu (h, is) = record { e_least = two; partition = h.partition; regular = h.regular }

  line : (mu : List ℕ) → IsColumn mu → IsLine mu
  line mu (h, is) = (record { partition = h.partition; total = h.total }, is)

  all_columns : AllByRecursion IsColumn columns
  all_columns = all_within e s (IsRegularOf e n) (regulars e n) (all_regulars e n)

  all_lines : AllByRecursion IsLine lines
  all_lines = all_within e s (IsPartitionOf n) (partitions n) (all_partitions n)

  cell_is : (lambda mu : List ℕ) → IsLine lambda → IsColumn mu →
      cell_at (table_of e n s form) lambda mu ≡ shown form (regular_row e mu lambda)
  unfolding table_of
  cell_is lambda mu (p, l) (h, m) =
      cell_found n columns lines (cell_of e form) lambda mu
      (occurs_within e s lambda (partitions n) l (each_partition n lambda p.partition p.total))
      (occurs_within e s mu (regulars e n) m (each_regular e n mu h))

  own_is : (mu : List ℕ) → IsColumn mu → cell_at (table_of e n s form) mu mu ≡ one
  own_is mu h =
      cell_is mu mu (line mu h) h ∙ ap (shown form) (rows_law e mu (label mu h)).at_mu ∙ shown_one form

  above_is : (lambda mu : List ℕ) → IsLine lambda → IsColumn mu → compare lambda mu ≡ Greater →
      cell_at (table_of e n s form) lambda mu ≡ []
  above_is lambda mu l h above =
      cell_is lambda mu l h
      ∙ ap (shown form) (row_above e lambda mu n (label mu h) l.0 above)
      ∙ shown_nought form

  abbrev IsAbove : List (List ℕ) → List ℕ → Type 0
  IsAbove xs mu =
      AllByRecursion (λ lambda. compare lambda mu ≡ Greater → cell_at (table_of e n s form) lambda mu ≡ []) xs

  -- A table is unitriangular.
  pub triangular : IsUnitriangular (table_of e n s form)
  unfolding table_of
  triangular = record {
    own = all_weaken IsColumn (λ mu. cell_at (table_of e n s form) mu mu ≡ one) columns own_is all_columns;
    greater =
        all_weaken IsColumn (IsAbove lines) columns
        (λ mu h. all_weaken IsLine
        (λ lambda. compare lambda mu ≡ Greater → cell_at (table_of e n s form) lambda mu ≡ []) lines
        (λ lambda l. above_is lambda mu l h) all_lines) all_columns;
  }

  -- So is the square of its columns.
  pub square : IsSquareUnitriangular columns (cell_at (table_of e n s form))
  square = record {
    own = all_weaken IsColumn (λ mu. cell_at (table_of e n s form) mu mu ≡ one) columns own_is all_columns;
    greater =
        all_weaken IsColumn (IsAbove columns) columns
        (λ mu h. all_weaken IsColumn
        (λ lambda. compare lambda mu ≡ Greater → cell_at (table_of e n s form) lambda mu ≡ []) columns
        (λ lambda l. above_is lambda mu (line lambda l) h) all_columns) all_columns;
  }
