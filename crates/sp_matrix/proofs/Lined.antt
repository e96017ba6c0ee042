-- A line of a matrix, column by column.
use Rattle.std.proofs.Common.{◌≡◌, ◌≢◌, ℕ, suc, ◌+◌, ◌*◌, ◌<◌, Bool, true, false, cond, not, nat_eq, nat_lt, max}
use Rattle.std.proofs.Common.{List, [], ◌∷◌, map, length, reverse, get_or, refl, sym, ◌∙◌, ap, subst, arith}
use Rattle.std.proofs.Common.{Result, Ok, Err, Option, ℤ, ◌*ℤ◌, inl, inr}
use Rattle.std.proofs.lemmas.List.{get_or-map}
use Rattle.std.specs.Int.RustNames.{unsigned_abs}
use mathlib.Core.List.{map-map}
use Rattle.std.proofs.lemmas.List.Folds.{list_any_at}
use Rattle.std.specs.List.{AllByRecursion, list_all, list_any, position}
use Rattle.std.specs.Option.{unwrap_or}
use Rattle.std.specs.Ordering.{int_eq}
use Rattle.std.specs.Cmp.Lexicographic.{pointwise}
use Rattle.sp_defs.specs.Partition.{degree, partitions, regulars, IsPartitionOf}
use Rattle.sp_defs.specs.Laurent.{Laurent, int_sum, value_at_one, slope_at_one}
use Rattle.sp_lists.proofs.Counts.{sum-map}
use Rattle.sp_lists.proofs.Elements.{all_map}
use Rattle.sp_lists.proofs.Places.{all_weaken}
use Rattle.sp_shapes.proofs.Listing.{each_partition, all_partitions}
use Rattle.sp_partition.specs.OrderLaws.{lists_equal}
use Rattle.sp_fock_law.specs.Grid.{GridValue, IsGrid, cell_of}
use Rattle.sp_fock_law.proofs.Vectors.{all_at as entries_keep}
use Rattle.sp_outcome_law.proofs.Exceeding.{greatest_past}
use Rattle.sp_lists.proofs.Maps.{any-map, list_all-reverse, list_any-reverse, map-alike}
use Rattle.sp_lists.proofs.Occurrence.{Occurs, occurs_reverse}
use Rattle.sp_module_defs.specs.Jantzen.{jantzen_sum}
use Rattle.sp_module_defs.specs.Agreement.{Cells, agrees, agreement_weight, jantzen_entries}
use Rattle.sp_module_defs.specs.Agreement.{jantzen_value, jantzen_size}
use Rattle.sp_module_defs.specs.Agreement.{slope_size}
use Rattle.sp_module_defs.specs.Cells.{place, cell_at}
use Rattle.sp_module_defs.proofs.Places.{row_cells, found_place}
use Rattle.sp_matrix.specs.declared.line.Term.{Term}
use Rattle.sp_matrix.specs.declared.comparison.CompareFault.{CompareFault}
use Rattle.sp_matrix.specs.declared.comparison.CompareFault.TheVariants as fault
use Rattle.sp_matrix.specs.Agreements.{HasAll, CellIs, LineIs, term_of, terms_of, products_at}

-- ---- every partition of the degree has its line

-- A partition that occurs has its place within the list.
pub place_below : (x : List ℕ) (xs : List (List ℕ)) → Occurs x xs → place xs x < length xs
unfolding place
place_below x [] o = absurd o
place_below x (y ∷ ys) o = tested (pointwise nat_eq y x) refl o (λ later. place_below x ys later)
  where
    tested : (b : Bool) → pointwise nat_eq y x ≡ b → Occurs x (y ∷ ys) →
        (Occurs x ys → place ys x < length ys) → cond (not b) (1 + place ys x) 0 < suc (length ys)
    tested true e o ih = omega arith
    tested false e (inl same) ih = let k : true ≡ false = sym (lists_equal y x (sym same)) ∙ e in cc
    tested false e (inr o) ih = omega (arith, ih o)

-- Each partition of the degree has its place among the lines.
pub line_place : (e : ℕ) (g : GridValue) (p : List ℕ) → HasAll e g → IsPartitionOf g.degree p →
    place g.lines p < length g.lines
line_place e g p all h =
    subst (λ xs. place xs p < length xs) (sym all.lines)
    (place_below p (reverse (partitions g.degree))
    (occurs_reverse p (partitions g.degree) (each_partition g.degree p h.partition h.total)))

-- So has each partition of a Jantzen sum.
pub entries_placed : (e : ℕ) (g : GridValue) (p : List ℕ) → HasAll e g → IsPartitionOf g.degree p →
    AllByRecursion (λ t. place g.lines t.0 < length g.lines) (jantzen_entries e p)
entries_placed e g p all h =
    entries_keep (λ t. place g.lines t.0 < length g.lines) (partitions (degree p)) (jantzen_sum e p)
    (all_weaken (IsPartitionOf (degree p)) (λ x. (jantzen_sum e p x ≢ []) → place g.lines x < length g.lines)
    (partitions (degree p))
    (λ x k ne. line_place e g x all (subst (λ n. IsPartitionOf n x) h.total k)) (all_partitions (degree p)))

-- So the terms name lines that are there.
pub terms_placed : (e : ℕ) (g : GridValue) (p : List ℕ) → HasAll e g → IsPartitionOf g.degree p →
    AllByRecursion (λ (t : Term). t.line < length g.lines) (terms_of e g p)
terms_placed e g p all h =
    all_map (λ (t : Term). t.line < length g.lines) (term_of g) (jantzen_entries e p) (entries_placed e g p all h)

-- ---- a column by its place

-- The cell in a place of a line is that at the partition of the column.
pub cell_at_place : (g : GridValue) (lambda : List ℕ) (j : ℕ) → IsGrid g → place g.lines lambda < length g.lines →
    j < length g.columns → cell_of g (place g.lines lambda) j ≡ cell_at g lambda (get_or g.columns j [])
cell_at_place g lambda j h line lt =
    ap (λ row. get_or row j []) (sym (row_cells g lambda h line))
    ∙ get_or-map (cell_at g lambda) g.columns j [] [] lt

-- the factors of the products at mu
abbrev pub factors_at : Cells → List ℕ → List ℕ × Laurent → ℤ × ℤ
factors_at d mu t = (value_at_one t.1, value_at_one (d t.0 mu))

-- The factors of the products in a column are the values of the Jantzen sum and of its column.
pub products_are : (e : ℕ) (g : GridValue) (p : List ℕ) (j : ℕ) → HasAll e g → IsGrid g → IsPartitionOf g.degree p →
    j < length g.columns →
    products_at g j (terms_of e g p) ≡ map (factors_at (cell_at g) (get_or g.columns j [])) (jantzen_entries e p)
products_are e g p j all h of lt =
    map-map (λ (t : Term). (t.coefficient, value_at_one (cell_of g t.line j))) (term_of g) (jantzen_entries e p)
    ∙ map-alike (λ t. (value_at_one t.1, value_at_one (cell_of g (place g.lines t.0) j)))
    (factors_at (cell_at g) (get_or g.columns j [])) (jantzen_entries e p)
    (all_weaken (λ t. place g.lines t.0 < length g.lines)
    (λ t. (value_at_one t.1, value_at_one (cell_of g (place g.lines t.0) j))
    ≡ factors_at (cell_at g) (get_or g.columns j []) t) (jantzen_entries e p)
    (λ t k. ap (λ q. (value_at_one t.1, value_at_one q)) (cell_at_place g t.0 j h k lt)) (entries_placed e g p all of))

-- The products sum up to the Jantzen sum in the column.
pub value_is : (e : ℕ) (d : Cells) (p mu : List ℕ) →
    slope_at_one (map (factors_at d mu) (jantzen_entries e p)) ≡ jantzen_value e d p mu
unfolding jantzen_value
value_is e d p mu = ap int_sum (map-map (λ (t : ℤ × ℤ). t.0 *ℤ t.1) (factors_at d mu) (jantzen_entries e p))

-- Their absolute values sum up to its size.
pub size_is : (e : ℕ) (d : Cells) (p mu : List ℕ) →
    slope_size (map (factors_at d mu) (jantzen_entries e p)) ≡ jantzen_size e d p mu
unfolding jantzen_size
size_is e d p mu =
    sum-map (λ (t : ℤ × ℤ). unsigned_abs t.0 * unsigned_abs t.1) (factors_at d mu) (jantzen_entries e p)

-- ---- one column

-- The line of p agrees in column mu.
abbrev pub agrees_at : ℕ → Cells → List ℕ → List ℕ → Bool
agrees_at e d p mu = int_eq (jantzen_value e d p mu) (slope_at_one (d p mu))

-- The line of p is too large in column mu.
abbrev pub past_at : ℕ → ℕ → Cells → List ℕ → List ℕ → Bool
past_at e limit d p mu = nat_lt limit (max (jantzen_size e d p mu) (slope_size (d p mu)))

-- what a column answers
abbrev pub ColumnIs : ℕ → ℕ → Cells → List ℕ → List ℕ → Result Bool CompareFault → Type 0
ColumnIs e limit d p mu (Ok b) = (past_at e limit d p mu ≡ false) × (b ≡ agrees_at e d p mu)
ColumnIs e limit d p mu (Err fault.TooLarge) = past_at e limit d p mu ≡ true
ColumnIs e limit d p mu (Err fault.Memory) = Unit {0}

by_factors : (e limit : ℕ) (d : Cells) (p mu : List ℕ) (r : Result Bool CompareFault) →
    CellIs limit (map (factors_at d mu) (jantzen_entries e p)) (d p mu) r → ColumnIs e limit d p mu r
by_factors e limit d p mu (Ok b) (past, is) = (
  sym (ap (λ s. nat_lt limit (max s (slope_size (d p mu)))) (size_is e d p mu)) ∙ past,
  is ∙ ap (λ s. int_eq s (slope_at_one (d p mu))) (value_is e d p mu),
)
by_factors e limit d p mu (Err fault.TooLarge) past =
    sym (ap (λ s. nat_lt limit (max s (slope_size (d p mu)))) (size_is e d p mu)) ∙ past
by_factors e limit d p mu (Err fault.Memory) u = tt

-- What a cell answers, by its factors, is what its column answers.
pub column_is : (e limit : ℕ) (g : GridValue) (p : List ℕ) (j line : ℕ) (terms : List Term)
    (r : Result Bool CompareFault) → HasAll e g → IsGrid g → IsPartitionOf g.degree p → j < length g.columns →
    terms ≡ terms_of e g p → line ≡ place g.lines p → CellIs limit (products_at g j terms) (cell_of g line j) r →
    ColumnIs e limit (cell_at g) p (get_or g.columns j []) r
column_is e limit g p j line terms r all h of lt t l is =
    by_factors e limit (cell_at g) p (get_or g.columns j []) r
    (subst (λ q. CellIs limit (map (factors_at (cell_at g) (get_or g.columns j [])) (jantzen_entries e p)) q r)
    (ap (λ k. cell_of g k j) l ∙ cell_at_place g p j h (line_place e g p all of) lt)
    (subst (λ ps. CellIs limit ps (cell_of g line j) r)
    (ap (products_at g j) t ∙ products_are e g p j all h of lt) is))

-- ---- all columns

module _ (e : ℕ) (g : GridValue) (p : List ℕ) (all : HasAll e g) (of : IsPartitionOf g.degree p) where
  abbrev d : Cells
  d = cell_at g

  columns_are : g.columns ≡ reverse (regulars e (degree p))
  columns_are = all.columns ∙ ap (λ n. reverse (regulars e n)) (sym of.total)

  -- The line agrees where it agrees in each column of the grid.
  pub agrees_is : list_all (agrees_at e d p) g.columns ≡ agrees e d p
  agrees_is = ap (list_all (agrees_at e d p)) columns_are ∙ list_all-reverse (agrees_at e d p) (regulars e (degree p))

  -- The line is too large where it is in some column of the grid.
  pub past_is : (limit : ℕ) → list_any (past_at e limit d p) g.columns ≡ nat_lt limit (agreement_weight e d p)
  past_is limit =
      ap (list_any (past_at e limit d p)) columns_are
      ∙ list_any-reverse (past_at e limit d p) (regulars e (degree p))
      ∙ sym (greatest_past limit (map (λ mu. max (jantzen_size e d p mu) (slope_size (d p mu))) (regulars e (degree p)))
      ∙ any-map (nat_lt limit) (λ mu. max (jantzen_size e d p mu) (slope_size (d p mu))) (regulars e (degree p)))

  -- a column that is past the limit
  pub fault_is : (limit j : ℕ) (f : CompareFault) → j < length g.columns →
      ColumnIs e limit d p (get_or g.columns j []) (Err f) → LineIs e limit d p (Err f)
  fault_is limit j fault.TooLarge lt past =
      sym (past_is limit) ∙ list_any_at (past_at e limit d p) g.columns j [] lt past
  fault_is limit j fault.Memory lt u = tt

-- where the line of p is
pub line_found : (g : GridValue) (p : List ℕ) (lines : List (List ℕ)) (o : Option ℕ) (k : ℕ) →
    place g.lines p < length g.lines → lines ≡ g.lines → o ≡ position (λ line. pointwise nat_eq line p) lines →
    k ≡ unwrap_or o 0 → k ≡ place g.lines p
line_found g p lines o k lt same is got =
    got
    ∙ ap (λ r. unwrap_or r 0)
    (is ∙ ap (position (λ line. pointwise nat_eq line p)) same ∙ found_place g.lines p lt)
