-- Where partitions stand in a list, and the cells of a grid along one line.
use Rattle.std.proofs.Common.{◌≡◌, ℕ, suc, ◌+◌, ◌<◌, ◌≤◌, Bool, true, false, cond, not, nat_eq, List, [], ◌∷◌, ◌++◌}
use Rattle.std.proofs.Common.{map, length, reverse, get_or, refl, sym, ◌∙◌, ap, ap₂, subst, arith, ◌⊎◌, inl, inr}
use Rattle.std.proofs.Common.{Some, None, lt-ltb}
use Rattle.std.proofs.lemmas.List.{get_or_past}
use Rattle.std.specs.List.{AllByRecursion, position}
use Rattle.std.specs.Cmp.Lexicographic.{pointwise, bytes_decides}
use Rattle.std.specs.declared.cmp.Ordering.TheVariants.{Equal, Greater}
use mathlib.Core.List.{reverse-cons}
use Rattle.sp_defs.specs.Partition.{compare, Ascending, IsEarlier}
use Rattle.sp_defs.specs.Laurent.{Laurent, one}
use Rattle.sp_lists.proofs.Elements.{all_left, all_right, le_or_lt, reverse_all}
use Rattle.sp_lists.proofs.Maps.{map-alike}
use Rattle.sp_lists.proofs.Places.{all_at, all_weaken}
use Rattle.sp_shapes.proofs.Order.{equal_self, later_than}
use Rattle.sp_fock_law.specs.Grid.{GridValue, IsGrid, row_of, cell_of}
use Rattle.sp_module_defs.specs.Cells.{place, cell_at}

-- ---- tables

-- a table from its parts
abbrev pub gridded : ℕ → List (List ℕ) → List (List ℕ) → List (List Laurent) → GridValue
gridded n columns lines cells = record { degree = n; columns = columns; lines = lines; cells = cells }

-- ---- lists that descend

-- Each of the partitions is greater than all after it.
abbrev pub Descends : List (List ℕ) → Type 0
Descends [] = Unit {0}
Descends (lambda ∷ rest) = AllByRecursion (λ mu. compare lambda mu ≡ Greater) rest × Descends rest

last_of : (ys : List (List ℕ)) (x : List ℕ) → Ascending (ys ++ x ∷ []) →
    AllByRecursion (λ y. IsEarlier y x) ys × Ascending ys
last_of [] x h = (tt, tt)
last_of (y ∷ ys) x (h, hs) =
    let rest = last_of ys x hs in
    (((all_right (IsEarlier y) ys (x ∷ []) h).0, rest.0), (all_left (IsEarlier y) ys (x ∷ []) h, rest.1))

-- Partitions descend whose reverse ascends.
pub descends : (xs : List (List ℕ)) → Ascending (reverse xs) → Descends xs
descends [] h = tt
descends (x ∷ xs) h =
    let rest = last_of (reverse xs) x (subst Ascending (reverse-cons x xs) h) in (
      all_weaken (λ y. IsEarlier y x) (λ y. compare x y ≡ Greater) xs (λ y e. later_than y x e)
          (reverse_all (λ y. IsEarlier y x) xs rest.0),
      descends xs rest.1,
    )

-- ---- places

place-head : (x : List ℕ) (xs : List (List ℕ)) → place (x ∷ xs) x ≡ 0
unfolding place
place-head x xs = ap (λ b. cond (not b) (1 + place xs x) 0) ((bytes_decides x x).1 refl)

place-later : (x mu : List ℕ) (xs : List (List ℕ)) → compare x mu ≡ Greater → place (x ∷ xs) mu ≡ suc (place xs mu)
unfolding place
place-later x mu xs h =
    ap (λ b. cond (not b) (1 + place xs mu) 0) (differ (pointwise nat_eq x mu) refl) ∙ next (place xs mu)
  where
    next : (n : ℕ) → 1 + n ≡ suc n
    next n = omega arith

    differ : (b : Bool) → pointwise nat_eq x mu ≡ b → pointwise nat_eq x mu ≡ false
    differ false e = e
    differ true e =
        let same : compare x mu ≡ Equal = ap (compare x) (sym ((bytes_decides x mu).0 e)) ∙ equal_self x in
        cc

-- A search for a partition that stands in a list finds its place.
pub found_place : (xs : List (List ℕ)) (x : List ℕ) → place xs x < length xs →
    position (λ y. pointwise nat_eq y x) xs ≡ Some (place xs x)
unfolding place
found_place xs x lt = ap (λ b. cond b (Some (place xs x)) None) (lt-ltb (place xs x) (length xs) lt)

-- ---- the cells of a line

-- Looked up by its column, each cell of a row is found.
row_found : (row : List Laurent) (xs : List (List ℕ)) → Descends xs → length row ≡ length xs →
    map (λ mu. get_or row (place xs mu) []) xs ≡ row
row_found [] [] h len = refl
row_found [] (x ∷ xs) h len = absurd (omega arith)
row_found (p ∷ row) [] h len = absurd (omega arith)
row_found (p ∷ row) (x ∷ xs) (below, h) len =
    ap₂ (λ y ys. y ∷ ys) (ap (λ k. get_or (p ∷ row) k []) (place-head x xs))
    (map-alike (λ mu. get_or (p ∷ row) (place (x ∷ xs) mu) []) (λ mu. get_or row (place xs mu) []) xs
    (all_weaken (λ mu. compare x mu ≡ Greater)
    (λ mu. get_or (p ∷ row) (place (x ∷ xs) mu) [] ≡ get_or row (place xs mu) []) xs
    (λ mu e. ap (λ k. get_or (p ∷ row) k []) (place-later x mu xs e)) below)
    ∙ row_found row xs h (omega arith))

-- The cells of a line, by their columns in order, are the grid's row at the line's place.
pub row_cells : (g : GridValue) (lambda : List ℕ) → IsGrid g → place g.lines lambda < length g.lines →
    map (cell_at g lambda) g.columns ≡ row_of g (place g.lines lambda)
unfolding cell_at
row_cells g lambda h lt =
    row_found (row_of g (place g.lines lambda)) g.columns (descends g.columns h.columns.descending)
    (all_at (λ row. length row ≡ length g.columns) g.cells (place g.lines lambda) [] h.width (omega (arith, h.height)))

-- A column with 1 at its own line is a line too.
pub column_is_line : (g : GridValue) (lambda : List ℕ) → IsGrid g → cell_at g lambda lambda ≡ one →
    place g.lines lambda < length g.lines
unfolding cell_at
column_is_line g lambda h e = settle (le_or_lt (length g.lines) (place g.lines lambda))
  where
    none : length g.lines ≤ place g.lines lambda → cell_of g (place g.lines lambda) (place g.columns lambda) ≡ []
    none le =
        ap (λ row. get_or row (place g.columns lambda) [])
        (get_or_past g.cells (place g.lines lambda) [] (omega (arith, h.height)))

    settle : (length g.lines ≤ place g.lines lambda) ⊎ (place g.lines lambda < length g.lines) →
        place g.lines lambda < length g.lines
    settle (inl le) = absurd (let n = none le in cc)
    settle (inr lt) = lt
