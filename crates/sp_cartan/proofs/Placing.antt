-- Where the columns of a grid stand among its lines.
use Rattle.std.proofs.Common.{◌≡◌, ℕ, zero, suc, ◌+◌, ◌<◌, ◌≤◌, Bool, true, false, cond, not, nat_eq, List, [], ◌∷◌}
use Rattle.std.proofs.Common.{length, get_or, refl, sym, ◌∙◌, ap, subst, arith, ◌⊎◌, inl, inr}
use Rattle.std.proofs.Common.{Some, None, nat_lt, ltb-true, ltb-false}
use Rattle.std.proofs.lemmas.List.{get_or-map, get_or_past}
use Rattle.std.specs.List.{position}
use Rattle.std.specs.Cmp.Lexicographic.{pointwise}
use Rattle.std.specs.declared.cmp.Ordering.TheVariants.{Less, Greater}
use Rattle.sp_defs.specs.Partition.{compare}
use Rattle.sp_lists.proofs.Elements.{le_or_lt}
use Rattle.sp_lists.proofs.Occurrence.{Occurs, all_occur}
use Rattle.sp_lists.proofs.Places.{all_at}
use Rattle.sp_shapes.proofs.Order.{earlier_than}
use Rattle.sp_partition.specs.OrderLaws.{equal_lists, lists_equal}
use Rattle.sp_fock_law.specs.Grid.{GridValue, IsGrid, cell_of, row_of}
use Rattle.sp_module_defs.specs.Cells.{place, cell_at}
use Rattle.sp_module_defs.proofs.Places.{Descends, descends, row_cells}
use Rattle.sp_cartan.specs.Square.{HasSquare}

-- ---- places in a list

-- At its place stands the partition.
pub at_place : (xs : List (List ℕ)) (x : List ℕ) → place xs x < length xs → get_or xs (place xs x) [] ≡ x
unfolding place
at_place [] x lt = absurd (omega arith)
at_place (y ∷ ys) x lt = tested (pointwise nat_eq y x) refl (λ below. at_place ys x below) lt
  where
    tested : (b : Bool) → pointwise nat_eq y x ≡ b → (place ys x < length ys → get_or ys (place ys x) [] ≡ x) →
        cond (not b) (1 + place ys x) 0 < suc (length ys) →
        get_or (y ∷ ys) (cond (not b) (1 + place ys x) 0) [] ≡ x
    tested true is later lt = equal_lists y x is
    tested false is later lt =
        ap (λ k. get_or (y ∷ ys) k []) {x = 1 + place ys x} {y = suc (place ys x)} (omega arith)
        ∙ later (omega (arith, lt))

-- Its place is the first at which it stands.
pub first_place : (xs : List (List ℕ)) (x : List ℕ) (k : ℕ) → k < length xs → get_or xs k [] ≡ x → place xs x ≤ k
unfolding place
first_place [] x k lt at = absurd (omega arith)
first_place (y ∷ ys) x zero lt at =
    subst (λ b. cond (not b) (1 + place ys x) 0 ≤ 0) (sym (lists_equal y x at)) (omega arith)
first_place (y ∷ ys) x (suc k) lt at = tested (pointwise nat_eq y x) (first_place ys x k (omega arith) at)
  where
    tested : (b : Bool) → place ys x ≤ k → cond (not b) (1 + place ys x) 0 ≤ suc k
    tested true le = omega arith
    tested false le = omega (arith, le)

-- A search that finds a partition finds its place.
pub found_at : (xs : List (List ℕ)) (x : List ℕ) (k : ℕ) → position (λ y. pointwise nat_eq y x) xs ≡ Some k →
    (place xs x < length xs) × (k ≡ place xs x)
unfolding place
found_at xs x k h = tested (nat_lt (place xs x) (length xs)) refl h
  where
    tested : (b : Bool) → nat_lt (place xs x) (length xs) ≡ b → cond b (Some (place xs x)) None ≡ Some k →
        (place xs x < length xs) × (k ≡ place xs x)
    tested true is h =
        let same : place xs x ≡ k = cc in (ltb-true (place xs x) (length xs) is, sym same)
    tested false is h = absurd (cc)

-- Where it finds nothing, the place is past the end.
pub not_found : (xs : List (List ℕ)) (x : List ℕ) → position (λ y. pointwise nat_eq y x) xs ≡ None →
    length xs ≤ place xs x
unfolding place
not_found xs x h = tested (nat_lt (place xs x) (length xs)) refl h
  where
    tested : (b : Bool) → nat_lt (place xs x) (length xs) ≡ b → cond b (Some (place xs x)) None ≡ None →
        length xs ≤ place xs x
    tested true is h = absurd (cc)
    tested false is h = ltb-false (place xs x) (length xs) is

-- A partition that has a place occurs.
pub placed_occurs : (xs : List (List ℕ)) (x : List ℕ) → place xs x < length xs → Occurs x xs
placed_occurs xs x lt =
    subst (λ y. Occurs y xs) (at_place xs x lt) (all_at (λ y. Occurs y xs) xs (place xs x) [] (all_occur xs) lt)

-- Of two places in a list that descends the first has the greater partition.
pub descends_at : (xs : List (List ℕ)) → Descends xs → (i j : ℕ) → i < j → j < length xs →
    compare (get_or xs i []) (get_or xs j []) ≡ Greater
descends_at [] h i j lt within = absurd (omega arith)
descends_at (x ∷ xs) h i zero lt within = absurd (omega arith)
descends_at (x ∷ xs) (below, h) zero (suc j) lt within =
    all_at (λ mu. compare x mu ≡ Greater) xs j [] below (omega arith)
descends_at (x ∷ xs) (below, h) (suc i) (suc j) lt within = descends_at xs h i j (omega arith) (omega arith)

-- ---- the lines that are columns

module _ (g : GridValue) (h : IsGrid g) where
  -- The cell at a line and the partition of a column.
  pub cell_along : (lambda : List ℕ) → place g.lines lambda < length g.lines → (k : ℕ) → k < length g.columns →
      cell_at g lambda (get_or g.columns k []) ≡ cell_of g (place g.lines lambda) k
  cell_along lambda line k lt =
      sym (get_or-map (cell_at g lambda) g.columns k [] [] lt)
      ∙ ap (λ row. get_or row k []) (row_cells g lambda h line)

  -- Behind the last column a line has 0.
  pub cell_behind : (line k : ℕ) → line < length g.lines → length g.columns ≤ k → cell_of g line k ≡ []
  cell_behind line k lt le =
      get_or_past (row_of g line) k []
      (omega (
        arith,
        le,
        all_at (λ row. length row ≡ length g.columns) g.cells line [] h.width
            (omega (arith, lt, h.height)),
      ))

  -- Behind the last line there is 0.
  pub cell_below : (line k : ℕ) → length g.lines ≤ line → cell_of g line k ≡ []
  cell_below line k le =
      ap (λ row. get_or row k []) (get_or_past g.cells line [] (omega (arith, le, h.height)))

  -- The line of a lesser column isn't before that of a greater one.
  pub lines_rise : HasSquare g → (i j : ℕ) → i < j → j < length g.columns →
      place g.lines (get_or g.columns i []) ≤ place g.lines (get_or g.columns j [])
  lines_rise square i j lt within = settle (le_or_lt (place g.lines a) (place g.lines b))
    where
      a : List ℕ
      a = get_or g.columns i []

      b : List ℕ
      b = get_or g.columns j []

      line : (k : ℕ) → k < length g.columns →
          place g.lines (get_or g.columns k []) < length g.lines
      line k under = all_at (λ mu. place g.lines mu < length g.lines) g.columns k [] square under

      falls : compare a b ≡ Greater
      falls = descends_at g.columns (descends g.columns h.columns.descending) i j lt within

      rises : place g.lines b < place g.lines a → compare b a ≡ Greater
      rises before =
          subst (λ x. compare x a ≡ Greater) (at_place g.lines b (line j within))
          (subst (λ x. compare (get_or g.lines (place g.lines b) []) x ≡ Greater)
          (at_place g.lines a (line i (omega (arith, lt, within))))
          (descends_at g.lines (descends g.lines h.lines.descending) (place g.lines b) (place g.lines a) before
          (line i (omega (arith, lt, within)))))

      settle : (place g.lines a ≤ place g.lines b) ⊎ (place g.lines b < place g.lines a) →
          place g.lines a ≤ place g.lines b
      settle (inl le) = le
      settle (inr before) =
          absurd (let no : Less ≡ Greater = sym (earlier_than a b falls) ∙ rises before in cc)
