-- What the rows give together, and the one mark of a row.
use Rattle.std.proofs.Common.{◌≡◌, ℕ, ◌+◌, ◌≤◌, Bool, true, false, cond, nat_eq, List, [], ◌∷◌, ◌++◌, filter, flat_map}
use Rattle.std.proofs.Common.{length, refl, sym, ◌∙◌, ap, ap₂, arith}
use Rattle.std.proofs.lemmas.Bool.Decides.{nat_tests}
use Rattle.sp_defs.specs.Partition.{part, from_one_to}
use Rattle.sp_defs.specs.Node.{Node, residue, is_addable, is_removable, addable, removable}
use Rattle.sp_defs.specs.Signature.{Addable, Removable, Mark, row_marks, signature}
use Rattle.sp_lists.proofs.FlatMaps.{filter_twice-map}
use Rattle.sp_shapes.proofs.CornerRows.{removable-rows}
use Rattle.sp_shapes.proofs.Residues.{right_differs}
use Rattle.sp_nodes.specs.Nodes.{of_residue}
use Rattle.sp_nodes.specs.Rows.{gained, lost}

-- ---- all rows

-- What all rows gain are the addable nodes of the residue.
pub gained_all : (e i : ℕ) (parts : List ℕ) →
    flat_map (gained e i parts) (from_one_to (length parts + 1)) ≡ of_residue e i (addable parts)
gained_all e i parts =
    sym (filter_twice-map (λ x. nat_eq (residue e x) i) (is_addable parts) (λ r. (r, part parts r + 1))
    (from_one_to (length parts + 1)))

-- What all rows lose are the removable ones.
pub lost_all : (e i : ℕ) (parts : List ℕ) →
    flat_map (lost e i parts) (from_one_to (length parts)) ≡ of_residue e i (removable parts)
lost_all e i parts =
    sym (ap (of_residue e i) (removable-rows parts)
    ∙ filter_twice-map (λ x. nat_eq (residue e x) i) (is_removable parts) (λ r. (r, part parts r))
    (from_one_to (length parts)))

-- The marks of all rows are the signature.
pub marks_all : (e i : ℕ) (parts : List ℕ) →
    flat_map (row_marks e i parts) (from_one_to (length parts + 1)) ≡ signature e i parts
unfolding signature
marks_all e i parts = refl

-- ---- one row

-- Of two nodes that never pass both, the first one does.
first_passes : (s : Node → Bool) (removes adds : Bool) (x y z : Node) → (s x ≡ true → s y ≡ false) →
    z ∷ [] ≡ filter s (cond removes (x ∷ []) []) →
    filter (λ (m : Mark). s m.1) (cond removes ((Removable, x) ∷ []) [] ++ cond adds ((Addable, y) ∷ []) [])
    ≡ (Removable, z) ∷ []
first_passes s false adds x y z apart is = cc
first_passes s true adds x y z apart is =
    by_test (s x) refl is
  where
    rest : List Mark
    rest = filter (λ (m : Mark). s m.1) (cond adds ((Addable, y) ∷ []) [])

    none : (b : Bool) → s y ≡ false → filter (λ (m : Mark). s m.1) (cond b ((Addable, y) ∷ []) []) ≡ []
    none true fails = ap (λ t. cond t ((Addable, y) ∷ []) []) fails
    none false fails = refl

    by_test : (b : Bool) → s x ≡ b → z ∷ [] ≡ cond b (x ∷ []) [] →
        cond b ((Removable, x) ∷ rest) rest ≡ (Removable, z) ∷ []
    by_test true passes same =
        let one : z ≡ x = cc in
        ap₂ (λ w ms. (Removable, w) ∷ ms) (sym one) (none adds (apart passes))
    by_test false fails same = cc

last_and_next : (e i : ℕ) (parts : List ℕ) (r : ℕ) → 2 ≤ e → nat_eq (residue e (r, part parts r)) i ≡ true →
    nat_eq (residue e (r, part parts r + 1)) i ≡ false
last_and_next e i parts r least same = let other = right_differs e r (part parts r) least in grind (arith, nat_tests)

-- A row that loses a node of the residue has that mark alone.
pub lost_mark : (e i : ℕ) (parts : List ℕ) (r : ℕ) (x : Node) → 2 ≤ e → x ∷ [] ≡ lost e i parts r →
    row_marks e i parts r ≡ (Removable, x) ∷ []
lost_mark e i parts r x least is =
    first_passes (λ x. nat_eq (residue e x) i)
    (is_removable parts (r, part parts r)) (is_addable parts (r, part parts r + 1))
    (r, part parts r) (r, part parts r + 1) x (last_and_next e i parts r least) is
