-- One mark down a signature: what is left to choose from below it.
use Rattle.std.proofs.Common.{◌≡◌, ◌≢◌, ℕ, zero, suc, ◌+◌, ◌-◌, ◌<◌, ◌≤◌, true, List, [], ◌∷◌, ◌++◌, map, length, take}
use Rattle.std.proofs.Common.{drop, get_or}
use Rattle.std.proofs.Common.{append_assoc, append-nil, refl, sym, ◌∙◌, ap, ap₂, subst, arith, ℤ, pos, ◌+ℤ◌, ◌-ℤ◌, ◌⊎◌}
use Rattle.std.proofs.Common.{inl, inr}
use Rattle.sp_defs.specs.Partition.{part, degree}
use Rattle.sp_defs.specs.Node.{is_addable}
use Rattle.sp_defs.specs.Signature.{grow}
use Rattle.sp_lists.proofs.Elements.{le_or_lt}
use Rattle.sp_lists.proofs.Places.{rest-cons}
use Rattle.sp_shapes.proofs.Corners.{addable_row}
use Rattle.sp_shapes.proofs.Grow.{degree-grow}
use Rattle.sp_shapes.proofs.Regular.{index_short}
use Rattle.sp_nodes.specs.declared.corners.Corner.TheVariants.{Addable, Removable}
use Rattle.sp_nodes.specs.declared.corners.Mark.{Mark}
use Rattle.sp_nodes.specs.Nodes.{pair}
use Rattle.sp_nodes.specs.Marks.{letter, mark_of}
use Rattle.sp_power_law.specs.Walk.{Reached, moves_through, CanGrow}
use Rattle.sp_power_law.specs.Runs.{Arrival}
use Rattle.sp_power.specs.Arrivals.{arrive_from}
use Rattle.std.specs.Prelude.{Option, Some, None, SomeIff, IsSome}
use Rattle.std.proofs.Common.{w32, lit<, ◌^◌, ◌*◌}
use Rattle.std.proofs.lemmas.List.{map-append}
use Rattle.std.proofs.lemmas.Int.{ints, to_z-of_z, fits_signed_from_abs}
use Rattle.std.specs.Int.RustNames.{unsigned_abs}
use mir.Val.{to_z, of_z}

-- the first mark, and those below it, as code takes a slice apart
abbrev pub first_of : List Mark → Mark
first_of ms = get_or ms 0 (record { corner = Addable; node = record { row = 0; column = 0 } })

-- The marks below the first.
abbrev pub below : List Mark → List Mark
below ms = take (length ms - 1) (drop 1 ms)

-- ---- the moves

-- Where no node is left to choose, the way is one move.
pub moves-none_left : (ms : List Mark) (left : ℕ) (p : List ℕ) (d x : ℤ) → left ≡ 0 →
    moves_through (map mark_of ms) left p d x ≡ (p, x) ∷ []
unfolding moves_through
moves-none_left ms left p d x h = ap (λ n. moves_through (map mark_of ms) n p d x) h

-- Where a node is left and no mark, there is no move.
pub moves-no_marks : (ms : List Mark) (left : ℕ) (p : List ℕ) (d x : ℤ) → length ms < 1 → left ≢ 0 →
    moves_through (map mark_of ms) left p d x ≡ []
unfolding moves_through
moves-no_marks ms zero p d x short some = absurd (some refl)
moves-no_marks [] (suc left) p d x short some = refl
moves-no_marks (m ∷ ms) (suc left) p d x short some = absurd (omega arith)

-- at an addable node: those with it, and those without it
pub moves-addable : (ms : List Mark) (left : ℕ) (p : List ℕ) (d x : ℤ) → 1 ≤ length ms → left ≢ 0 →
    (first_of ms).corner ≡ Addable →
    moves_through (map mark_of ms) left p d x ≡ moves_through (map mark_of (below ms)) (left - 1)
    (grow ((first_of ms).node.row - 1) p) d (x +ℤ d) ++ moves_through (map mark_of (below ms)) left p
    (d +ℤ pos 1) x
unfolding moves_through
moves-addable ms zero p d x long some is = absurd (some refl)
moves-addable [] (suc left) p d x long some is = absurd (omega arith)
moves-addable (m ∷ ms) (suc left) p d x long some is =
    ap (λ c. moves_through ((letter c, pair m.node) ∷ map mark_of ms) (suc left) p d x) is
    ∙ ap₂ (λ l n. moves_through (map mark_of l) n (grow (m.node.row - 1) p) d (x +ℤ d) ++ moves_through
    (map mark_of l) (suc left) p (d +ℤ pos 1) x) (sym (rest-cons m ms)) (one_less left)
  where
    one_less : (n : ℕ) → n ≡ suc n - 1
    one_less n = omega arith

-- at a removable one: those below it
pub moves-removable : (ms : List Mark) (left : ℕ) (p : List ℕ) (d x : ℤ) → 1 ≤ length ms → left ≢ 0 →
    (first_of ms).corner ≡ Removable →
    moves_through (map mark_of ms) left p d x ≡ moves_through (map mark_of (below ms)) left p (d -ℤ pos 1) x
unfolding moves_through
moves-removable ms zero p d x long some is = absurd (some refl)
moves-removable [] (suc left) p d x long some is = absurd (omega arith)
moves-removable (m ∷ ms) (suc left) p d x long some is =
    ap (λ c. moves_through ((letter c, pair m.node) ∷ map mark_of ms) (suc left) p d x) is
    ∙ ap (λ l. moves_through (map mark_of l) (suc left) p (d -ℤ pos 1) x) (sym (rest-cons m ms))

-- the same moves, where a way is given by its parts
pub same_moves : (ms : List Mark) (left : ℕ) (p q : List ℕ) (d e x y : ℤ) → q ≡ p → e ≡ d → y ≡ x →
    moves_through (map mark_of ms) left p d x ≡ moves_through (map mark_of ms) left q e y
same_moves ms left p q d e x y same_p same_d same_x = cc

-- ---- what can be added

-- The addable node of the first mark can be added, and those below it, with it or without it.
pub record Growing (ms : List Mark) (p : List ℕ) : Type 0 where
  pub here : is_addable p ((first_of ms).node.row, part p (first_of ms).node.row + 1) ≡ true
  pub chosen : CanGrow (map mark_of (below ms)) (grow ((first_of ms).node.row - 1) p)
  pub passed : CanGrow (map mark_of (below ms)) p

-- This is so at an addable node.
pub grow-addable : (ms : List Mark) (p : List ℕ) → 1 ≤ length ms → (first_of ms).corner ≡ Addable →
    CanGrow (map mark_of ms) p → Growing ms p
grow-addable [] p long is h = absurd (omega arith)
grow-addable (m ∷ ms) p long is h =
    let g = subst (λ c. CanGrow ((letter c, pair m.node) ∷ map mark_of ms) p) is h in
    record {
      here = g.0;
      chosen = subst (λ l. CanGrow (map mark_of l) (grow (m.node.row - 1) p)) (sym (rest-cons m ms)) g.1;
      passed = subst (λ l. CanGrow (map mark_of l) p) (sym (rest-cons m ms)) g.2;
    }

-- At a removable node the marks below it can be added.
pub grow-removable : (ms : List Mark) (p : List ℕ) → 1 ≤ length ms → (first_of ms).corner ≡ Removable →
    CanGrow (map mark_of ms) p → CanGrow (map mark_of (below ms)) p
grow-removable [] p long is h = absurd (omega arith)
grow-removable (m ∷ ms) p long is h =
    subst (λ l. CanGrow (map mark_of l) p) (sym (rest-cons m ms))
    (subst (λ c. CanGrow ((letter c, pair m.node) ∷ map mark_of ms) p) is h)

-- ---- sizes

-- A node more makes the degree one more.
pub grown_degree : (p : List ℕ) (r : ℕ) → is_addable p (r, part p r + 1) ≡ true → degree (grow (r - 1) p) ≡ degree p + 1
grown_degree p r can = degree-grow p (r - 1) (near (le_or_lt r 1))
  where
    near : (r ≤ 1) ⊎ (1 < r) → r - 1 ≤ length p
    near (inl first) = omega arith
    near (inr more) =
        let room : part p r < part p (r - 1) = addable_row p r can more in
        let short : r - 1 - 1 < length p = index_short p (r - 1 - 1) (omega arith) in
        omega arith

-- Below the first mark is one mark less.
pub length-below : (ms : List Mark) → 1 ≤ length ms → length (below ms) + 1 ≡ length ms
length-below [] long = absurd (omega arith)
length-below (m ∷ ms) long = omega (arith, ap length (rest-cons m ms))

-- The exponent has room for the differences at the nodes that are left.
pub exponent_room : (x d y : ℤ) (left n : ℕ) → y ≡ x +ℤ d → unsigned_abs d + n ≤ 33 →
    unsigned_abs x + left * 33 ≤ 2000 → left ≢ 0 → unsigned_abs y + (left - 1) * 33 ≤ 2000
exponent_room x d y left n e h k some = omega (arith, ints)

-- ---- what was added

-- Nothing is added where there is no move.
pub arrivals-none : (old : List Arrival) (source : ℕ) (xs : List Reached) → xs ≡ [] →
    old ≡ old ++ map (arrive_from source) xs
arrivals-none old source xs h = sym (append-nil old) ∙ ap (λ l. old ++ map (arrive_from source) l) (sym h)

-- What is added one after the other is added as a whole.
pub arrivals-both : (old new last : List Arrival) (source : ℕ) (xs ys zs : List Reached) →
    new ≡ old ++ map (arrive_from source) xs → last ≡ new ++ map (arrive_from source) ys → zs ≡ xs ++ ys →
    last ≡ old ++ map (arrive_from source) zs
arrivals-both old new last source xs ys zs h k e =
    k ∙ ap (λ l. l ++ map (arrive_from source) ys) h
    ∙ append_assoc old (map (arrive_from source) xs) (map (arrive_from source) ys)
    ∙ ap (λ l. old ++ l) (sym (map-append (arrive_from source) xs ys))
    ∙ ap (λ l. old ++ map (arrive_from source) l) (sym e)

-- an exponent in the type of the code
pub read_exponent : (x : ℤ) → unsigned_abs x ≤ 2000 → to_z w32 (of_z w32 x) ≡ x
read_exponent x h = to_z-of_z w32 x (fits_signed_from_abs w32 x (omega (arith, lit)))
  where
    lit : 2000 < 2 ^ 31
    lit = lit< tt

-- An answer that comes exactly where P holds is there.
pub is_some : {X : Type 0} (P : Type 0) (answer : Option X) (x : X) → P → SomeIff answer P x → IsSome answer
is_some P None x p h = absurd (h p)
is_some P (Some y) x p h = refl
