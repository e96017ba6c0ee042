-- The exponents of induction and restriction of one node, as sums over the rows above that node.
use Rattle.std.proofs.Common.{◌≡◌, ℕ, suc, ◌+◌, ◌-◌, ◌≤◌, Bool, true, false, cond, not, List, [], ◌∷◌, ◌++◌}
use Rattle.std.proofs.Common.{filter, map, length, refl, sym, ◌∙◌, ap, ap₂, arith, ℤ, pos}
use Rattle.std.proofs.Common.{◌+ℤ◌, ◌-ℤ◌}
use Rattle.std.proofs.lemmas.Int.{ints}
use Rattle.std.proofs.lemmas.Bool.{false_from_ne_true}
use Rattle.std.proofs.lemmas.List.{nil_from_length}
use Rattle.sp_defs.specs.Partition.{part, degree, IsPartition}
use Rattle.sp_defs.specs.Node.{Node, in_diagram, nodes, addable, removable}
use Rattle.sp_defs.specs.Laurent.{int_sum}
use Rattle.sp_defs.specs.Power.{added, above, exponent}
use Rattle.sp_defs.specs.Signature.{grow}
use Rattle.sp_lists.proofs.Elements.{filter_append}
use Rattle.sp_shapes.proofs.Grow.{Room, OneMore, nodes-grow}
use Rattle.sp_shapes.proofs.Moves.{degree_added, out_node}
use Rattle.sp_power_law.proofs.Gains.{addable_at, removable_at, addable_facts, not_both}
use Rattle.sp_power_law.proofs.Rows.{above_addable-next, above_removable-next}
use Rattle.sp_power_law.proofs.Steps.{choose}
use Rattle.sp_sl2_law.specs.Restriction.{below, restriction_exponent}
use Rattle.sp_sl2_law.specs.Balanced.{corner_difference}
use Rattle.sp_sl2_law.proofs.OneNode.{before_row, room_of}
use Rattle.sp_sl2_law.proofs.Tilts.{lean, tilt, lean_gains, above_below}

-- The exponent of the induction that adds a node in row r is the sum over the rows above.
pub induction_exponent : (e i : ℕ) (parts : List ℕ) (r : ℕ) → 2 ≤ e → 1 ≤ r → IsPartition parts →
    addable_at e i parts r ≡ true → exponent e i parts (grow (r - 1) parts) ≡ tilt e i parts (r - 1)
induction_exponent e i parts r he hr pp can =
    sym (choose e i he parts pp r 0 parts (lean e i parts r) (pos 0) hr (before_row e i parts r pp) can).sum_is
    ∙ plain (lean e i parts r) ∙ lean_gains e i parts r he hr pp can
  where
    plain : (x : ℤ) → pos 0 +ℤ x ≡ x
    plain x = omega (arith, ints)

-- ---- the node that is added

two_nil : {X : Type 0} (xs ys : List X) → xs ++ ys ≡ [] → (xs ≡ []) × (ys ≡ [])
two_nil [] ys h = (refl, h)
two_nil (x ∷ xs) ys h = absurd (let l : suc (length (xs ++ ys)) ≡ 0 = ap length h in omega arith)

-- Where a row grows, its new node alone is added.
pub added_one : (e i : ℕ) (parts : List ℕ) (r : ℕ) → 1 ≤ r → IsPartition parts → addable_at e i parts r ≡ true →
    added parts (grow (r - 1) parts) ≡ (r, part parts r + 1) ∷ []
added_one e i parts r hr pp can =
    ap (filter outside) o.larger_is
    ∙ filter_append outside o.front ((1 + (r - 1), part parts r + 1) ∷ o.back)
    ∙ ap₂ (λ a b. a ++ cond b ((1 + (r - 1), part parts r + 1) ∷ filter outside o.back)
    (filter outside o.back)) nothing.0 out
    ∙ ap₂ (λ n l. (n, part parts r + 1) ∷ l) row nothing.1
  where
    outside : Node → Bool
    outside x = not (in_diagram parts x)

    room : Room parts (r - 1)
    room = room_of e i parts r hr (addable_facts e i parts r can)

    o : OneMore (1 + (r - 1), part parts r + 1) (nodes parts) (nodes (grow (r - 1) parts))
    o = nodes-grow 1 parts (r - 1) room.there

    row : 1 + (r - 1) ≡ r
    row = omega arith

    none : added parts parts ≡ []
    none = nil_from_length (added parts parts)
        (let d : degree parts ≡ degree parts + length (added parts parts) =
        degree_added parts parts pp (λ k. omega arith) in omega (arith, d))

    nothing : (filter outside o.front ≡ []) × (filter outside o.back ≡ [])
    nothing = two_nil (filter outside o.front) (filter outside o.back)
        (sym (filter_append outside o.front o.back) ∙ ap (filter outside) (sym o.smaller_is) ∙ none)

    out : not (in_diagram parts (1 + (r - 1), part parts r + 1)) ≡ true
    out = ap (λ n. not (in_diagram parts (n, part parts r + 1))) row
        ∙ ap not (out_node parts r (part parts r + 1) hr (omega arith) (omega arith))

-- The exponent of the restriction that takes the node away again: the sum over the rows above and 1, without the
-- difference of all addable and removable i-nodes.
pub restriction_exponent_is : (e i : ℕ) (parts : List ℕ) (r : ℕ) → 2 ≤ e → 1 ≤ r → IsPartition parts →
    addable_at e i parts r ≡ true →
    restriction_exponent e i parts (grow (r - 1) parts) ≡
    (tilt e i parts (r - 1) +ℤ pos 1) -ℤ corner_difference e i parts
unfolding restriction_exponent int_sum
restriction_exponent_is e i parts r he hr pp can =
    ap (λ xs. int_sum (map (λ x. pos (below e i x.0 (removable parts)) -ℤ pos (below e i x.0 (addable parts))) xs))
    (added_one e i parts r hr pp can)
    ∙ turned (below e i r (removable parts)) (below e i r (addable parts)) _ _ _ _
    (above e i r (addable parts)) (above e i r (removable parts)) (addable_at e i parts r) (removable_at e i parts r)
    (tilt e i parts (r - 1))
    (above_below e i r (addable parts)) (above_below e i r (removable parts))
    (above_addable-next e i parts r hr) (above_removable-next e i parts r hr) can
    (false_from_ne_true (removable_at e i parts r) (not_both e i parts r he can))
    (lean_gains e i parts r he hr pp can)
  where
    turned : (br ba a b a' b' ua ub : ℕ) (p q : Bool) (t : ℤ) → a ≡ a' + ba → b ≡ b' + br → a' ≡ ua + cond p 1 0 →
        b' ≡ ub + cond q 1 0 → p ≡ true → q ≡ false → pos ua -ℤ pos ub ≡ t →
        (pos br -ℤ pos ba) +ℤ pos 0 ≡ (t +ℤ pos 1) -ℤ (pos a -ℤ pos b)
    turned br ba a b a' b' ua ub p q t ha hb ka kb hp hq l =
        let up : ◌≡◌ {A = ℕ} (cond p 1 0) 1 = ap (λ c. cond c 1 0) hp in
        let uq : ◌≡◌ {A = ℕ} (cond q 1 0) 0 = ap (λ c. cond c 1 0) hq in
        omega (arith, ints)
