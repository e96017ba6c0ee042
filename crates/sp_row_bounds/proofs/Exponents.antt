-- An exponent lies within the number of nodes added times the degree reached. So the powers of a sum over chains, and
-- of a ladder vector, lie within the square of the degree.
use Rattle.std.proofs.Common.{◌≡◌, ℕ, zero, suc, ◌+◌, ◌-◌, ◌*◌, ◌<◌, ◌≤◌, Bool, true, false, not, ◌&&◌, cond, List}
use Rattle.std.proofs.Common.{[], ◌∷◌, map, filter, length, refl, sym, ◌∙◌, ap, subst, arith, nat_eq, nat_lt}
use Rattle.std.proofs.Common.{count_by}
use Rattle.std.proofs.Common.{ltb-true, ℤ, pos, ◌-ℤ◌}
use Rattle.std.proofs.lemmas.Int.{ints}
use Rattle.std.proofs.lemmas.List.{length-map}
use Rattle.std.specs.Int.RustNames.{unsigned_abs}
use Rattle.std.specs.List.{AllByRecursion, range_with_len}
use Rattle.sp_defs.specs.Partition.{part, degree, partitions, IsPartition, IsPartitionOf}
use Rattle.sp_defs.specs.Node.{Node, in_diagram, nodes, residue, is_addable, is_removable, addable, removable}
use Rattle.sp_defs.specs.Laurent.{Laurent, power, times, sum_over, int_sum}
use Rattle.sp_defs.specs.Power.{is_move, added, above, exponent, sources, divided_power}
use Rattle.sp_defs.specs.Ladder.{Step, chains_to, chain_exponent, chain_sum, ladder_vector}
use Rattle.sp_defs.specs.Within.{PowersWithin}
use Rattle.sp_lists.proofs.Counts.{count-cons}
use Rattle.sp_lists.proofs.Elements.{all_filter, all_map}
use Rattle.sp_algebra.proofs.Sizes.{within_plus, within_times, product_within, sum_near}
use Rattle.sp_shapes.proofs.Degrees.{length-degree}
use Rattle.sp_shapes.proofs.Diagram.{all_nodes}
use Rattle.sp_shapes.proofs.Listing.{all_partitions}
use Rattle.sp_shapes.proofs.CornerRows.{removable-rows}
use Rattle.sp_shapes.proofs.Moves.{Move, move_facts, degree_added}
use Rattle.sp_shapes.proofs.Regular.{index_short}
use Rattle.sp_ladder_law.proofs.Chains.{chain_step}
use Rattle.sp_row_bounds.proofs.Powers.{powers_sum}
use Rattle.sp_lists.proofs.Places.{all_weaken}

-- ---- above a row there is at most one node for each row

-- nodes with one in each row from row a on, of which some pass a test
count_above : (p t : Node → Bool) (column : ℕ → ℕ) (r a n : ℕ) →
    count_by (λ x. p x && nat_lt x.0 r) (filter t (map (λ q. (q, column q)) (range_with_len a n))) ≤ r - a
count_above p t column r a zero = omega arith
count_above p t column r a (suc n) = by_tests (t (a, column a)) (count_above p t column r (a + 1) n)
  where
    rest : List Node
    rest = filter t (map (λ q. (q, column q)) (range_with_len (a + 1) n))

    by_row : (b : Bool) → nat_lt a r ≡ b → count_by (λ x. p x && nat_lt x.0 r) rest ≤ r - (a + 1) →
        cond (p (a, column a) && b) 1 0 + count_by (λ x. p x && nat_lt x.0 r) rest ≤ r - a
    by_row true e ih = let lt : a < r = ltb-true a r e in one (p (a, column a))
      where
        one : (c : Bool) → cond (c && true) 1 0 + count_by (λ x. p x && nat_lt x.0 r) rest ≤ r - a
        one true = omega (arith, ih, ltb-true a r e)
        one false = omega (arith, ih)
    by_row false e ih = none (p (a, column a))
      where
        none : (c : Bool) → cond (c && false) 1 0 + count_by (λ x. p x && nat_lt x.0 r) rest ≤ r - a
        none true = omega (arith, ih)
        none false = omega (arith, ih)

    by_tests : (b : Bool) → count_by (λ x. p x && nat_lt x.0 r) rest ≤ r - (a + 1) →
        count_by (λ x. p x && nat_lt x.0 r) (cond b ((a, column a) ∷ rest) rest) ≤ r - a
    by_tests false ih = omega (arith, ih)
    by_tests true ih =
        omega (
          arith,
          count-cons (λ (x : Node). p x && nat_lt x.0 r) (a, column a) rest,
          by_row (nat_lt a r) refl ih,
        )

addable_above : (e i r : ℕ) (parts : List ℕ) → above e i r (addable parts) ≤ r - 1
addable_above e i r parts =
    count_above (λ x. nat_eq (residue e x) i) (is_addable parts) (λ q. part parts q + 1) r 1 (length parts + 1)

removable_above : (e i r : ℕ) (parts : List ℕ) → above e i r (removable parts) ≤ r - 1
removable_above e i r parts =
    subst (λ xs. above e i r xs ≤ r - 1) (sym (removable-rows parts))
    (count_above (λ x. nat_eq (residue e x) i) (is_removable parts) (part parts) r 1 (length parts))

-- ---- one exponent

int_sum_within : (b : ℕ) (xs : List ℤ) → AllByRecursion (λ x. unsigned_abs x ≤ b) xs →
    unsigned_abs (int_sum xs) ≤ length xs * b
unfolding int_sum
int_sum_within b [] h = omega arith
int_sum_within b (x ∷ xs) (h, hs) = omega (arith, sum_near x (int_sum xs), int_sum_within b xs hs)

-- The exponent of a move lies within the number of nodes added times the degree after it.
pub exponent_within : (e i m : ℕ) (before after : List ℕ) → IsPartition after → length (added before after) ≡ m →
    unsigned_abs (exponent e i before after) ≤ m * degree after
unfolding exponent
exponent_within e i m before after pa count =
    subst (λ k. unsigned_abs (int_sum (map gain (added before after))) ≤ k * degree after)
    (length-map (added before after) gain ∙ count)
    (int_sum_within (degree after) (map gain (added before after))
    (all_map (λ x. unsigned_abs x ≤ degree after) gain (added before after)
    (all_filter (λ x. unsigned_abs (gain x) ≤ degree after) (λ x. not_before x) (nodes after)
    (all_nodes (λ x. not_before x ≡ true → unsigned_abs (gain x) ≤ degree after) after
    (λ r c hr hc w _. near r (omega (arith, length-degree after pa, row_short r hr (omega (arith, w, hc)))))))))
  where
    not_before : Node → Bool
    not_before x = not (in_diagram before x)

    gain : Node → ℤ
    gain x = pos (above e i x.0 (addable after)) -ℤ pos (above e i x.0 (removable before))

    row_short : (r : ℕ) → 1 ≤ r → 0 < part after r → r ≤ length after
    row_short r hr h = omega (arith, index_short after (r - 1) h)

    near : (r : ℕ) → r ≤ degree after →
        unsigned_abs (pos (above e i r (addable after)) -ℤ pos (above e i r (removable before))) ≤ degree after
    near r le = both (above e i r (addable after)) (above e i r (removable before)) (addable_above e i r after)
        (removable_above e i r before)
      where
        both : (a b : ℕ) → a ≤ r - 1 → b ≤ r - 1 → unsigned_abs (pos a -ℤ pos b) ≤ degree after
        both a b ha hb = omega (arith, ints)

-- ---- chains

-- The powers of the sum over the chains to a partition lie within the square of its degree.
pub chain_within : (e : ℕ) (backward : List Step) (last : List ℕ) → IsPartition last →
    PowersWithin (degree last * degree last) (chain_sum e backward last)
unfolding chain_sum chains_to chain_exponent sum_over divided_power sources
chain_within e [] [] h =
    within_plus 0 (power (pos 0)) [] (omega (arith, ints), tt) tt
chain_within e [] (p ∷ parts) h = tt
chain_within e (s ∷ earlier) last h =
    subst (PowersWithin (degree last * degree last)) (sym (chain_step e s earlier last))
    (step (λ before pb. chain_within e earlier before pb))
  where
    term : List ℕ → Laurent
    term before = times (power (exponent e s.residue before last)) (chain_sum e earlier before)

    one : (before : List ℕ) → IsPartition before → is_move e s.residue s.count before last ≡ true →
        PowersWithin (degree before * degree before) (chain_sum e earlier before) →
        PowersWithin (degree last * degree last) (term before)
    one before pb mv near =
        let facts : Move e s.residue s.count before last = move_facts e s.residue s.count before last mv in
        let grown : degree last ≡ degree before + s.count =
        degree_added before last pb facts.rows ∙ ap (λ k. degree before + k) facts.count in
        within_times (degree last * degree last) (power (exponent e s.residue before last)) (chain_sum e earlier before)
        (product_within (s.count * degree last) (degree before * degree before) (degree last * degree last)
        (power (exponent e s.residue before last)) (chain_sum e earlier before)
        (subst (λ n. s.count * n + degree before * degree before ≤ n * n) (sym grown)
        (squares (degree before) s.count))
        (exponent_within e s.residue s.count before last h facts.count, tt) near)
      where
        squares : (b m : ℕ) → m * (b + m) + b * b ≤ (b + m) * (b + m)
        squares b m = omega arith

    step : ((before : List ℕ) → IsPartition before →
        PowersWithin (degree before * degree before) (chain_sum e earlier before)) →
        PowersWithin (degree last * degree last) (divided_power e s.residue s.count (chain_sum e earlier) last)
    step ih =
        powers_sum (λ k. unsigned_abs k ≤ degree last * degree last) term
        (filter (λ before. is_move e s.residue s.count before last) (partitions (degree last - s.count)))
        (all_filter (λ x. PowersWithin (degree last * degree last) (term x))
        (λ before. is_move e s.residue s.count before last) (partitions (degree last - s.count))
        (all_weaken (IsPartitionOf (degree last - s.count))
        (λ x. is_move e s.residue s.count x last ≡ true → PowersWithin (degree last * degree last) (term x))
        (partitions (degree last - s.count))
        (λ x g mv. one x g.partition mv (ih x g.partition)) (all_partitions (degree last - s.count))))

-- So do those of a ladder vector.
pub ladder_within : (e : ℕ) (mu lambda : List ℕ) → IsPartition lambda →
    PowersWithin (degree lambda * degree lambda) (ladder_vector e mu lambda)
unfolding ladder_vector
ladder_within e mu lambda h = chain_within e _ lambda h
