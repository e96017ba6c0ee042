-- The weight of a ladder vector: no coefficient of a partial ladder vector passes the limit exactly where no induction
-- on the way is too large. Nothing cancels, since all coefficients are positive.
use Rattle.std.proofs.Common.{◌≡◌, ◌≢◌, ℕ, ◌+◌, ◌<◌, ◌≤◌, List, [], ◌∷◌, ◌++◌, map, reverse, take}
use Rattle.std.proofs.Common.{length, flat_map, get_or, refl, sym, ◌∙◌, ap, subst, arith, sum_by, zero-add, ◌⊎◌, inl}
use Rattle.std.proofs.Common.{inr}
use Rattle.std.specs.List.{AllByRecursion, range_with_len}
use Rattle.std.proofs.lemmas.List.{take_more, take_all, reverse-append}
use Rattle.std.proofs.lemmas.List.Sums.{sum_by-cons, sum_by-append, sum_by-take-le}
use Rattle.sp_defs.specs.Partition.{degree, partitions, IsPartition, IsPartitionOf}
use Rattle.sp_defs.specs.Laurent.{Laurent, power, times, size, one, sum_over, plus, collect, add_term}
use Rattle.sp_defs.specs.Power.{Vector, sources, exponent, divided_power, reaching_size, induction_weight}
use Rattle.sp_defs.specs.Ladder.{Step, steps, chain_sum, chains_to, chain_exponent, partial_ladder_vector}
use Rattle.sp_defs.specs.Ladder.{ladder_vector, ladder_weight}
use Rattle.sp_defs.specs.Statements.{IsLabel}
use Rattle.sp_lists.proofs.Elements.{le_or_lt, all_flat, flat_all, range_all, range_at}
use Rattle.sp_lists.proofs.Places.{all_weaken}
use Rattle.sp_lists.proofs.Greatest.{greatest_within, within_greatest, map_within, within_map}
use Rattle.sp_algebra.proofs.Positive.{AllPositive}
use Rattle.sp_algebra.proofs.PositiveSizes.{positive-power_times, size-power_times, size-sum_over}
use Rattle.sp_shapes.proofs.Moves.{move_facts, degree_added}
use Rattle.sp_shapes.proofs.Listing.{at_occurs, all_partitions, each_partition}
use Rattle.sp_ladder_law.proofs.Chains.{Reached, chain_step, positive_chain_sum}
use Rattle.sp_ladder_law.proofs.Chains.{reached}
use Rattle.sp_ladder_law.proofs.LadderLaw.{ladder_law}

-- ---- degrees

-- How many nodes these steps add.
abbrev pub nodes_added : List Step → ℕ
nodes_added ss = sum_by (λ s. s.count) ss

-- The degree of the partial ladder vector after t steps.
abbrev pub degree_after : ℕ → List ℕ → ℕ → ℕ
degree_after e mu t = nodes_added (take t (steps e mu))

reached_degree : (e : ℕ) (backward : List Step) (last : List ℕ) → Reached e backward last →
    degree last ≡ nodes_added backward
unfolding Reached
reached_degree e [] last is = ap degree is
reached_degree e (s ∷ earlier) last (before, pb, mv, rest) =
    let f = move_facts e s.residue s.count before last mv in
    let grown = degree_added before last pb f.rows in
    let more : nodes_added (s ∷ earlier) ≡ s.count + nodes_added earlier = sum_by-cons (λ s. s.count) s earlier in
    omega (arith, grown, f.count, reached_degree e earlier before rest, more)

nodes_added-reverse : (ss : List Step) → nodes_added (reverse ss) ≡ nodes_added ss
nodes_added-reverse [] = refl
nodes_added-reverse (s ∷ ss) =
    let split : reverse (s ∷ ss) ≡ reverse ss ++ (s ∷ []) = reverse-append (s ∷ []) ss in
    let sums : nodes_added (reverse ss ++ (s ∷ [])) ≡ nodes_added (reverse ss) + nodes_added (s ∷ []) =
    sum_by-append (λ s. s.count) (reverse ss) (s ∷ []) in
    let own : nodes_added (s ∷ ss) ≡ s.count + nodes_added ss = sum_by-cons (λ s. s.count) s ss in
    let whole : nodes_added (reverse (s ∷ ss)) ≡ nodes_added (reverse ss) + nodes_added (s ∷ []) = ap nodes_added split
    ∙ sums in
    let last : nodes_added (s ∷ []) ≡ s.count = zero-add s.count in
    omega (arith, whole, own, last, nodes_added-reverse ss)

-- A partial ladder vector is 0 at all partitions of another degree.
pub partial_degree : (e : ℕ) (mu : List ℕ) (t : ℕ) (lambda : List ℕ) → partial_ladder_vector e mu t lambda ≢ [] →
    degree lambda ≡ degree_after e mu t
unfolding partial_ladder_vector
partial_degree e mu t lambda ne =
    reached_degree e (reverse (take t (steps e mu))) lambda (reached e (reverse (take t (steps e mu))) lambda ne)
    ∙ nodes_added-reverse (take t (steps e mu))

-- All steps together add the nodes of mu.
pub degree_after_all : (e : ℕ) (mu : List ℕ) → IsLabel e mu → degree_after e mu (length (steps e mu)) ≡ degree mu
unfolding ladder_vector
degree_after_all e mu h =
    ap nodes_added (take_all (length (steps e mu)) (steps e mu) (omega arith)) ∙ sym (nodes_added-reverse (steps e mu))
    ∙ sym (reached_degree e (reverse (steps e mu)) mu (reached e (reverse (steps e mu)) mu nonzero))
  where
    nonzero : chain_sum e (reverse (steps e mu)) mu ≢ []
    nonzero z = let w : one ≡ [] = sym (ladder_law e mu h).at_mu ∙ z in cc

-- ---- one step more

-- One step more adds its nodes.
pub nodes_added-more : (ss : List Step) (t : ℕ) (d : Step) → t < length ss →
    nodes_added (take (t + 1) ss) ≡ nodes_added (take t ss) + (get_or ss t d).count
nodes_added-more ss t d lt =
    ap nodes_added (take_more ss t d lt) ∙ sum_by-append (λ s. s.count) (take t ss) (get_or ss t d ∷ [])
    ∙ ap (λ n. nodes_added (take t ss) + n) (zero-add (get_or ss t d).count)

-- One step more is a divided power of the partial ladder vector.
pub partial_step : (e : ℕ) (mu : List ℕ) (t : ℕ) (d : Step) (lambda : List ℕ) → t < length (steps e mu) →
    partial_ladder_vector e mu (t + 1) lambda
    ≡ divided_power e (get_or (steps e mu) t d).residue (get_or (steps e mu) t d).count
    (partial_ladder_vector e mu t) lambda
unfolding partial_ladder_vector
partial_step e mu t d lambda lt =
    ap (λ ss. chain_sum e ss lambda) back
    ∙ chain_step e (get_or (steps e mu) t d) (reverse (take t (steps e mu))) lambda
  where
    back : reverse (take (t + 1) (steps e mu)) ≡ get_or (steps e mu) t d ∷ reverse (take t (steps e mu))
    back = ap reverse (take_more (steps e mu) t d lt)
        ∙ reverse-append (take t (steps e mu)) (get_or (steps e mu) t d ∷ [])

-- The partial ladder vector after all steps is the ladder vector.
pub partial_whole : (e : ℕ) (mu lambda : List ℕ) →
    partial_ladder_vector e mu (length (steps e mu)) lambda ≡ ladder_vector e mu lambda
unfolding partial_ladder_vector ladder_vector
partial_whole e mu lambda =
    ap (λ ss. chain_sum e (reverse ss) lambda) (take_all (length (steps e mu)) (steps e mu) (omega arith))

-- ---- sizes

-- Nothing cancels in a divided power of a vector with positive coefficients.
pub size-divided_power : (e i m : ℕ) (w : Vector) (after : List ℕ) → ((lambda : List ℕ) → AllPositive (w lambda)) →
    size (divided_power e i m w after) ≡ reaching_size e i m w after
unfolding divided_power
size-divided_power e i m w after positive = of_sources (sources e i m after)
  where
    all_positive : (xs : List (List ℕ)) →
        AllByRecursion (λ x. AllPositive (times (power (exponent e i x after)) (w x))) xs
    all_positive [] = tt
    all_positive (x ∷ xs) = (positive-power_times (exponent e i x after) (w x) (positive x), all_positive xs)

    same_sizes : (xs : List (List ℕ)) →
        sum_by (λ x. size (times (power (exponent e i x after)) (w x))) xs ≡ sum_by (λ x. size (w x)) xs
    same_sizes [] = refl
    same_sizes (x ∷ xs) =
        let one_more : sum_by (λ x. size (times (power (exponent e i x after)) (w x))) (x ∷ xs)
        ≡ size (times (power (exponent e i x after)) (w x)) + sum_by
        (λ x. size (times (power (exponent e i x after)) (w x))) xs =
        sum_by-cons (λ x. size (times (power (exponent e i x after)) (w x))) x xs in
        let other : sum_by (λ x. size (w x)) (x ∷ xs) ≡ size (w x) + sum_by (λ x. size (w x)) xs =
        sum_by-cons (λ x. size (w x)) x xs in
        omega (arith, one_more, other, size-power_times (exponent e i x after) (w x) (positive x), same_sizes xs)

    of_sources : (xs : List (List ℕ)) →
        size (sum_over xs (λ x. times (power (exponent e i x after)) (w x))) ≡ sum_by (λ x. size (w x)) xs
    of_sources xs = size-sum_over xs (λ x. times (power (exponent e i x after)) (w x)) (all_positive xs) ∙ same_sizes xs

-- ---- the weight

-- No coefficient of the partial ladder vectors up to step t passes the limit.
pub record WithinUpTo (limit e : ℕ) (mu : List ℕ) (t : ℕ) : Type 0 where
  pub sizes : (s : ℕ) → s ≤ t → (lambda : List ℕ) → IsPartitionOf (degree_after e mu s) lambda →
      size (partial_ladder_vector e mu s lambda) ≤ limit

-- Before the first step the vector is 1 at the empty partition.
chain_sum_none : (e : ℕ) (lambda : List ℕ) → size (chain_sum e [] lambda) ≤ 1
unfolding chain_sum chains_to chain_exponent sum_over plus collect add_term
chain_sum_none e [] = omega arith
chain_sum_none e (p ∷ parts) = omega arith

-- Before the first step no size passes a limit of at least 1.
pub within_first : (limit e : ℕ) (mu : List ℕ) → 1 ≤ limit → WithinUpTo limit e mu 0
unfolding partial_ladder_vector
within_first limit e mu h = record {
  sizes = λ s le lambda _.
      let first : s ≡ 0 = omega arith in
      let small : size (partial_ladder_vector e mu 0 lambda) ≤ 1 = chain_sum_none e lambda in
      subst (λ k. size (partial_ladder_vector e mu k lambda) ≤ limit) (sym first) (omega (arith, small, h));
}

partial_positive : (e : ℕ) (mu : List ℕ) (t : ℕ) (lambda : List ℕ) → AllPositive (partial_ladder_vector e mu t lambda)
unfolding partial_ladder_vector
partial_positive e mu t lambda = positive_chain_sum e (reverse (take t (steps e mu))) lambda

-- The sizes after step t are those that reach the partitions in the induction.
size_after : (e : ℕ) (mu : List ℕ) (t : ℕ) (d : Step) (lambda : List ℕ) → t < length (steps e mu) →
    size (partial_ladder_vector e mu (t + 1) lambda)
    ≡ reaching_size e (get_or (steps e mu) t d).residue (get_or (steps e mu) t d).count
    (partial_ladder_vector e mu t) lambda
size_after e mu t d lambda lt =
    ap size (partial_step e mu t d lambda lt)
    ∙ size-divided_power e (get_or (steps e mu) t d).residue (get_or (steps e mu) t d).count
    (partial_ladder_vector e mu t) lambda (partial_positive e mu t)

-- The weight of the induction of a step on the vector before it.
abbrev pub step_weight : ℕ → List ℕ → ℕ → Step → ℕ
step_weight e mu t s = induction_weight e s.residue s.count (degree_after e mu t) (partial_ladder_vector e mu t)

-- the sizes after a step are within a bound exactly where the induction's weight is
step_within : (limit e : ℕ) (mu : List ℕ) (t : ℕ) (d : Step) → t < length (steps e mu) →
    step_weight e mu t (get_or (steps e mu) t d) ≤ limit → (lambda : List ℕ) →
    IsPartitionOf (degree_after e mu (t + 1)) lambda →
    size (partial_ladder_vector e mu (t + 1) lambda) ≤ limit
step_within limit e mu t d lt h lambda pl =
    let s : Step = get_or (steps e mu) t d in
    let reaches : List ℕ → ℕ = reaching_size e s.residue s.count (partial_ladder_vector e mu t) in
    let total : degree lambda ≡ degree_after e mu t + s.count = pl.total ∙ nodes_added-more (steps e mu) t d lt in
    let all = within_map reaches limit (partitions (degree_after e mu t + s.count))
    (within_greatest limit (map reaches (partitions (degree_after e mu t + s.count))) h) in
    let here : reaches lambda ≤ limit =
    at_occurs (λ x. reaches x ≤ limit) lambda (partitions (degree_after e mu t + s.count))
    (each_partition (degree_after e mu t + s.count) lambda pl.partition total) all in
    subst (λ n. n ≤ limit) (sym (size_after e mu t d lambda lt)) here

-- Where the induction of the next step is not too large, no size passes the limit after it.
pub within_next : (limit e : ℕ) (mu : List ℕ) (t : ℕ) (d : Step) → t < length (steps e mu) → WithinUpTo limit e mu t →
    step_weight e mu t (get_or (steps e mu) t d) ≤ limit → WithinUpTo limit e mu (t + 1)
within_next limit e mu t d lt so_far h = record { sizes = λ s le lambda pl. by_step s le lambda pl (le_or_same s le) }
  where
    le_or_same : (s : ℕ) → s ≤ t + 1 → (s ≤ t) ⊎ (t + 1 ≡ s)
    le_or_same s le = split (le_or_lt s t)
      where
        split : (s ≤ t) ⊎ (t < s) → (s ≤ t) ⊎ (t + 1 ≡ s)
        split (inl low) = inl low
        split (inr high) = inr (omega arith)

    by_step : (s : ℕ) → s ≤ t + 1 → (lambda : List ℕ) → IsPartitionOf (degree_after e mu s) lambda →
        (s ≤ t) ⊎ (t + 1 ≡ s) →
        size (partial_ladder_vector e mu s lambda) ≤ limit
    by_step s le lambda pl (inl low) = so_far.sizes s low lambda pl
    by_step s le lambda pl (inr last) =
        subst (λ k. IsPartitionOf (degree_after e mu k) lambda → size (partial_ladder_vector e mu k lambda) ≤ limit)
        last
        (step_within limit e mu t d lt h lambda) pl

-- The sizes after t steps, at the partitions of k and at those of all degrees.
abbrev sizes_of : ℕ → List ℕ → ℕ → ℕ → List ℕ
sizes_of e mu t k = map (λ lambda. size (partial_ladder_vector e mu t lambda)) (partitions k)

abbrev sizes_after : ℕ → List ℕ → ℕ → List ℕ
sizes_after e mu t = flat_map (sizes_of e mu t) (range_with_len 0 (degree mu + 1))

-- Where all are within the limit the ladder vector isn't too large.
pub weight_within : (limit e : ℕ) (mu : List ℕ) → WithinUpTo limit e mu (length (steps e mu)) →
    ladder_weight e mu ≤ limit
unfolding ladder_weight
weight_within limit e mu within =
    greatest_within limit (flat_map (sizes_after e mu) (range_with_len 0 (length (steps e mu) + 1)))
    (all_flat (λ n. n ≤ limit) (sizes_after e mu) (range_with_len 0 (length (steps e mu) + 1))
    (range_all (λ t. AllByRecursion (λ n. n ≤ limit) (sizes_after e mu t)) 0 (length (steps e mu) + 1)
    (λ t _ lt. each_step t (omega arith))))
  where
    at_partition : (t : ℕ) → t ≤ length (steps e mu) → (lambda : List ℕ) → IsPartition lambda →
        size (partial_ladder_vector e mu t lambda) ≤ limit
    at_partition t le lambda pl = by_value (partial_ladder_vector e mu t lambda) refl
      where
        by_value : (p : Laurent) → partial_ladder_vector e mu t lambda ≡ p → size p ≤ limit
        by_value [] is = omega arith
        by_value (c ∷ p) is =
            let total : degree lambda ≡ degree_after e mu t =
            partial_degree e mu t lambda (λ z. let no : [] ≡ c ∷ p = sym z ∙ is in cc) in
            subst (λ q. size q ≤ limit) is (within.sizes t le lambda record { partition = pl; total = total })

    each_step : (t : ℕ) → t ≤ length (steps e mu) → AllByRecursion (λ n. n ≤ limit) (sizes_after e mu t)
    each_step t le =
        all_flat (λ n. n ≤ limit) (sizes_of e mu t) (range_with_len 0 (degree mu + 1))
        (range_all (λ k. AllByRecursion (λ n. n ≤ limit) (sizes_of e mu t k)) 0 (degree mu + 1) (λ k _ _.
        map_within (λ lambda. size (partial_ladder_vector e mu t lambda)) limit (partitions k)
        (all_weaken (IsPartitionOf k) (λ lambda. size (partial_ladder_vector e mu t lambda) ≤ limit) (partitions k)
        (λ lambda pl. at_partition t le lambda pl.partition) (all_partitions k))))

degree_after_within : (e : ℕ) (mu : List ℕ) (t : ℕ) → degree_after e mu t ≤ nodes_added (steps e mu)
degree_after_within e mu t = sum_by-take-le (λ s. s.count) (steps e mu) t

-- And where it isn't, all are.
pub within_weight : (limit e : ℕ) (mu : List ℕ) → IsLabel e mu → ladder_weight e mu ≤ limit →
    WithinUpTo limit e mu (length (steps e mu))
unfolding ladder_weight
within_weight limit e mu label h = record { sizes = at_step }
  where
    all_steps : AllByRecursion (λ t. AllByRecursion (λ n. n ≤ limit) (sizes_after e mu t))
        (range_with_len 0 (length (steps e mu) + 1))
    all_steps =
        flat_all (λ n. n ≤ limit) (sizes_after e mu) (range_with_len 0 (length (steps e mu) + 1))
        (within_greatest limit (flat_map (sizes_after e mu) (range_with_len 0 (length (steps e mu) + 1))) h)

    whole : nodes_added (steps e mu) ≡ degree mu
    whole = ap nodes_added (sym (take_all (length (steps e mu)) (steps e mu) (omega arith)))
        ∙ degree_after_all e mu label

    at_step : (t : ℕ) → t ≤ length (steps e mu) → (lambda : List ℕ) → IsPartitionOf (degree_after e mu t) lambda →
        size (partial_ladder_vector e mu t lambda) ≤ limit
    at_step t le lambda pl =
        let here : AllByRecursion (λ n. n ≤ limit) (sizes_after e mu t) =
        range_at (λ t. AllByRecursion (λ n. n ≤ limit) (sizes_after e mu t)) 0 (length (steps e mu) + 1) all_steps t
        (omega arith) (omega arith) in
        let degrees = flat_all (λ n. n ≤ limit) (sizes_of e mu t) (range_with_len 0 (degree mu + 1)) here in
        let few : degree_after e mu t ≤ degree mu = omega (arith, degree_after_within e mu t, whole) in
        let of_degree : AllByRecursion (λ n. n ≤ limit) (sizes_of e mu t (degree_after e mu t)) =
        range_at (λ k. AllByRecursion (λ n. n ≤ limit) (sizes_of e mu t k)) 0 (degree mu + 1) degrees
        (degree_after e mu t) (omega arith) (omega arith) in
        at_occurs (λ lambda. size (partial_ladder_vector e mu t lambda) ≤ limit) lambda
        (partitions (degree_after e mu t)) (each_partition (degree_after e mu t) lambda pl.partition pl.total)
        (within_map (λ lambda. size (partial_ladder_vector e mu t lambda)) limit
        (partitions (degree_after e mu t)) of_degree)

-- Where the induction of one step is too large, so is the ladder vector.
pub weight_past : (limit e : ℕ) (mu : List ℕ) (t : ℕ) (d : Step) → IsLabel e mu → t < length (steps e mu) →
    limit < step_weight e mu t (get_or (steps e mu) t d) → limit < ladder_weight e mu
weight_past limit e mu t d label lt past = by_order (le_or_lt (ladder_weight e mu) limit)
  where
    s : Step
    s = get_or (steps e mu) t d

    reaches : List ℕ → ℕ
    reaches = reaching_size e s.residue s.count (partial_ladder_vector e mu t)

    within_step : ladder_weight e mu ≤ limit → step_weight e mu t s ≤ limit
    within_step h =
        let within = within_weight limit e mu label h in
        greatest_within limit (map reaches (partitions (degree_after e mu t + s.count)))
        (map_within reaches limit (partitions (degree_after e mu t + s.count))
        (all_weaken (IsPartitionOf (degree_after e mu t + s.count)) (λ x. reaches x ≤ limit)
        (partitions (degree_after e mu t + s.count))
        (λ x px. subst (λ n. n ≤ limit) (size_after e mu t d x lt)
        (within.sizes (t + 1)
        (omega arith) x record
        { partition = px.partition; total = px.total ∙ sym (nodes_added-more (steps e mu) t d lt) }))
        (all_partitions (degree_after e mu t + s.count))))

    by_order : (ladder_weight e mu ≤ limit) ⊎ (limit < ladder_weight e mu) → limit < ladder_weight e mu
    by_order (inl h) = absurd (omega (arith, within_step h, past))
    by_order (inr h) = h
