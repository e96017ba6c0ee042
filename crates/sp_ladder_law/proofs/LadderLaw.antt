-- The ladder law: A(mu) has 1 at mu, the partitions in it are dominated by mu, and its coefficients are positive.
-- There is one chain to mu, through the cuts of mu at its ladders, with exponent 0. Whatever is reached has, from any
-- ladder on, at most as many nodes as mu, so mu dominates it.
use Rattle.std.proofs.Common.{◌≡◌, ◌≢◌, ℕ, zero, suc, ◌+◌, ◌-◌, ◌<◌, ◌≤◌, max, fold, Bool, true, false, cond, ◌&&◌}
use Rattle.std.proofs.Common.{nat_le, nat_eq, nat_lt, List, [], ◌∷◌, map, filter, reverse, refl, sym, ◌∙◌, ap}
use Rattle.std.proofs.Common.{ap₂, arith, sum, sum_by, count_by, ◌⊎◌, inl, inr, ltb-false, le_trans}
use Rattle.std.proofs.lemmas.List.Sums.{sum_by-cons, sum_by-le-sum_by}
use Rattle.std.specs.List.{AllByRecursion}
use Rattle.std.proofs.lemmas.Bool.Decides.{nat_tests}
use Rattle.sp_defs.specs.Partition.{part, degree, IsPartition, is_regular, Dominates, partitions, from_one_to}
use Rattle.sp_defs.specs.Partition.{IsPartitionOf}
use Rattle.sp_defs.specs.Node.{Node, nodes}
use Rattle.sp_defs.specs.Laurent.{Laurent, one, power, plus, times, collect, add_term, sum_over, IsLaurent}
use Rattle.sp_defs.specs.Power.{is_move, exponent, sources, divided_power}
use Rattle.sp_defs.specs.Ladder.{Step, ladder_of, ladder_residue, on_ladder, ladders, ladders_end, steps, chains_to}
use Rattle.sp_defs.specs.Ladder.{chain_exponent, chain_sum, ladder_vector}
use Rattle.sp_defs.specs.Statements.{LadderLaw}
use Rattle.sp_lists.proofs.Elements.{nil_or_not}
use Rattle.sp_algebra.proofs.Laws.{one_times, times_nought, IsLaurent-times}
use Rattle.sp_algebra.proofs.Laws.{IsLaurent-bar_invariant, bar_invariant-one}
use Rattle.sp_shapes.proofs.Listing.{Occurs, all_partitions, each_partition, partitions_ascend}
use Rattle.sp_ladder_law.proofs.Chains.{Reached, reached, chain_step, positive_chain_sum}
use Rattle.sp_ladder_law.proofs.OneTerm.{one_term}
use Rattle.sp_ladder_law.proofs.Backward.{down_from, reverse_range, reverse_kept}
use Rattle.sp_shapes.proofs.Moves.{Move, move_facts, facts_move, degree_added}
use Rattle.sp_ladder_law.proofs.Reach.{step_of, Down, top, Low, low_nodes, count_high}
use Rattle.sp_ladder_law.proofs.Dominance.{dominated}
use Rattle.sp_ladder_law.proofs.Truncated.{upto, IsPartition-upto, low_within, next_move, next_degree, same_cut}
use Rattle.sp_ladder_law.proofs.Truncated.{cut_same, cut_all, cut_none}
use Rattle.sp_ladder_law.proofs.Exponent.{zero_exponent}
use Rattle.sp_shapes.proofs.Diagram.{at_node}

-- ---- counting by ladders

-- the greatest of a list bounds each element
fold_bound : {X : Type 0} (f : X → ℕ) (a : ℕ) (xs : List X) → a ≤ fold (λ m x. max m (f x)) a xs
fold_bound f a [] = omega arith
fold_bound f a (x ∷ xs) = omega (arith, fold_bound f (max a (f x)) xs)

fold_bounds : {X : Type 0} (f : X → ℕ) (a : ℕ) (xs : List X) →
    AllByRecursion (λ x. f x ≤ fold (λ m x. max m (f x)) a xs) xs
fold_bounds f a [] = tt
fold_bounds f a (x ∷ xs) = (omega (arith, fold_bound f (max a (f x)) xs), fold_bounds f (max a (f x)) xs)

-- the steps' counts add up to the degree
degree_reached : (e : ℕ) (m : ℕ → ℕ) (ls : List ℕ) (last : List ℕ) → Reached e (map (step_of e m) ls) last →
    degree last ≡ sum_by m ls
unfolding Reached
degree_reached e m [] last is = ap sum is
degree_reached e m (l ∷ ls) last (before, pb, mv, rest) =
    let f = move_facts e (ladder_residue e l) (m l) before last mv in
    omega (arith, degree_added before last pb f.rows, f.count, degree_reached e m ls before rest, sum_by-cons m l ls)

-- two disjoint tests, the second only where b holds, within a third
pieces : {X : Type 0} (b : Bool) (g q h : X → Bool) (xs : List X) →
    ((x : X) → cond (g x) 1 0 + cond b (cond (q x) 1 0) 0 ≤ cond (h x) 1 0) →
    count_by g xs + cond b (count_by q xs) 0 ≤ count_by h xs
pieces true g q h [] f = omega arith
pieces false g q h [] f = omega arith
pieces true g q h (x ∷ xs) f =
    omega (
      arith,
      f x,
      sum_by-cons (λ x. cond (g x) 1 0) x xs,
      sum_by-cons (λ x. cond (q x) 1 0) x xs,
      sum_by-cons (λ x. cond (h x) 1 0) x xs,
      pieces true g q h xs f,
    )
pieces false g q h (x ∷ xs) f =
    omega (
      arith,
      f x,
      sum_by-cons (λ x. cond (g x) 1 0) x xs,
      sum_by-cons (λ x. cond (h x) 1 0) x xs,
      pieces false g q h xs f,
    )

module _ (e : ℕ) (he : 2 ≤ e) (mu : List ℕ) (pm : IsPartition mu) where
  -- ---- the steps from the last ladder up to n to the first

  -- The ladders of mu from n down to 1.
  pub back_to : ℕ → List ℕ
  back_to n = filter (λ l. nat_lt 0 (on_ladder e mu l)) (down_from n)

  -- Their steps.
  pub back_steps : ℕ → List Step
  back_steps n = map (step_of e (on_ladder e mu)) (back_to n)

  steps_back : reverse (steps e mu) ≡ back_steps (ladders_end e mu)
  unfolding steps ladders back_steps back_to
  steps_back =
      reverse_kept (step_of e (on_ladder e mu)) (λ l. nat_lt 0 (on_ladder e mu l)) (from_one_to (ladders_end e mu))
      ∙ ap (λ ls. map (step_of e (on_ladder e mu)) (filter (λ l. nat_lt 0 (on_ladder e mu l)) ls))
      (reverse_range (ladders_end e mu))

  back_down : (b n : ℕ) → n < b → Down b (back_to n)
  unfolding back_to down_from
  back_down b zero h = tt
  back_down b (suc n) h =
      elim (nat_lt 0 (on_ladder e mu (suc n))) as (λ v. Down b (cond v (suc n ∷ back_to n) (back_to n))) [
        | true ↦ (h, omega arith, back_down (suc n) n (omega arith))
        | false ↦ back_down b n (omega arith)
      ]

  top_back : (n : ℕ) → top (back_to n) ≤ n
  unfolding back_to down_from
  top_back zero = omega arith
  top_back (suc n) =
      elim (nat_lt 0 (on_ladder e mu (suc n))) as (λ v. top (cond v (suc n ∷ back_to n) (back_to n)) ≤ suc n) [
        | true ↦ omega arith
        | false ↦ omega (arith, top_back n)
      ]

  module _ (reg : is_regular e mu ≡ true) where
    -- ---- the one chain to mu

    -- another partition from which the step leads to the cut isn't reached
    not_reached : (n : ℕ) (kappa : List ℕ) → IsPartition kappa →
        is_move e (ladder_residue e (suc n)) (on_ladder e mu (suc n)) kappa (upto e he mu pm (suc n)) ≡ true →
        kappa ≢ upto e he mu pm n → chain_sum e (back_steps n) kappa ≡ []
    unfolding back_steps
    not_reached n kappa pk mv ne = settle (nil_or_not (chain_sum e (back_steps n) kappa))
      where
        settle : (chain_sum e (back_steps n) kappa ≡ []) ⊎ (chain_sum e (back_steps n) kappa ≢ []) →
            chain_sum e (back_steps n) kappa ≡ []
        settle (inl z) = z
        settle (inr nz) = absurd (ne (same_cut e he mu pm n kappa pk
            (low_within e he mu pm n (suc n) kappa f.rows (λ r c hr hc w. le_trans (low r c hr hc w) (top_back n)))
            (omega (arith, degree_added kappa (upto e he mu pm (suc n)) pk f.rows, f.count, next_degree e he mu pm n))))
          where
            f : Move e (ladder_residue e (suc n)) (on_ladder e mu (suc n)) kappa (upto e he mu pm (suc n))
            f = move_facts e (ladder_residue e (suc n)) (on_ladder e mu (suc n)) kappa (upto e he mu pm (suc n)) mv

            low : Low e (top (back_to n)) kappa
            low = low_nodes e he (on_ladder e mu) (suc n) (back_to n) kappa (back_down (suc n) n (omega arith)) pk
                (reached e (back_steps n) kappa nz)

    one_laurent : IsLaurent one
    one_laurent = IsLaurent-bar_invariant one bar_invariant-one

    -- the step from one cut to the next has one source and exponent 0
    one_step : (n : ℕ) → chain_sum e (back_steps n) (upto e he mu pm n) ≡ one →
        chain_sum e (step_of e (on_ladder e mu) (suc n) ∷ back_steps n) (upto e he mu pm (suc n)) ≡ one
    unfolding divided_power sources
    one_step n ih =
        chain_step e (step_of e (on_ladder e mu) (suc n)) (back_steps n) after
        ∙ one_term (λ before. is_move e i m before after) (IsPartitionOf (degree after - m)) term here
        (partitions (degree after - m)) (partitions_ascend (degree after - m)) here_listed
        (all_partitions (degree after - m)) other_terms (facts_move e i m here after (next_move e he mu pm n))
        (IsLaurent-times (power (exponent e i here after)) (chain_sum e (back_steps n) here))
        ∙ ap₂ (λ x y. times (power x) y) (zero_exponent e he mu pm reg n) ih
        ∙ one_times one one_laurent
      where
        i : ℕ
        i = ladder_residue e (suc n)

        m : ℕ
        m = on_ladder e mu (suc n)

        here : List ℕ
        here = upto e he mu pm n

        after : List ℕ
        after = upto e he mu pm (suc n)

        term : List ℕ → Laurent
        term before = times (power (exponent e i before after)) (chain_sum e (back_steps n) before)

        here_listed : Occurs here (partitions (degree after - m))
        here_listed = each_partition (degree after - m) here (IsPartition-upto e he mu pm n)
            (omega (arith, next_degree e he mu pm n))

        other_terms : (x : List ℕ) → IsPartitionOf (degree after - m) x → is_move e i m x after ≡ true → x ≢ here →
            term x ≡ []
        other_terms x px mv ne =
            ap (times (power (exponent e i x after))) (not_reached n x px.partition mv ne)
            ∙ times_nought (power (exponent e i x after))

    -- the chain to each cut
    pub chain_to_mu : (n : ℕ) → chain_sum e (back_steps n) (upto e he mu pm n) ≡ one
    unfolding back_steps back_to down_from chain_sum chains_to chain_exponent sum_over plus collect add_term
    chain_to_mu zero = ap (chain_sum e []) (cut_none e he mu pm)
    chain_to_mu (suc n) = tested (nat_lt 0 (on_ladder e mu (suc n))) refl (chain_to_mu n)
      where
        tested : (b : Bool) → nat_lt 0 (on_ladder e mu (suc n)) ≡ b →
            chain_sum e (back_steps n) (upto e he mu pm n) ≡ one →
            chain_sum e (map (step_of e (on_ladder e mu)) (cond b (suc n ∷ back_to n) (back_to n)))
            (upto e he mu pm (suc n)) ≡ one
        tested true eq ih = one_step n ih
        tested false eq ih = ap (chain_sum e (back_steps n)) (cut_same e he mu pm n no_node) ∙ ih
          where
            few : on_ladder e mu (suc n) ≤ 0
            few = ltb-false 0 (on_ladder e mu (suc n)) eq

            no_node : on_ladder e mu (suc n) ≡ 0
            no_node = omega (arith, few)

    -- mu has no node past its last ladder
    all_below_end : (r c : ℕ) → 1 ≤ r → 1 ≤ c → c ≤ part mu r → ladder_of e (r, c) ≤ ladders_end e mu
    all_below_end = at_node (λ x. ladder_of e x ≤ ladders_end e mu) mu (fold_bounds (ladder_of e) 0 (nodes mu))

    -- A(mu) is 1 at mu.
    pub at_own : ladder_vector e mu mu ≡ one
    unfolding ladder_vector
    at_own =
        ap (λ s. chain_sum e s mu) steps_back
        ∙ ap (chain_sum e (back_steps (ladders_end e mu))) (sym (cut_all e he mu pm (ladders_end e mu) all_below_end))
        ∙ chain_to_mu (ladders_end e mu)

    -- ---- from each ladder on, the steps add no more than mu has

    -- the nodes of mu on ladders from L to n
    abbrev between_ladders : ℕ → ℕ → Node → Bool
    between_ladders L n x = nat_le L (ladder_of e x) && nat_le (ladder_of e x) n

    at_most_new : (L n : ℕ) (x : Node) →
        cond (between_ladders L n x) 1 0 + cond (nat_le L (suc n)) (cond (nat_eq (ladder_of e x) (suc n)) 1 0) 0
        ≤ cond (between_ladders L (suc n) x) 1 0
    at_most_new L n x = numbers L n (ladder_of e x)
      where
        numbers : (L n a : ℕ) →
            cond (nat_le L a && nat_le a n) 1 0 + cond (nat_le L (suc n)) (cond (nat_eq a (suc n)) 1 0) 0
            ≤ cond (nat_le L a && nat_le a (suc n)) 1 0
        numbers L n a = grind (arith, nat_tests)

    -- what the steps up to ladder n add on ladders from L on
    sum_back : (L n : ℕ) →
        sum_by (λ l. cond (nat_le L l) (on_ladder e mu l) 0) (back_to n) ≤ count_by (between_ladders L n) (nodes mu)
    unfolding back_to down_from on_ladder
    sum_back L zero = omega arith
    sum_back L (suc n) = tested (nat_lt 0 (on_next (suc n))) (sum_back L n)
        (pieces (nat_le L (suc n)) (between_ladders L n) (λ x. nat_eq (ladder_of e x) (suc n))
        (between_ladders L (suc n)) (nodes mu) (at_most_new L n))
      where
        on_next : ℕ → ℕ
        on_next l = count_by (λ x. nat_eq (ladder_of e x) l) (nodes mu)

        f : ℕ → ℕ
        f l = cond (nat_le L l) (on_next l) 0

        tested : (b : Bool) → sum_by f (back_to n) ≤ count_by (between_ladders L n) (nodes mu) →
            count_by (between_ladders L n) (nodes mu) + f (suc n) ≤ count_by (between_ladders L (suc n)) (nodes mu) →
            sum_by f (cond b (suc n ∷ back_to n) (back_to n)) ≤ count_by (between_ladders L (suc n)) (nodes mu)
        tested true ih p = omega (arith, ih, p, sum_by-cons f (suc n) (back_to n))
        tested false ih p = omega (arith, ih, p)

    -- in all no more than mu has there
    sum_within : (L n : ℕ) →
        sum_by (λ l. cond (nat_le L l) (on_ladder e mu l) 0) (back_to n)
        ≤ count_by (λ x. nat_le L (ladder_of e x)) (nodes mu)
    sum_within L n = le_trans (sum_back L n)
        (sum_by-le-sum_by (λ x. cond (between_ladders L n x) 1 0)
        (λ x. cond (nat_le L (ladder_of e x)) 1 0) (nodes mu)
        (λ x. part_of (nat_le L (ladder_of e x)) (nat_le (ladder_of e x) n)))
      where
        part_of : (a b : Bool) → cond (a && b) 1 0 ≤ cond a 1 0
        part_of true true = omega arith
        part_of true false = omega arith
        part_of false b = omega arith

    -- ---- dominance

    one_nonzero : one ≢ []
    one_nonzero eq = cc

    nonzero_back : (lambda : List ℕ) → ladder_vector e mu lambda ≢ [] →
        chain_sum e (back_steps (ladders_end e mu)) lambda ≢ []
    unfolding ladder_vector
    nonzero_back lambda ne z = ne (ap (λ s. chain_sum e s lambda) steps_back ∙ z)

    -- mu dominates each partition in A(mu).
    pub all_below : (lambda : List ℕ) → IsPartition lambda → ladder_vector e mu lambda ≢ [] → Dominates mu lambda
    unfolding back_steps
    all_below lambda pl ne = dominated e mu lambda he pm reg same_degree counts
      where
        n : ℕ
        n = ladders_end e mu

        there : Reached e (map (step_of e (on_ladder e mu)) (back_to n)) lambda
        there = reached e (back_steps n) lambda (nonzero_back lambda ne)

        own : Reached e (map (step_of e (on_ladder e mu)) (back_to n)) mu
        own = reached e (back_steps n) mu (nonzero_back mu (λ z. one_nonzero (sym at_own ∙ z)))

        same_degree : degree mu ≡ degree lambda
        same_degree =
            degree_reached e (on_ladder e mu) (back_to n) mu own
            ∙ sym (degree_reached e (on_ladder e mu) (back_to n) lambda there)

        counts : (L : ℕ) →
            count_by (λ x. nat_le L (ladder_of e x)) (nodes lambda)
            ≤ count_by (λ x. nat_le L (ladder_of e x)) (nodes mu)
        counts L = le_trans (count_high e he (on_ladder e mu) L (suc n) (back_to n) lambda
            (back_down (suc n) n (omega arith)) pl there) (sum_within L n)

-- The ladder law, for every e and every e-regular partition.
pub ladder_law : LadderLaw
unfolding ladder_vector
ladder_law e mu h = record {
  at_mu = at_own e h.e_least mu h.partition h.regular;
  below = all_below e h.e_least mu h.partition h.regular;
  positive = λ lambda. positive_chain_sum e (reverse (steps e mu)) lambda;
}
