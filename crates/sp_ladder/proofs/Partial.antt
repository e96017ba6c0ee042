-- From one partial ladder vector to the next, as the code holds them.
use Rattle.std.proofs.Common.{◌≡◌, ℕ, ◌+◌, ◌*◌, ◌<◌, ◌≤◌, List, [], ◌∷◌, length, get_or, refl, sym, ◌∙◌, ap, ap₂}
use Rattle.std.proofs.Common.{subst, arith, mul-le-mul_left}
use Rattle.std.proofs.lemmas.List.Sums.{sum_by-take-le, sum_by-cons}
use Rattle.std.proofs.lemmas.List.{take_all}
use Rattle.sp_defs.specs.Partition.{degree, IsPartition, IsPartitionOf}
use Rattle.sp_defs.specs.Laurent.{one, plus, collect, add_term, sum_over}
use Rattle.sp_defs.specs.Power.{Vector, vector_of, unit, divided_power, induction_weight, FockVector}
use Rattle.sp_defs.specs.Power.{fock_vector}
use Rattle.sp_defs.specs.Ladder.{Step, steps, partial_ladder_vector, ladder_vector, ladder_weight, chain_sum}
use Rattle.sp_defs.specs.Ladder.{chains_to, chain_exponent}
use Rattle.sp_defs.specs.Statements.{IsLabel}
use Rattle.sp_fock_law.proofs.Vectors.{vector_of-entries, entries-alike}
use Rattle.sp_fock_law.proofs.Single.{entries-unit}
use Rattle.sp_power.specs.Arrivals.{AllWithin}
use Rattle.sp_power.proofs.Units.{all_more}
use Rattle.sp_power_law.proofs.Sources.{divided_power-alike, induction_weight-alike}
use Rattle.sp_ladder_law.proofs.Weights.{WithinUpTo, degree_after, nodes_added, degree_after_all, nodes_added-more}
use Rattle.sp_ladder_law.proofs.Weights.{partial_step, partial_whole, within_first, within_next, weight_within}
use Rattle.sp_ladder_law.proofs.Weights.{weight_past, step_weight}

-- A step that is read past the end.
abbrev pub no_step : Step
no_step = record { residue = 0; count = 0 }

-- Step t of the definition.
abbrev pub nth_step : ℕ → List ℕ → ℕ → Step
nth_step e mu t = get_or (steps e mu) t no_step

-- What holds of the vector after t steps.
pub record After (limit e : ℕ) (mu : List ℕ) (t : ℕ) (v : FockVector) : Type 0 where
  pub is : v ≡ fock_vector (degree_after e mu t) (partial_ladder_vector e mu t)
  pub within : WithinUpTo limit e mu t
  pub powers : AllWithin (33 * degree_after e mu t) v.entries

-- ---- before the first step

empty_only : (w : Vector) → w [] ≡ one → (lambda : List ℕ) → IsPartitionOf 0 lambda → unit [] lambda ≡ w lambda
empty_only w first [] h = sym first
empty_only w first (p ∷ parts) h = absurd (nothing parts (h.partition.positive 0 0 (omega arith)) h.total)
  where
    nothing : (parts : List ℕ) → 0 < p → degree (p ∷ parts) ≡ 0 → ⊥
    nothing parts some total = absurd (omega (arith, some, total, sum_by-cons (λ x. x) p parts))

first_is_one : (e : ℕ) (mu : List ℕ) → partial_ladder_vector e mu 0 [] ≡ one
unfolding partial_ladder_vector chain_sum chains_to chain_exponent sum_over plus collect add_term
first_is_one e mu = refl

-- The vector with 1 at the empty partition is the partial ladder vector after no step.
pub after_none : (limit e : ℕ) (mu : List ℕ) (v : FockVector) → 1 ≤ limit → v ≡ fock_vector 0 (unit []) →
    After limit e mu 0 v
after_none limit e mu v least is = record {
  is = is ∙ ap (λ es. let w : FockVector = record { degree = 0; entries = es } in w)
      (entries-alike 0 (unit []) (partial_ladder_vector e mu 0)
      (empty_only (partial_ladder_vector e mu 0) (first_is_one e mu)));
  within = within_first limit e mu least;
  powers =
      subst (λ (w : FockVector). AllWithin 0 w.entries) (sym is)
      (subst (AllWithin 0) (sym (entries-unit [] empty)) ((omega arith, tt), tt));
}
  where
    empty : IsPartition []
    empty = record { descending = λ k. omega arith; positive = λ k d lt. absurd (omega arith) }

-- ---- degrees and powers

-- No partial ladder vector has more nodes than mu.
pub degree_small : (e : ℕ) (mu : List ℕ) (t : ℕ) → IsLabel e mu → degree_after e mu t ≤ degree mu
degree_small e mu t label = omega (arith, sum_by-take-le (λ s. s.count) (steps e mu) t, whole)
  where
    whole : nodes_added (steps e mu) ≡ degree mu
    whole = ap nodes_added (sym (take_all (length (steps e mu)) (steps e mu) (omega arith)))
        ∙ degree_after_all e mu label

-- ---- one step on

module _ (limit e : ℕ) (mu : List ℕ) (t : ℕ) (v : FockVector) (so_far : After limit e mu t v) where
  -- The degree that the code holds.
  pub degree_is : v.degree ≡ degree_after e mu t
  degree_is = ap (λ u. u.degree) so_far.is

  values : (lambda : List ℕ) → IsPartitionOf (degree_after e mu t) lambda →
      vector_of v.entries lambda ≡ partial_ladder_vector e mu t lambda
  values lambda h =
      ap (λ (u : FockVector). vector_of u.entries lambda) so_far.is
      ∙ vector_of-entries (degree_after e mu t) (partial_ladder_vector e mu t) lambda h

  module _ (i m : ℕ) (early : t < length (steps e mu)) (same_residue : i ≡ (nth_step e mu t).residue)
      (same_count : m ≡ (nth_step e mu t).count) where
    after : degree_after e mu (t + 1) ≡ degree_after e mu t + m
    after = nodes_added-more (steps e mu) t no_step early ∙ ap (λ c. degree_after e mu t + c) (sym same_count)

    weight_is : induction_weight e i m v.degree (vector_of v.entries) ≡ step_weight e mu t (nth_step e mu t)
    weight_is =
        ap (λ k. induction_weight e i m k (vector_of v.entries)) degree_is
        ∙ induction_weight-alike e i m (degree_after e mu t) (vector_of v.entries) (partial_ladder_vector e mu t) values
        ∙ ap₂ (λ j k. induction_weight e j k (degree_after e mu t) (partial_ladder_vector e mu t)) same_residue
        same_count

    next : (lambda : List ℕ) → IsPartitionOf (degree_after e mu t + m) lambda →
        divided_power e i m (vector_of v.entries) lambda ≡ partial_ladder_vector e mu (t + 1) lambda
    next lambda h =
        divided_power-alike e i m (degree_after e mu t) (vector_of v.entries)
        (partial_ladder_vector e mu t) values lambda h.total
        ∙ ap₂ (λ j k. divided_power e j k (partial_ladder_vector e mu t) lambda) same_residue same_count
        ∙ sym (partial_step e mu t no_step lambda early)

    same_vector : fock_vector (v.degree + m) (divided_power e i m (vector_of v.entries))
        ≡ fock_vector (degree_after e mu (t + 1)) (partial_ladder_vector e mu (t + 1))
    same_vector =
        ap (λ k. fock_vector (k + m) (divided_power e i m (vector_of v.entries))) degree_is
        ∙ ap (λ es. let u : FockVector = record { degree = degree_after e mu t + m; entries = es } in u)
        (entries-alike (degree_after e mu t + m) (divided_power e i m (vector_of v.entries))
        (partial_ladder_vector e mu (t + 1)) next)
        ∙ ap (λ k. fock_vector k (partial_ladder_vector e mu (t + 1))) (sym after)

    -- There is room for the step's nodes.
    pub room_next : IsLabel e mu → v.degree + m ≤ degree mu
    room_next label = omega (arith, degree_is, after, degree_small e mu (t + 1) label)

    -- The divided power is the next partial ladder vector, and its powers are m * (degree + 1) further at most.
    pub after_next : (w : FockVector) → v.degree ≤ 32 →
        w ≡ fock_vector (v.degree + m) (divided_power e i m (vector_of v.entries)) →
        induction_weight e i m v.degree (vector_of v.entries) ≤ limit →
        ((d : ℕ) → AllWithin d v.entries → AllWithin (m * (v.degree + 1) + d) w.entries) → After limit e mu (t + 1) w
    after_next w few is fits powers = record {
      is = is ∙ same_vector;
      within = within_next limit e mu t no_step early so_far.within (subst (λ k. k ≤ limit) weight_is fits);
      powers =
          all_more (m * (v.degree + 1) + 33 * degree_after e mu t) (33 * degree_after e mu (t + 1)) w.entries
          (omega (arith, after, product)) (powers (33 * degree_after e mu t) so_far.powers);
    }
      where
        product : m * (v.degree + 1) ≤ m * 33
        product = let less : v.degree + 1 ≤ 33 = omega arith in mul-le-mul_left m less

    -- Where the induction is too large, so is the ladder vector.
    pub past_next : IsLabel e mu → limit < induction_weight e i m v.degree (vector_of v.entries) →
        limit < ladder_weight e mu
    past_next label past =
        weight_past limit e mu t no_step label early (subst (λ k. limit < k) weight_is past)

  -- ---- after the last step

  -- All steps make the ladder vector.
  pub after_all : IsLabel e mu → t ≡ length (steps e mu) → v ≡ fock_vector (degree mu) (ladder_vector e mu)
  after_all label whole =
      so_far.is ∙ ap (λ k. fock_vector (degree_after e mu k) (partial_ladder_vector e mu k)) whole
      ∙ ap (λ k. fock_vector k (partial_ladder_vector e mu (length (steps e mu)))) (degree_after_all e mu label)
      ∙ ap (λ es. let u : FockVector = record { degree = degree mu; entries = es } in u)
      (entries-alike (degree mu) (partial_ladder_vector e mu (length (steps e mu))) (ladder_vector e mu)
      (λ lambda h. partial_whole e mu lambda))

  -- No induction was too large, so the ladder vector isn't.
  pub fits_all : t ≡ length (steps e mu) → ladder_weight e mu ≤ limit
  fits_all whole = weight_within limit e mu (subst (λ k. WithinUpTo limit e mu k) whole so_far.within)
