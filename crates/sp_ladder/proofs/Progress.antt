-- How far the code has come in the steps of mu: what it can ask for, and what the answers mean.
use Rattle.std.proofs.Common.{◌≡◌, ℕ, ◌+◌, ◌*◌, ◌<◌, ◌≤◌, true, List, [], map, length, get_or, sym, ◌∙◌, ap, subst}
use Rattle.std.proofs.Common.{arith}
use Rattle.std.proofs.lemmas.List.{get_or-map, length-map}
use Rattle.sp_defs.specs.Partition.{degree, is_regular}
use Rattle.sp_defs.specs.Power.{vector_of, unit, divided_power, induction_weight, FockVector, fock_vector}
use Rattle.sp_defs.specs.Ladder.{Step as PlainStep, steps, ladders, ladder_residue, on_ladder, ladder_vector}
use Rattle.sp_defs.specs.Ladder.{ladder_weight}
use Rattle.sp_defs.specs.Statements.{IsLabel}
use Rattle.sp_partition.specs.Held.{IsHeld}
use Rattle.sp_power.specs.Arrivals.{AllWithin, half_power_limit}
use Rattle.sp_ladder_law.proofs.Weights.{degree_after}
use Rattle.sp_ladder.specs.declared.step.Step.{Step}
use Rattle.sp_ladder.specs.Obeys.{ObeysLadderLaw}
use Rattle.sp_ladder.specs.Steps.{step_on}
use Rattle.sp_ladder.proofs.Obeys.{obeys}
use Rattle.sp_ladder.proofs.Partial.{no_step, nth_step, After, after_none, after_next, past_next, room_next, after_all}
use Rattle.sp_ladder.proofs.Partial.{fits_all}
use Rattle.sp_ladder.proofs.Partial.{degree_small}
use Rattle.sp_power.proofs.Units.{all_more}

-- Before step t of the list that the code made, with the vector so far.
pub record Progress (limit e : ℕ) (mu : List ℕ) (list : List Step) (t : ℕ) (v : FockVector) : Type 0 where
  pub label : IsLabel e mu
  pub small : degree mu ≤ 32
  pub list_is : list ≡ map (step_on e mu) (ladders e mu)
  pub after : After limit e mu t v

-- The code begins with the vector that has 1 at the empty partition.
pub begins : (limit e : ℕ) (mu : List ℕ) (list : List Step) (v : FockVector) → 1 ≤ limit → 2 ≤ e →
    is_regular e mu ≡ true → IsHeld mu → list ≡ map (step_on e mu) (ladders e mu) → v ≡ fock_vector 0 (unit []) →
    Progress limit e mu list 0 v
begins limit e mu list v least he regular held list_is is = record {
  label = record { e_least = he; partition = held.partition; regular = regular };
  small = held.small;
  list_is = list_is;
  after = after_none limit e mu v least is;
}

-- ---- the code's steps are those of the definition

-- The step for a ladder.
abbrev step_at : ℕ → List ℕ → ℕ → PlainStep
step_at e mu l = record { residue = ladder_residue e l; count = on_ladder e mu l }

length-steps : (e : ℕ) (mu : List ℕ) → length (steps e mu) ≡ length (ladders e mu)
unfolding steps
length-steps e mu = length-map (ladders e mu) (step_at e mu)

length-list : (e : ℕ) (mu : List ℕ) (list : List Step) → list ≡ map (step_on e mu) (ladders e mu) →
    length list ≡ length (steps e mu)
length-list e mu list is = ap length is ∙ length-map (ladders e mu) (step_on e mu) ∙ sym (length-steps e mu)

nth_ladder : (e : ℕ) (mu : List ℕ) (t : ℕ) → t < length (ladders e mu) →
    nth_step e mu t ≡ step_at e mu (get_or (ladders e mu) t 0)
unfolding steps
nth_ladder e mu t lt = get_or-map (step_at e mu) (ladders e mu) t 0 no_step lt

-- ---- a step

-- What the code may ask for and is told at a step.
pub record CanStep (limit e : ℕ) (mu : List ℕ) (t : ℕ) (v : FockVector) (step : Step) : Type 0 where
  pub below : step.residue < e
  pub room : v.degree + step.count ≤ degree mu
  pub past : limit < induction_weight e step.residue step.count v.degree (vector_of v.entries) →
      limit < ladder_weight e mu
  pub next : (w : FockVector) →
      w ≡ fock_vector (v.degree + step.count) (divided_power e step.residue step.count (vector_of v.entries)) →
      induction_weight e step.residue step.count v.degree (vector_of v.entries) ≤ limit →
      ((d : ℕ) → AllWithin d v.entries → AllWithin (step.count * (v.degree + 1) + d) w.entries) →
      After limit e mu (t + 1) w

module _ (limit e : ℕ) (mu : List ℕ) (list : List Step) (t : ℕ) (v : FockVector)
    (p : Progress limit e mu list t v) where
  -- The powers so far are small.
  pub powers_small : AllWithin half_power_limit v.entries
  powers_small =
      all_more (33 * degree_after e mu t) half_power_limit v.entries
      (omega (arith, degree_small e mu t p.label, p.small)) p.after.powers

  -- The next step of the list.
  pub can_step : (d : Step) → t < length list → CanStep limit e mu t v (get_or list t d)
  can_step d lt = record {
    below = subst (λ n. n < e) (sym (ap (λ s. s.residue) here)) small_residue;
    room = room;
    past = past_next limit e mu t v p.after step.residue step.count early residue count p.label;
    next = λ w. after_next limit e mu t v p.after step.residue step.count early residue count w
        (omega (arith, room, p.small));
  }
    where
      step : Step
      step = get_or list t d

      l : ℕ
      l = get_or (ladders e mu) t 0

      early : t < length (steps e mu)
      early = omega (arith, lt, length-list e mu list p.list_is)

      early_ladder : t < length (ladders e mu)
      early_ladder = omega (arith, early, length-steps e mu)

      here : step ≡ step_on e mu l
      here = ap (λ xs. get_or xs t d) p.list_is ∙ get_or-map (step_on e mu) (ladders e mu) t 0 d early_ladder

      small_residue : ladder_residue e l < e
      small_residue = let some : 2 ≤ e = p.label.e_least in omega arith

      residue : step.residue ≡ (nth_step e mu t).residue
      residue = ap (λ s. s.residue) here ∙ sym (ap (λ s. s.residue) (nth_ladder e mu t early_ladder))

      count : step.count ≡ (nth_step e mu t).count
      count = ap (λ s. s.count) here ∙ sym (ap (λ s. s.count) (nth_ladder e mu t early_ladder))

      room : v.degree + step.count ≤ degree mu
      room = room_next limit e mu t v p.after step.residue step.count early residue count p.label

  -- What has room for mu has room for the next step's nodes.
  pub room_within : (most : ℕ) (d : Step) → t < length list → degree mu ≤ most →
      v.degree + (get_or list t d).count ≤ most
  room_within most d lt le = let step : CanStep limit e mu t v (get_or list t d) = can_step d lt in
      omega (arith, step.room, le)

  -- One step on.
  pub goes_on : (w : FockVector) → After limit e mu (t + 1) w → Progress limit e mu list (t + 1) w
  goes_on w next = record { label = p.label; small = p.small; list_is = p.list_is; after = next }

  -- ---- the end

  module _ (past : length list ≤ t) (reached : t ≤ length list) where
    whole : t ≡ length (steps e mu)
    whole = omega (arith, length-list e mu list p.list_is, past, reached)

    -- The ladder vector is made.
    pub ends : v ≡ fock_vector (degree mu) (ladder_vector e mu)
    ends = after_all limit e mu t v p.after p.label whole

    -- It isn't too large.
    pub ends_within : ladder_weight e mu ≤ limit
    ends_within = fits_all limit e mu t v p.after whole

    -- It obeys the ladder law.
    pub ends_obeying : ObeysLadderLaw e mu v.entries
    ends_obeying =
        subst (λ (u : FockVector). ObeysLadderLaw e mu u.entries) (sym ends) (obeys e mu p.label)
