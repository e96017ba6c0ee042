-- Totals and the terms of a vector, walked together.
use Rattle.std.specs.Prelude.{ℕ, ◌+◌, ◌*◌, cond, List, [], ◌∷◌, map, filter, nat_lt}
use Rattle.sp_defs.specs.Laurent.{size}
use Rattle.sp_fock_law.specs.Joined.{joined, joint, Joint as JointAt}
use Rattle.sp_fock_law.specs.Tally.{Totals, constant, constants}
use Rattle.sp_fock.specs.Walk.{shown}
use Rattle.sp_fock.specs.declared.totals.Growth.{Growth}
use Rattle.sp_fock.specs.declared.totals.Growths.{Growths}

-- A growing total as the joint of a constant and a polynomial.
abbrev pub growth_of : Growth → JointAt
growth_of g = joint g.at (constant g.total) (shown g.term)

-- What is still to come.
abbrev pub growths_of : Growths → List JointAt
growths_of w = joined (constants w.totals.now) w.terms.now

-- What a total grows to, where the term has a factor of this size.
abbrev pub grown_to : ℕ → Growth → ℕ
grown_to factor g = g.total + factor * size (shown g.term)

-- The list of one total, which is empty where it is 0.
abbrev pub total_at : List ℕ → ℕ → Totals
total_at lambda total = cond (nat_lt 0 total) ((lambda, total) ∷ []) []

-- The totals along a walk, without those that are 0.
abbrev pub grown_along : ℕ → List JointAt → Totals
grown_along factor js =
    filter (λ t. nat_lt 0 t.1) (map (λ j. (j.at, size j.first + factor * size j.second)) js)
