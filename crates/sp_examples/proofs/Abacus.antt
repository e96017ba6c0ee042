-- The abacus of (4) with 3 runners and with 2.
use Rattle.std.proofs.Common.{◌≡◌, [], ◌∷◌, refl}
use Rattle.sp_defs.specs.Abacus.{beads, beta, runner, quotient, weight, core}

-- (4) has 3 beads on 3 runners.
pub beads_4 : beads 3 (4 ∷ []) ≡ 3
beads_4 = refl

-- Their numbers are 6, 1 and 0.
pub beta_4 : beta 3 (4 ∷ []) ≡ 6 ∷ 1 ∷ 0 ∷ []
beta_4 = refl

-- Two beads on runner 0, one on runner 1.
pub runner_0 : runner 3 (beta 3 (4 ∷ [])) 0 ≡ 2 ∷ 0 ∷ []
runner_0 = refl

-- The bead on runner 1 has place 0.
pub runner_1 : runner 3 (beta 3 (4 ∷ [])) 1 ≡ 0 ∷ []
runner_1 = refl

-- The 3-core of (4) is (1).
pub core_4 : core 3 (4 ∷ []) ≡ 1 ∷ []
core_4 = refl

-- Its 3-quotient has (1) on runner 0 and nothing on the others.
pub quotient_4 : quotient 3 (4 ∷ []) ≡ (1 ∷ []) ∷ [] ∷ [] ∷ []
quotient_4 = refl

-- Its 3-weight is 1.
pub weight_4 : weight 3 (4 ∷ []) ≡ 1
weight_4 = refl

-- The 2-core of (4) is empty.
pub core_at_2 : core 2 (4 ∷ []) ≡ []
core_at_2 = refl

-- Its 2-quotient has (2) on runner 1.
pub quotient_at_2 : quotient 2 (4 ∷ []) ≡ [] ∷ (2 ∷ []) ∷ []
quotient_at_2 = refl
