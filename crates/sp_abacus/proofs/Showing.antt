-- What the contracts say of the partitions that are shown.
use Rattle.std.proofs.Common.{◌≡◌, ℕ, ◌+◌, ◌-◌, ◌*◌, ◌/◌, ◌<◌, ◌≤◌, List, ◌∙◌, ap, arith}
use Rattle.std.proofs.lemmas.Nat.{div-mul-add}
use Rattle.sp_defs.specs.Partition.{degree}
use Rattle.sp_defs.specs.Abacus.{beta, shown, runner, core, weight}
use Rattle.sp_partition.specs.Held.{IsHeld}
use Rattle.sp_abacus_law.specs.Beads.{Falls}
use Rattle.sp_abacus_law.proofs.Numbers.{beta-falls}
use Rattle.sp_abacus_law.proofs.Shown.{shown-partition}
use Rattle.sp_abacus_law.proofs.Runners.{runner-falls}
use Rattle.sp_abacus_law.proofs.Weight.{degree-core}
use Rattle.sp_abacus_law.proofs.Bounds.{degree-core-le, degree-runner-le}

-- Numbers that fall and show at most 32 nodes show a partition that can be held.
pub shown-held : (numbers : List ℕ) → Falls numbers → degree (shown numbers) ≤ 32 → IsHeld (shown numbers)
shown-held numbers f small = record { partition = shown-partition numbers f; small = small }

-- The places on a runner fall,
pub runner_falls : (e i : ℕ) (parts : List ℕ) → 2 ≤ e → IsHeld parts → Falls (runner e (beta e parts) i)
runner_falls e i parts he h = runner-falls e (beta e parts) i (omega arith) (beta-falls e parts h.partition)

-- and show at most 32 nodes.
pub runner_small : (e i : ℕ) (parts : List ℕ) → 2 ≤ e → i < e → IsHeld parts →
    degree (shown (runner e (beta e parts) i)) ≤ 32
runner_small e i parts he hi h =
    omega (arith, h.small, degree-runner-le e parts i (omega arith) hi h.partition)

-- So does the core.
pub core_small : (e : ℕ) (parts : List ℕ) → 2 ≤ e → IsHeld parts → degree (core e parts) ≤ 32
core_small e parts he h = omega (arith, h.small, degree-core-le e parts (omega arith) h.partition)

-- The weight is what the core has less, in hooks of e nodes.
pub weight_by_core : (e : ℕ) (parts : List ℕ) → 2 ≤ e → IsHeld parts →
    (degree parts - degree (core e parts)) / e ≡ weight e parts
weight_by_core e parts he h =
    ap (λ n. n / e)
    (taken (degree parts) (degree (core e parts)) (weight e parts)
    (degree-core e parts (omega arith) h.partition))
    ∙ div-mul-add (weight e parts) e 0 (omega arith)
  where
    taken : (n c w : ℕ) → n ≡ c + e * w → n - c ≡ w * e + 0
    taken n c w eq = omega arith
