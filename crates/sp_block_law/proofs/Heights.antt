-- The heights of the runners, which are the numbers of their beads: contents give them, and they tell the core.
use Rattle.std.proofs.Common.{◌≡◌, ℕ, ◌+◌, ◌*◌, ◌%◌, ◌<◌, ◌≤◌, List, length, sym, ◌∙◌, ap, ap₂, arith}
use Rattle.sp_defs.specs.Node.{content}
use Rattle.sp_defs.specs.Abacus.{shown, runner, core}
use Rattle.sp_abacus_law.specs.Beads.{numbers}
use Rattle.sp_abacus_law.proofs.Falling.{length-down}
use Rattle.sp_abacus_law.proofs.Numbers.{length-numbers}
use Rattle.sp_abacus_law.proofs.Shown.{numbers-shown}
use Rattle.sp_abacus_law.proofs.Runners.{fallen, runner-down}
use Rattle.sp_abacus_law.proofs.Weight.{runner-fallen, fallen-falls, length-fallen}
use Rattle.sp_abacus_law.proofs.MoreBeads.{fallen-alike, core-numbers}
use Rattle.sp_block_law.proofs.BeadSteps.{bead_steps}

-- How many beads runner i has, of j times e beads.
abbrev pub height : ℕ → ℕ → List ℕ → ℕ → ℕ
height e j parts i = length (runner e (numbers parts (j * e)) i)

-- A runner has j beads, one more for each node of its residue, and one less for each of the next.
pub height-content : (e i j : ℕ) (parts : List ℕ) → 1 ≤ e → i < e → length parts ≤ j * e →
    height e j parts i + content e parts ((i + 1) % e) ≡ j + content e parts i
height-content e i j parts he hi enough =
    bead_steps e i j 1 (j * e) parts he hi (turned (j * e)) enough
    ∙ ap (λ n. n + content e parts i) (ap length (runner-down e i j hi) ∙ length-down j)
  where
    turned : (n : ℕ) → 1 + n ≡ n + 1
    turned n = omega arith

-- The beads slid down are the core's.
fallen-core : (e j : ℕ) (parts : List ℕ) → 1 ≤ e → length parts ≤ j * e →
    fallen e (numbers parts (j * e)) ≡ numbers (core e parts) (j * e)
fallen-core e j parts he enough =
    sym (numbers-shown (fallen e (numbers parts (j * e))) (fallen-falls e (numbers parts (j * e))))
    ∙ ap₂ numbers (core-numbers e j parts he enough)
    (length-fallen e (numbers parts (j * e)) he ∙ length-numbers parts (j * e))

-- Partitions with one core have the same heights,
pub same_heights : (e i j : ℕ) (x y : List ℕ) → 1 ≤ e → i < e → length x ≤ j * e → length y ≤ j * e →
    core e x ≡ core e y → height e j x i ≡ height e j y i
same_heights e i j x y he hi hx hy same =
    sym (ap length (runner-fallen e (numbers x (j * e)) i hi) ∙ length-down (height e j x i))
    ∙ ap (λ bs. length (runner e bs i))
    (fallen-core e j x he hx ∙ ap (λ c. numbers c (j * e)) same ∙ sym (fallen-core e j y he hy))
    ∙ ap length (runner-fallen e (numbers y (j * e)) i hi)
    ∙ length-down (height e j y i)

-- and those with the same heights have one core.
pub heights_core : (e j : ℕ) (x y : List ℕ) → 1 ≤ e → length x ≤ j * e → length y ≤ j * e →
    ((i : ℕ) → i < e → height e j x i ≡ height e j y i) → core e x ≡ core e y
heights_core e j x y he hx hy same =
    sym (core-numbers e j x he hx)
    ∙ ap shown (fallen-alike e (numbers x (j * e)) (numbers y (j * e)) he
    (length-numbers x (j * e) ∙ sym (length-numbers y (j * e))) same)
    ∙ core-numbers e j y he hy
