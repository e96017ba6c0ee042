-- Induction of one node, applied several times, and divided powers.
-- Lusztig, 1993: Introduction to Quantum Groups.
use Rattle.std.specs.Prelude.{◌≡◌, ℕ, zero, suc, ◌+◌, ◌≤◌, List}
use Rattle.sp_defs.specs.Partition.{IsPartition}
use Rattle.sp_defs.specs.Laurent.{Laurent, one, times}
use Rattle.sp_defs.specs.Power.{Vector, divided_power}
use Rattle.sp_sl2_law.specs.Balanced.{balanced_natural}

-- The balanced factorial [m]! = [m] .. [2] [1].
-- (Lusztig, Introduction to Quantum Groups, 1993, 1.3)
unfoldable pub balanced_factorial : ℕ → Laurent
balanced_factorial zero = one
balanced_factorial (suc m) = times (balanced_natural (suc m)) (balanced_factorial m)

-- f_i applied m times.
-- (Lascoux, Leclerc and Thibon, Comm. Math. Phys. 181, 1996, section 4)
unfoldable pub repeated_induction : ℕ → ℕ → ℕ → Vector → Vector
repeated_induction e i zero w = w
repeated_induction e i (suc m) w = divided_power e i 1 (repeated_induction e i m w)

-- f_i f_i^(m) = [m + 1] f_i^(m + 1)
-- (Lusztig, Introduction to Quantum Groups, 1993, 3.1)
abbrev pub NextPowerLaw : Type 0
NextPowerLaw =
    (e i m : ℕ) → 2 ≤ e → (w : Vector) (nu : List ℕ) → IsPartition nu →
    divided_power e i 1 (divided_power e i m w) nu ≡ times (balanced_natural (m + 1)) (divided_power e i (m + 1) w nu)

-- f_i applied m times, for an m of at least 1, is [m]! f_i^(m).
-- (Lascoux, Leclerc and Thibon, Comm. Math. Phys. 181, 1996, section 4; Lusztig 1993, 3.1)
abbrev pub DividedPowerLaw : Type 0
DividedPowerLaw =
    (e i m : ℕ) → 2 ≤ e → 1 ≤ m → (w : Vector) (nu : List ℕ) → IsPartition nu →
    repeated_induction e i m w nu ≡ times (balanced_factorial m) (divided_power e i m w nu)
