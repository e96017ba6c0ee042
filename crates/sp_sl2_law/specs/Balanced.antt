-- Balanced integers, and how many more addable than removable i-nodes a partition has.
-- Lusztig, 1993: Introduction to Quantum Groups.
use Rattle.std.specs.Prelude.{ℕ, suc, ◌+◌, ◌*◌, nat_eq, List, count_by, ℤ, pos, negsuc, ◌-ℤ◌}
use Rattle.std.specs.List.{range_with_len}
use Rattle.sp_defs.specs.Node.{residue, addable, removable}
use Rattle.sp_defs.specs.Laurent.{Laurent, power, negate, sum_over}

-- The balanced integer of a natural number k: v^(1-k) + v^(3-k) + .. + v^(k-1), with k terms.
-- (Lusztig, Introduction to Quantum Groups, 1993, 1.3)
unfoldable pub balanced_natural : ℕ → Laurent
balanced_natural k = sum_over (range_with_len 0 k) (λ j. power (pos (2 * j + 1) -ℤ pos k))

-- The balanced integer [k], where [-k] is -[k].
-- (Lusztig, Introduction to Quantum Groups, 1993, 1.3)
unfoldable pub balanced : ℤ → Laurent
balanced (pos k) = balanced_natural k
balanced (negsuc k) = negate (balanced_natural (suc k))

-- The number of addable i-nodes minus the number of removable i-nodes.
-- (Lascoux, Leclerc and Thibon, Comm. Math. Phys. 181, 1996, section 4)
abbrev pub corner_difference : ℕ → ℕ → List ℕ → ℤ
corner_difference e i parts =
    pos (count_by (λ x. nat_eq (residue e x) i) (addable parts)) -ℤ pos
    (count_by (λ x. nat_eq (residue e x) i) (removable parts))
