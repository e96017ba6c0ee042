-- Answers on restrictions. This project's own.
use Rattle.std.specs.Prelude.{ℕ, ◌-◌, cond, nat_lt, List}
use Rattle.sp_defs.specs.Partition.{degree}
use Rattle.sp_defs.specs.Power.{Vector, entries, unit}
use Rattle.sp_defs.specs.Row.{regular_row, Outcome, TooLarge, Stray, Row, outcome}
use Rattle.sp_defs.specs.Text.{vector_text}
use Rattle.sp_sl2_law.specs.Restriction.{restriction, restriction_weight}
use Rattle.sp_sl2_law.specs.Commutator.{commutator, commutator_weight}
use Rattle.sp_replies.specs.Refusals.{refusal_line}
use Rattle.sp_replies.specs.Words.{line_of}
use Rattle.sp_replies.specs.declared.refusals.Refusal.TheVariants as refusal

-- e_i on p.
abbrev pub restricted_text : ℕ → ℕ → List ℕ → List ℕ
restricted_text e i p = line_of (vector_text (entries (degree p - 1) (restriction e i (unit p))))

-- A vector of degree n, unless its weight is past the limit.
abbrev pub vector_or_refusal : ℕ → ℕ → ℕ → Vector → List ℕ
vector_or_refusal limit weight n w =
    cond (nat_lt limit weight) (refusal_line refusal.TooLarge) (line_of (vector_text (entries n w)))

-- e_i on a vector of degree n, unless it is too large.
abbrev pub restriction_or_refusal : ℕ → ℕ → ℕ → ℕ → Vector → List ℕ
restriction_or_refusal limit e i n w = vector_or_refusal limit (restriction_weight e i n w) (n - 1) (restriction e i w)

-- e_i f_j - f_j e_i on a vector of degree n, unless it is too large.
abbrev pub commutator_or_refusal : ℕ → ℕ → ℕ → ℕ → ℕ → Vector → List ℕ
commutator_or_refusal limit e i j n w = vector_or_refusal limit (commutator_weight e i j n w) n (commutator e i j w)

-- That of p.
abbrev pub commutator_text : ℕ → ℕ → ℕ → ℕ → List ℕ → List ℕ
commutator_text limit e i j p = commutator_or_refusal limit e i j (degree p) (unit p)

-- e_i on the row, or why there is none.
abbrev pub branch_or_refusal : ℕ → ℕ → ℕ → List ℕ → Outcome → List ℕ
branch_or_refusal limit e i mu TooLarge = refusal_line refusal.TooLarge
branch_or_refusal limit e i mu (Stray at) = refusal_line (refusal.Stray at)
branch_or_refusal limit e i mu Row = restriction_or_refusal limit e i (degree mu) (regular_row e mu)

abbrev pub branch_text : ℕ → ℕ → ℕ → List ℕ → List ℕ
branch_text limit e i mu = branch_or_refusal limit e i mu (outcome e limit mu)
