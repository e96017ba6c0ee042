-- Runs: equal parts that stand together.
use Rattle.std.specs.Prelude.{ℕ, List, nat_eq, slice_index}
use Rattle.std.specs.List.{prefix_len}
use Rattle.sp_defs.specs.Text.{part_text}

-- How many parts at the front equal the first.
abbrev pub lead : List ℕ → ℕ
lead parts = prefix_len (λ q. nat_eq q (slice_index parts 0)) parts

-- The text of the parts at the front that are equal.
abbrev pub lead_text : List ℕ → List ℕ
lead_text parts = part_text (slice_index parts 0) (lead parts)
