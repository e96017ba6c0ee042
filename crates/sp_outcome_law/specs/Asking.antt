-- How far a row has been reached, when the rows of its shares are taken off its ladder vector one by one, the latest
-- first. The rank of an e-regular partition is its place, from 0, in the ascending list of those of its degree; so the
-- share at the rank j is the element j of `shares`. With t of the ranks to come, the shares from t on have been given.
use Rattle.std.specs.Prelude.{ℕ, ◌+◌, ◌*◌, Bool, true, false, cond, ◌||◌, nat_lt, List, [], reverse, length, filter}
use Rattle.std.specs.Prelude.{find}
use Rattle.std.specs.Prelude.{get_or, drop, sum_by, Option, Some, None}
use Rattle.std.specs.List.{list_any, range_with_len}
use Rattle.sp_defs.specs.Partition.{degree, partitions}
use Rattle.sp_defs.specs.Laurent.{Laurent, plus, negate, size}
use Rattle.sp_defs.specs.Power.{Vector}
use Rattle.sp_defs.specs.Ladder.{ladder_vector, ladder_weight}
use Rattle.sp_defs.specs.Row.{Factors, combination, regular_row, shares, Outcome, TooLarge, Stray, Row, outcome}

-- Whether a share isn't 0 (this project's own).
abbrev pub is_nonzero : List ℕ × Laurent → Bool
is_nonzero a = nat_lt 0 (length a.1)

-- The share of mu at a rank, with its partition, or 0 from mu's own rank on (this project's own).
unfoldable pub share_at : ℕ → List ℕ → ℕ → List ℕ × Laurent
share_at e mu j = get_or (shares e mu) j ([], [])

-- The shares at the ranks from t on that are not 0 (this project's own).
unfoldable pub given : ℕ → List ℕ → ℕ → Factors
given e mu t = filter is_nonzero (drop t (shares e mu))

-- The greatest rank below t whose share isn't 0 (this project's own).
unfoldable pub next_rank : ℕ → List ℕ → ℕ → Option ℕ
next_rank e mu t = find (λ j. is_nonzero (share_at e mu j)) (reverse (range_with_len 0 t))

-- What is left of the ladder vector without the given shares times their rows (this project's own).
unfoldable pub left : ℕ → List ℕ → ℕ → Vector
left e mu t lambda = plus (ladder_vector e mu lambda) (negate (combination (regular_row e) (given e mu t) lambda))

-- The sizes of all that has been added up at a partition: the ladder vector, and the given shares times their rows.
-- (this project's own)
unfoldable pub total : ℕ → List ℕ → ℕ → List ℕ → ℕ
total e mu t lambda =
    size (ladder_vector e mu lambda) + sum_by (λ a. size a.1 * size (regular_row e a.0 lambda)) (given e mu t)

-- The outcome that is no vector (this project's own).
abbrev pub is_too_large : Outcome → Bool
is_too_large TooLarge = true
is_too_large (Stray lambda) = false
is_too_large Row = false

-- A partition with a given share has no row within the limit (this project's own).
unfoldable pub given_past : ℕ → ℕ → List ℕ → ℕ → Bool
given_past e limit mu t = list_any (λ a. is_too_large (outcome e limit a.0)) (given e mu t)

-- The sizes at some partition are past the limit (this project's own).
unfoldable pub total_past : ℕ → ℕ → List ℕ → ℕ → Bool
total_past e limit mu t = list_any (λ lambda. nat_lt limit (total e mu t lambda)) (partitions (degree mu))

-- The size of the share at a rank is past the limit, where there is such a rank (this project's own).
unfoldable pub share_past : ℕ → ℕ → List ℕ → Option ℕ → Bool
share_past e limit mu None = false
share_past e limit mu (Some j) = nat_lt limit (size (share_at e mu j).1)

-- What has been given, or the next share, is past the limit already (this project's own).
unfoldable pub is_past : ℕ → ℕ → List ℕ → ℕ → Bool
is_past e limit mu t =
    nat_lt limit (ladder_weight e mu) ||
    (given_past e limit mu t || (total_past e limit mu t || share_past e limit mu (next_rank e mu t)))

-- The rank whose row is asked for next; none where the outcome is decided (this project's own).
unfoldable pub asked : ℕ → ℕ → List ℕ → ℕ → Option ℕ
asked e limit mu t = cond (is_past e limit mu t) None (next_rank e mu t)
