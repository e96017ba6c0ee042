-- The shares that aren't 0, by ranks.
use Rattle.std.specs.Prelude.{ℕ, List, [], map, reverse, length, cond}
use Rattle.sp_defs.specs.Laurent.{Laurent}
use Rattle.sp_defs.specs.Row.{earlier, outcome}
use Rattle.sp_outcome_law.specs.Asking.{given, is_too_large}
use Rattle.sp_llt.specs.declared.share.Share.{Share}

-- The rank of an e-regular partition: how many of its degree are earlier.
abbrev pub rank_of : ℕ → List ℕ → ℕ
rank_of e nu = length (earlier e nu)

abbrev pub ranked_share : ℕ → List ℕ × Laurent → Share
ranked_share e a = record { rank = rank_of e a.0; alpha = a.1 }

-- The shares at the ranks from t on that aren't 0, the greatest rank first.
unfoldable pub given_shares : ℕ → List ℕ → ℕ → List Share
given_shares e mu t = reverse (map (ranked_share e) (given e mu t))

-- What is told of the shares: all that aren't 0, or none where the row is too large.
abbrev pub told_shares : ℕ → ℕ → List ℕ → List Share
told_shares e limit mu = cond (is_too_large (outcome e limit mu)) [] (given_shares e mu 0)
