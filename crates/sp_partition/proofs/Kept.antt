-- What is written at the end of a list keeps what stands there.
use Rattle.std.proofs.Common.{◌≡◌, ℕ, ◌++◌, List, take, length, arith}
use Rattle.std.proofs.lemmas.Grind.{common_steps}

-- What two lists keep, one after the other.
pub kept_on : (first second third : List ℕ) → take (length first) second ≡ first → take (length second) third ≡ second →
    take (length first) third ≡ first
kept_on first second third h k = grind (arith, common_steps)

-- A list with more behind it.
pub kept_append : (first more : List ℕ) → take (length first) (first ++ more) ≡ first
kept_append first more = grind (arith, common_steps)

-- What a list keeps that has more behind it.
pub kept_more : (first second third more : List ℕ) → take (length first) second ≡ first → third ≡ second ++ more →
    take (length first) third ≡ first
kept_more first second third more h e = kept_on first second third h (rw e (kept_append second more))
