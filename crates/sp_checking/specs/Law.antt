-- Where a certificate ends. This project's own.
use Rattle.std.specs.Prelude.{◌≡◌, ℕ, not, true, false, List, []}
use Rattle.sp_checking.specs.SoFar.{after, is_end, is_open, line_text}
use Rattle.sp_checking.specs.declared.so_far.Checking.{Checking}

-- A certificate goes on up to the first line that is `end`, whether it is malformed or not, and is answered by no other
-- line.
pub record EndLaw : Type 0 where
  pub ends : (c : Checking) (line : List ℕ) → is_open c ≡ true → is_open (after c line) ≡ not (is_end line)
  pub silent : (limit : ℕ) (c : Checking) (line : List ℕ) → is_end line ≡ false → line_text limit c line ≡ []
