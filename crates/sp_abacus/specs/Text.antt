-- The abacus as a text. It is this project's own.
use Rattle.std.specs.Prelude.{ℕ, ◌+◌, ◌*◌, ◌/◌, cond, max, List, [], ◌∷◌, ◌++◌, map, flat_map, codes}
use Rattle.std.specs.List.{range_with_len}
use Rattle.sp_defs.specs.Abacus.{beta}
use Rattle.sp_abacus_law.specs.Combined.{member}

-- A line ends with a newline.
abbrev pub newline : List ℕ
newline = 10 ∷ []

-- A small o for a bead, and a dot where there is none.
abbrev pub character : List ℕ → ℕ → ℕ
character numbers n = cond (member n numbers) 111 46

-- The numbers of this place, from runner 0 on.
abbrev pub place_line : ℕ → List ℕ → ℕ → List ℕ
place_line e numbers place =
    map (λ runner. character numbers (e * place + runner)) (range_with_len 0 e) ++ newline

-- One more than the greatest place that has a bead, and 0 where there is no bead.
abbrev pub places : ℕ → List ℕ → ℕ
places e [] = 0
places e (n ∷ numbers) = max (n / e + 1) (places e numbers)

-- One line for each place. The empty partition has a line with a dash.
abbrev pub abacus_text : ℕ → List ℕ → List ℕ
abacus_text e [] = codes "-" ++ newline
abacus_text e (p ∷ parts) =
    let numbers = beta e (p ∷ parts) in flat_map (place_line e numbers) (range_with_len 0 (places e numbers))
