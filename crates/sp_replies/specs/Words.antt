-- Texts of words and of lines. This project's own.
use Rattle.std.specs.Prelude.{ℕ, List, [], ◌∷◌, ◌++◌, codes}
use Rattle.sp_defs.specs.Text.{joined_by}

abbrev pub line_of : List ℕ → List ℕ
line_of text = text ++ codes "\n"

-- The words with a space between each two, and a dash where there is none.
abbrev pub dash_or_words : List (List ℕ) → List ℕ
dash_or_words [] = codes "-"
dash_or_words (word ∷ words) = joined_by (codes " ") (word ∷ words)
