-- One line after the other.
use Rattle.std.proofs.Common.{◌≡◌, ℕ, suc, ◌++◌, List, [], ◌∷◌, refl, sym, ◌∙◌, ap, append_assoc, append-nil}
use Rattle.sp_words.specs.Generated.{line_behind, line_text, lines_behind, lines_text, next_number}

lines_more : (count rest number : ℕ) → count ≡ suc rest → lines_behind count number
    ≡ line_behind number ∷ lines_behind rest (next_number (next_number (next_number number)))
unfolding lines_behind
lines_more count rest number is = rw is refl

no_lines : (count number : ℕ) → count ≡ 0 → lines_behind count number ≡ []
unfolding lines_behind
no_lines count number is = rw is refl

-- A line more was written, and one less is left.
pub one_line : (out : List ℕ) (count rest number : ℕ) → count ≡ suc rest →
    (out ++ line_text (line_behind number))
    ++ lines_text (lines_behind rest (next_number (next_number (next_number number))))
    ≡ out ++ lines_text (lines_behind count number)
one_line out count rest number is =
    append_assoc out (line_text (line_behind number)) _
    ∙ sym (ap (λ lines. out ++ lines_text lines) (lines_more count rest number is))

-- No line is left.
pub all_lines : (out : List ℕ) (count number : ℕ) → count ≡ 0 → out ++ lines_text (lines_behind count number) ≡ out
all_lines out count number is =
    ap (λ lines. out ++ lines_text lines) (no_lines count number is) ∙ append-nil out
