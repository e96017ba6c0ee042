-- The lines that are made from a number. This project's own.
use Rattle.std.specs.Prelude.{ℕ, zero, suc, ◌+◌, ◌*◌, ◌/◌, ◌%◌, ◌^◌, ◌++◌, ◌==◌, if◌then◌else◌, List, [], ◌∷◌, map}
use Rattle.std.specs.Prelude.{codes}
use Rattle.std.specs.Prelude.{decimal}
use Rattle.std.specs.List.{concat}
use Rattle.sp_words.specs.declared.lines.Kind.{Kind}
use Rattle.sp_words.specs.declared.lines.Kind.TheVariants.{Crystal, Decomposition, Dims, Certificate}
use Rattle.sp_words.specs.declared.lines.Line.{Line}

-- ---- as numbers

-- The number behind another one.
abbrev pub next_number : ℕ → ℕ
next_number number = (1103515245 * number + 12345) % 2 ^ 31

-- What is drawn from a number: its upper bits.
abbrev pub draw : ℕ → ℕ
draw number = number / 65536

abbrev pub kind_of : ℕ → Kind
kind_of k = if k == 0 then Crystal else if k == 1 then Decomposition else if k == 2 then Dims else Certificate

-- The line that the three numbers behind this one say, each by what is drawn from it.
abbrev pub line_behind : ℕ → Line
line_behind number =
    let first = next_number number in
    let second = next_number first in
    let third = next_number second in
    record { kind = kind_of (draw first % 4); e = 2 + draw second % 5; n = 6 + draw third % 5 }

-- So many lines, each by the three numbers behind those of the line before.
unfoldable pub lines_behind : ℕ → ℕ → List Line
lines_behind zero number = []
lines_behind (suc count) number =
    line_behind number ∷ lines_behind count (next_number (next_number (next_number number)))

-- ---- as a text

abbrev pub word_of : Kind → List ℕ
word_of Crystal = codes "crystal"
word_of Decomposition = codes "decomposition"
word_of Dims = codes "dims"
word_of Certificate = codes "certificate"

-- The command, e and n with a space between, and the newline.
abbrev pub line_text : Line → List ℕ
line_text line =
    word_of line.kind ++ (codes " " ++ (decimal line.e ++ (codes " " ++ (decimal line.n ++ 10 ∷ []))))

abbrev pub lines_text : List Line → List ℕ
lines_text lines = concat (map line_text lines)

-- The input that a program makes from a number: 200 lines.
abbrev pub generated_text : ℕ → List ℕ
generated_text start = lines_text (lines_behind 200 start)
