-- The words of a line. This project's own.
use Rattle.std.specs.Prelude.{ℕ, ◌==◌, Bool, true, false, ◌&&◌, ◌||◌, nat_le, List, [], ◌∷◌, filter}
use Rattle.std.specs.List.{slice_split}
use Rattle.sp_partition.specs.Reading.{cut}

-- The printable characters of ASCII, and the tab.
abbrev pub is_allowed : ℕ → Bool
is_allowed byte = (nat_le 32 byte && nat_le byte 126) || byte == 9

-- A space or a tab.
abbrev pub is_blank : ℕ → Bool
is_blank byte = byte == 32 || byte == 9

-- A piece with a byte in it.
abbrev pub is_word : List ℕ → Bool
is_word [] = false
is_word (byte ∷ bytes) = true

-- What stands between blanks. Two blanks side by side have no word between them.
unfoldable pub words : List ℕ → List (List ℕ)
words line = filter is_word (slice_split is_blank line)

-- What stands between bars, as in a quotient.
abbrev pub pieces : List ℕ → List (List ℕ)
pieces word = cut 124 word
