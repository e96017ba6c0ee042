-- What a word is read as: a number, or a partition. Words are lists of ASCII codes.
use Rattle.std.specs.Prelude.{ℕ, ◌-◌, Bool, false, true, not, ◌&&◌, ◌||◌, nat_eq, nat_le, nat_lt, cond, Option}
use Rattle.std.specs.Prelude.{Some, None, List, [], ◌∷◌, ◌++◌, codes, length, replicate, slice_range, Result, Ok, Err}
use Rattle.std.specs.Char.{is_digit}
use Rattle.std.specs.Cmp.Lexicographic.{pointwise}
use Rattle.std.specs.List.{list_all, slice_split, starts_with, ends_with}
use Rattle.std.specs.Option.{option_map, option_and_then}
use Rattle.std.specs.Str.Parse.{digits_value}
use Rattle.sp_defs.specs.Partition.{degree}
use Rattle.sp_partition.specs.declared.TheConstants.{CAPACITY}
use Rattle.sp_partition.specs.declared.partition.NotPartition.{NotPartition}
use Rattle.sp_partition.specs.declared.partition.NotPartition.TheVariants.{Shape, PastCapacity}

-- ---- numbers

-- Digits, of which the first is 0 only where it is the one digit (this project's own).
abbrev pub is_number : List ℕ → Bool
is_number [] = false
is_number (d ∷ ds) = list_all (λ c. is_digit c 10) (d ∷ ds) && (nat_eq (length ds) 0 || not (nat_eq d 48))

-- The number that a word writes, of any length (this project's own).
unfoldable pub number_of : List ℕ → Option ℕ
number_of text = cond (is_number text) (Some (digits_value 10 text)) None

-- The same, of at least 1 (this project's own).
abbrev pub positive_of : List ℕ → Option ℕ
positive_of text = option_and_then (λ n. cond (nat_lt 0 n) (Some n) None) (number_of text)

-- ---- partitions

-- The pieces between the marks (this project's own).
abbrev pub cut : ℕ → List ℕ → List (List ℕ)
cut mark text = slice_split (λ c. nat_eq c mark) text

-- The parts of an item, cut at its `^`: a part, or a part and how often it stands there (this project's own).
abbrev pub item_of : List (List ℕ) → Option (List ℕ)
item_of [] = None
item_of (base ∷ []) = option_map (λ p. p ∷ []) (positive_of base)
item_of (base ∷ exponent ∷ []) =
    option_and_then (λ p. option_map (λ m. replicate m p) (positive_of exponent)) (positive_of base)
item_of (base ∷ exponent ∷ other ∷ pieces) = None

-- The parts of all the items, in order (this project's own).
abbrev pub items_of : List (List ℕ) → Option (List ℕ)
items_of [] = Some []
items_of (item ∷ items) =
    option_and_then (λ parts. option_map (λ more. parts ++ more) (items_of items)) (item_of (cut 94 item))

-- The parts decrease weakly (this project's own).
abbrev pub falls : List ℕ → Bool
falls [] = true
falls (p ∷ []) = true
falls (p ∷ q ∷ parts) = nat_le q p && falls (q ∷ parts)

-- Items with commas between (this project's own).
abbrev pub list_of : List ℕ → Option (List ℕ)
list_of text = option_and_then (λ parts. cond (falls parts) (Some parts) None) (items_of (cut 44 text))

-- The text between `(` at its start and `)` at its end, where it has both (this project's own).
abbrev pub inner : List ℕ → List ℕ
inner text =
    cond (starts_with nat_eq text (codes "(") && ends_with nat_eq text (codes ")"))
    (slice_range text 1 (length text - 1)) text

-- A dash is the empty partition. Any other is a list, or a list in parentheses (this project's own).
unfoldable pub partition_of : List ℕ → Option (List ℕ)
partition_of text = cond (pointwise nat_eq text (codes "-")) (Some []) (list_of (inner text))

-- ---- what the type has room for

-- What comes of reading a text that stands for this partition, or for none (this project's own).
abbrev pub parsed : Option (List ℕ) → Result (List ℕ) NotPartition
parsed None = Err Shape
parsed (Some p) = cond (nat_le (degree p) CAPACITY) (Ok p) (Err PastCapacity)
