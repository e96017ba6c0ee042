-- Which words of the command line are allowed, and what they say. This project's own.
use Rattle.std.specs.Prelude.{◌≡◌, ◌⊎◌, ℕ, ◌^◌, ◌-◌, ◌≤◌, ◌++◌, Bool, true, if◌then◌else◌, List, [], ◌∷◌, length}
use Rattle.std.specs.Prelude.{slice_index, Option, Some, None, codes}
use Rattle.std.specs.List.{list_any}
use Rattle.std.specs.Str.{bytes_eq}
use Rattle.std.specs.Str.Parse.{IsNumeral, digits_value}
use Rattle.sp_words.specs.declared.words.Words.{Words}

abbrev pub Text : Type 0
Text = List ℕ

-- ---- the options that words name

-- Options with their texts: each stands as the word `--name=text`, or as the word `--name` and the text behind it.
abbrev pub Spells : List Text → List (Text × Text) → Type 0
Spells words [] = words ≡ []
Spells words (option ∷ options) =
    ((rest : List Text) × (words ≡ (codes "--" ++ (option.0 ++ (codes "=" ++ option.1))) ∷ rest)
    × Spells rest options)
    ⊎ ((rest : List Text) × (words ≡ (codes "--" ++ option.0) ∷ option.1 ∷ rest) × Spells rest options)

-- The text that stands with a name.
abbrev pub text_of : Text → List (Text × Text) → Option Text
text_of name [] = None
text_of name (option ∷ options) = if bytes_eq option.0 name then Some option.1 else text_of name options

abbrev pub is_among : List Text → Text → Bool
is_among names name = list_any (λ n. bytes_eq n name) names

-- Behind these options, each one has a name of the program's, and one that did not stand yet.
abbrev pub AreNewOptions : List Text → List (Text × Text) → List (Text × Text) → Type 0
AreNewOptions names before [] = Unit {0}
AreNewOptions names before (option ∷ options) =
    (is_among names option.0 ≡ true) × (text_of option.0 before ≡ None)
    × AreNewOptions names (before ++ option ∷ []) options

-- The names for a program that works alone, and for one with many workers.
abbrev pub names_for : Bool → List Text
names_for many = codes "limit" ∷ codes "generate" ∷ (if many then codes "workers" ∷ [] else [])

-- ---- their values

-- Digits alone, and no zero in front of others.
pub record IsNumber (text : Text) : Type 0 where
  pub numeral : IsNumeral 10 text
  pub plain : slice_index text 0 ≡ 48 → length text ≡ 1

pub record IsNumberWithin (low high : ℕ) (text : Text) (n : ℕ) : Type 0 where
  pub number : IsNumber text
  pub value : n ≡ digits_value 10 text
  pub least : low ≤ n
  pub most : n ≤ high

-- The value of an option that has one where no text stands with it.
abbrev pub IsValue : ℕ → ℕ → ℕ → Option Text → ℕ → Type 0
IsValue low high default None n = n ≡ default
IsValue low high default (Some text) n = IsNumberWithin low high text n

-- The value of an option that may be missing.
abbrev pub IsPossibleValue : ℕ → ℕ → Option Text → Option ℕ → Type 0
IsPossibleValue low high None value = value ≡ None
IsPossibleValue low high (Some text) value = (n : ℕ) × (value ≡ Some n) × IsNumberWithin low high text n

-- ---- the whole

pub record SaysTexts (texts : Text → Option Text) (said : Words) : Type 0 where
  pub workers : IsValue 1 16 4 (texts (codes "workers")) said.workers
  pub limit : IsValue 1 (2 ^ 127 - 1) (2 ^ 127 - 1) (texts (codes "limit")) said.limit
  pub generate : IsPossibleValue 0 (2 ^ 31 - 1) (texts (codes "generate")) said.generate

-- The words are allowed, and say this.
pub record Says (many : Bool) (words : List Text) (said : Words) : Type 0 where
  pub options : List (Text × Text)
  pub spelled : Spells words options
  pub allowed : AreNewOptions (names_for many) [] options
  pub values : SaysTexts (λ name. text_of name options) said
