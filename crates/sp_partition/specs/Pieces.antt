-- The pieces of a text, as they are read.
use Rattle.std.specs.Prelude.{ℕ, ◌≡◌, ◌≢◌, ◌+◌, ◌*◌, ◌++◌, replicate, drop, ◌<◌, ◌≤◌, min, cond, nat_le, List, length}
use Rattle.std.specs.Prelude.{slice_index, Option, Some, None}
use Rattle.std.specs.Str.Parse.{IsNumeral, digits_value}
use Rattle.std.specs.Option.{MatchOption, SomeIff}
use Rattle.sp_defs.specs.Partition.{degree, IsPartition}
use Rattle.sp_partition.specs.declared.TheConstants.{CAPACITY}
use Rattle.sp_partition.specs.Reading.{cut, item_of}

-- The digits of n, a number of at least 1, without leading zeros.
pub record IsNumber (text : List ℕ) (n : ℕ) : Type 0 where
  pub digits : IsNumeral 10 text
  pub first : slice_index text 0 ≢ 48
  pub value : digits_value 10 text ≡ n

-- The mark stands at `end` first, or nowhere, where that is the length.
pub record StandsAt (mark : ℕ) (text : List ℕ) (end : ℕ) : Type 0 where
  pub within : end ≤ length text
  pub before : (k : ℕ) → k < end → slice_index text k ≢ mark
  pub there : end < length text → slice_index text end ≡ mark

-- What is left behind the mark at `end`: nothing, where there is none.
abbrev pub rest_of : List ℕ → ℕ → Option (List ℕ)
rest_of text end = cond (nat_le (length text) end) None (Some (drop (end + 1) text))

-- The text is an item of this part, as often as `times` says, where 255 stands for any greater number.
pub record IsItemOf (text part : List ℕ) (times : ℕ) : Type 0 where
  pub number : IsNumber part (digits_value 10 part)
  pub count : ℕ
  pub some : 0 < count
  pub item : item_of (cut 94 text) ≡ Some (replicate count (digits_value 10 part))
  pub times_is : times ≡ min count 255

-- Each byte is a decimal digit.
abbrev pub DigitsAt : List ℕ → Type 0
DigitsAt text = (k : ℕ) → k < length text → (48 ≤ slice_index text k) × (slice_index text k ≤ 57)

-- Where there is room, the parts stay a partition with so many parts more.
abbrev pub MayAdd : ℕ → ℕ → List ℕ → Type 0
MayAdd part times parts = degree parts + times * part ≤ CAPACITY → IsPartition (parts ++ replicate times part)

-- `longer` has so many parts more than `held`, where there is room.
abbrev pub Adds : Option (List ℕ) → ℕ → ℕ → Option (List ℕ) → Type 0
Adds held part times longer =
    MatchOption held (longer ≡ None)
    (λ parts. SomeIff longer (degree parts + times * part ≤ CAPACITY) (parts ++ replicate times part))

-- The parts, where there is room for them.
abbrev pub fitting : List ℕ → Option (List ℕ)
fitting parts = cond (nat_le (degree parts) CAPACITY) (Some parts) None
