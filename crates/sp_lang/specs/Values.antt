-- What the parser reads of each word, and its tests: numbers stop at the greatest of 64 bits, and partitions past the
-- capacity are left out. This project's own.
use Rattle.std.specs.Prelude.{ℕ, ◌+◌, ◌-◌, ◌^◌, ◌==◌, min, cond, nat_le, nat_lt, Bool, true, false, ◌&&◌, not}
use Rattle.std.specs.Prelude.{List, [], ◌∷◌, map, find, slice_get, Option, Some, is_none, unwrap_or, Result, Ok, Err}
use Rattle.std.specs.List.{list_any, zip}
use Rattle.std.specs.Option.{option_map, option_map_or}
use Rattle.sp_defs.specs.Partition.{degree, is_regular}
use Rattle.sp_partition.specs.Reading.{number_of, partition_of, parsed}
use Rattle.sp_partition.specs.declared.TheConstants.{CAPACITY, DEGREE_LIMIT}
use Rattle.sp_partition.specs.declared.partition.NotPartition.{NotPartition}
use Rattle.sp_partition.specs.declared.partition.NotPartition.TheVariants.{Shape, PastCapacity}
use Rattle.sp_lang.specs.Words.{pieces}
use Rattle.sp_lang.specs.Convention.{label_in, label_fault, convention_of}
use Rattle.sp_lang.specs.Commands.{partition, word_at, command_with}
use Rattle.sp_lang.specs.Faults.{is_e, is_past}
use Rattle.sp_lang.specs.declared.convention.Convention.{Convention}
use Rattle.sp_lang.specs.declared.convention.Convention.TheVariants.{Regular}
use Rattle.sp_lang.specs.declared.command.Command.{Command}
use Rattle.sp_lang.specs.declared.fault.LineFault.{LineFault}
use Rattle.sp_lang.specs.declared.fault.LineFault.TheVariants.{NotNumber, BadPartition, BadE, DegreePast}
use Rattle.sp_lang.specs.declared.fault.LineFault.TheVariants.{NotRegular, BadResidue, DegreesDiffer, UnknownConvention}
use Rattle.sp_lang.specs.declared.given.Given.{Given}
use Rattle.sp_lang.specs.declared.test.Test.{Test}
use Rattle.sp_lang.specs.declared.test.Test.TheVariants as test
use Rattle.sp_lang.specs.declared.value.Pieces.{Pieces}
use Rattle.sp_lang.specs.declared.value.Value.{Value}
use Rattle.sp_lang.specs.declared.value.Value.TheVariants.{Number, Partition, Quotient, Name}
use Rattle.sp_lang.specs.declared.value.Value.TheVariants as said
use Rattle.sp_lang.specs.declared.verb.Place.{Place}
use Rattle.sp_lang.specs.declared.verb.Place.TheVariants as place
use Rattle.sp_lang.specs.declared.verb.Verb.{Verb}

-- ---- what is read of a word

abbrev pub number_read : List ℕ → Value
number_read word = Number (option_map (λ n. min n (2 ^ 64 - 1)) (number_of word))

abbrev pub partition_read : List ℕ → Value
partition_read word = Partition (parsed (partition_of word))

abbrev pub pieces_read : List ℕ → Pieces
pieces_read word = record {
  any_shapeless = list_any (λ piece. is_none (partition_of piece)) (pieces word);
  any_past = list_any (is_past 0) (pieces word);
}

abbrev pub value_of : Place → List ℕ → Value
value_of place.E word = number_read word
value_of place.Residue word = number_read word
value_of place.Count word = number_read word
value_of place.Degree word = number_read word
value_of place.Weight word = number_read word
value_of place.Partition word = partition_read word
value_of place.Peer word = partition_read word
value_of place.Grown word = partition_read word
value_of place.Factor word = partition_read word
value_of place.Label word = partition_read word
value_of place.Heading word = partition_read word
value_of place.Quotient word = Quotient (pieces_read word)
value_of place.Name word = Name
value_of place.Convention word = said.Convention (convention_of word)

abbrev pub read : Place → List ℕ → Given
read place word = record { place = place; word = word; value = value_of place word }

abbrev pub read_all : List Place → List (List ℕ) → List Given
read_all places words = map (λ given. read given.0 given.1) (zip places words)

abbrev pub words_of : List Given → List (List ℕ)
words_of given = map (λ one. one.word) given

-- ---- what a value says

-- The value at a place that is counted from 0.
abbrev pub value_at : List Given → ℕ → Value
value_at given k = option_map_or (λ one. one.value) (slice_get given k) Name

abbrev pub number_said : Value → ℕ
number_said (Number (Some n)) = n
number_said other = 0

abbrev pub byte_said : Value → ℕ
byte_said value = min (number_said value) 255

abbrev pub partition_said : Value → List ℕ
partition_said (Partition (Ok p)) = p
partition_said other = []

abbrev pub convention_read : Value → Convention
convention_read (said.Convention read) = unwrap_or read Regular
convention_read other = Regular

abbrev pub fitting : List ℕ → List ℕ
fitting word = let p = partition word in cond (nat_le (degree p) CAPACITY) p []

abbrev pub all_fitting : List ℕ → List (List ℕ)
all_fitting word = map fitting (pieces word)

-- The command that the values say.
abbrev pub given_command : Verb → List Given → Command
given_command verb given =
    command_with (λ k. byte_said (value_at given k)) (λ k. partition_said (value_at given k))
    (λ k. all_fitting (word_at (words_of given) k)) (words_of given) verb

-- ---- what can be wrong with a value in its place

abbrev pub is_missing : Value → Bool
is_missing (Number n) = is_none n
is_missing other = false

abbrev pub is_shapeless : Value → Bool
is_shapeless (Partition (Err Shape)) = true
is_shapeless (Quotient pieces) = pieces.any_shapeless
is_shapeless other = false

abbrev pub is_bad_e : Place → Value → Bool
is_bad_e place.E (Number (Some e)) = not (is_e e)
is_bad_e place value = false

-- A partition that, with so many nodes more, is past the limit.
abbrev pub exceeds : ℕ → Result (List ℕ) NotPartition → Bool
exceeds more (Ok p) = nat_lt DEGREE_LIMIT (degree p + more)
exceeds more (Err PastCapacity) = true
exceeds more (Err Shape) = false

abbrev pub is_large : ℕ → Place → Value → Bool
is_large more place.Degree (Number (Some n)) = nat_lt DEGREE_LIMIT n
is_large more place.Grown (Partition read) = exceeds more read
is_large more place (Partition read) = exceeds 0 read
is_large more place (Quotient pieces) = pieces.any_past
is_large more place value = false

abbrev pub is_large_together : ℕ → Place → Value → Bool
is_large_together more place.Factor (Partition read) = exceeds more read
is_large_together more place value = false

abbrev pub is_uneven : ℕ → Place → Value → Bool
is_uneven n place.Peer (Partition (Ok p)) = not (degree p == n)
is_uneven n place value = false

abbrev pub is_bad_residue : ℕ → Place → Value → Bool
is_bad_residue e place.Residue (Number (Some i)) = nat_le e i
is_bad_residue e place value = false

abbrev pub is_irregular : ℕ → Place → Value → Bool
is_irregular e place.Label (Partition (Ok p)) = nat_le 2 e && not (is_regular e p)
is_irregular e place value = false

abbrev pub is_bad_heading : Convention → ℕ → Place → Value → Bool
is_bad_heading convention e place.Heading (Partition (Ok p)) =
    nat_le 2 e && not (is_regular e (label_in convention p))
is_bad_heading convention e place value = false

abbrev pub is_bad_convention : Value → Bool
is_bad_convention (said.Convention read) = is_none read
is_bad_convention other = false

-- ---- the order of the tests

-- What each test finds wrong.
abbrev pub fails : Test → Place → Value → Bool
fails test.Number place value = is_missing value
fails test.Partition place value = is_shapeless value
fails test.E place value = is_bad_e place value
fails (test.Degree more) place value = is_large more place value
fails (test.Together more) place value = is_large_together more place value
fails (test.Peer n) place value = is_uneven n place value
fails (test.Residue e) place value = is_bad_residue e place value
fails (test.Regular e) place value = is_irregular e place value
fails (test.Heading convention e) place value = is_bad_heading convention e place value
fails test.Convention place value = is_bad_convention value

abbrev pub any_given : (Place → Value → Bool) → List Given → Bool
any_given wrong given = list_any (λ one. wrong one.place one.value) given

-- The tests in their order, and the faults that they find.
abbrev pub tests_of : Convention → List Given → List (Test × LineFault)
tests_of convention given =
    let first = value_at given 0 in
    let n = degree (partition_said first) in
    (test.Number, NotNumber) ∷ (test.Partition, BadPartition) ∷ (test.E, BadE)
    ∷ (test.Degree (byte_said (value_at given 2)), DegreePast) ∷ (test.Together n, DegreePast)
    ∷ (test.Peer n, DegreesDiffer) ∷ (test.Residue (byte_said first), BadResidue)
    ∷ (test.Regular (byte_said first), NotRegular)
    ∷ (test.Heading convention (byte_said first), label_fault convention)
    ∷ (test.Convention, UnknownConvention) ∷ []

abbrev pub first_failing : Convention → List Given → Option LineFault
first_failing convention given =
    option_map (λ test. test.1) (find (λ test. any_given (fails test.0) given) (tests_of convention given))
