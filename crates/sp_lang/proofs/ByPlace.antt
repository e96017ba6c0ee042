-- The words of a text, read place by place.
use Rattle.std.proofs.Common.{◌≡◌, ℕ, zero, suc, ◌+◌, ◌-◌, ◌^◌, List, [], ◌∷◌, ◌++◌, length, drop, refl, ◌∙◌, ap}
use Rattle.std.proofs.Common.{arith, min, slice_get, ◌≤◌, Bool, true, false, cond, nat_le}
use Rattle.std.specs.Prelude.{Option, Some, None, unwrap_or, Ok, Err}
use Rattle.sp_defs.specs.Partition.{degree}
use Rattle.sp_partition.specs.declared.TheConstants.{CAPACITY}
use Rattle.sp_partition.specs.declared.partition.NotPartition.TheVariants.{PastCapacity}
use Rattle.std.specs.Option.{option_map}
use Rattle.sp_partition.specs.Reading.{number_of, partition_of, parsed}
use Rattle.sp_lang.specs.Convention.{convention_of, convention_said}
use Rattle.sp_lang.specs.Commands.{places_of, number, word_at, weight}
use Rattle.sp_lang.specs.Values.{number_read, partition_read, number_said, byte_said, partition_said, fitting}
use Rattle.sp_lang.specs.Values.{value_of, value_at, read, read_all, words_of, convention_read}
use Rattle.sp_lang.specs.declared.given.Given.{Given}
use Rattle.sp_lang.specs.declared.value.Value.TheVariants.{Number, Partition}
use Rattle.sp_lang.specs.declared.verb.Place.{Place}
use Rattle.sp_lang.specs.declared.verb.Place.TheVariants.{Weight, Convention}
use Rattle.sp_lang.specs.declared.verb.Verb.TheVariants.{Block}
use Rattle.sp_lang.specs.declared.verb.Verb.TheVariants as verb

-- The first k words are read, and these are left.
pub record Reads (places : List Place) (ws : List (List ℕ)) (k : ℕ) (given : List Given) (rest : List (List ℕ))
    : Type 0 where
  pub count : length ws ≡ k + length rest
  pub size : length given ≡ k
  pub whole : given ++ read_all (drop k places) rest ≡ read_all places ws

-- ---- what was read at a place

-- As many words as there are places keep their order.
pub words_of-read_all : (places : List Place) (ws : List (List ℕ)) → length ws ≡ length places →
    words_of (read_all places ws) ≡ ws
words_of-read_all [] [] e = refl
words_of-read_all [] (w ∷ ws) e = absurd (omega arith)
words_of-read_all (p ∷ ps) [] e = absurd (omega arith)
words_of-read_all (p ∷ ps) (w ∷ ws) e = ap (λ rest. w ∷ rest) (words_of-read_all ps ws (omega arith))

-- The value at a place is read of the word there.
pub value_there : (places : List Place) (ws : List (List ℕ)) (k : ℕ) (place : Place) →
    length ws ≡ length places → slice_get places k ≡ Some place →
    value_at (read_all places ws) k ≡ value_of place (word_at ws k)
value_there [] ws k place e at = absurd (cc)
value_there (p ∷ ps) [] k place e at = absurd (omega arith)
value_there (p ∷ ps) (w ∷ ws) zero place e at =
    let same : p ≡ place = cc in ap (λ q. value_of q w) same
value_there (p ∷ ps) (w ∷ ws) (suc k) place e at = value_there ps ws k place (omega arith) at

-- ---- weights

-- A number that was read says the weight of its word.
pub weight_said : (word : List ℕ) → number_said (number_read word) ≡ weight word
weight_said word = by_number (number_of word)
  where
    by_number : (o : Option ℕ) →
        number_said (Number (option_map (λ n. min n (2 ^ 64 - 1)) o)) ≡ min (unwrap_or o 0) (2 ^ 64 - 1)
    by_number None = refl
    by_number (Some n) = refl

-- A byte holds the number up to 255.
pub byte_read : (word : List ℕ) → byte_said (number_read word) ≡ min (number word) 255
byte_read word = ap (λ n. min n 255) (weight_said word) ∙ twice (number word)
  where
    twice : (n : ℕ) → min (min n (2 ^ 64 - 1)) 255 ≡ min n 255
    twice n = omega arith

-- A number that fits a byte is read exactly.
pub byte_exact : (word : List ℕ) → number word ≤ 255 → byte_said (number_read word) ≡ number word
byte_exact word few = byte_read word ∙ least (number word) few
  where
    least : (n : ℕ) → n ≤ 255 → min n 255 ≡ n
    least n few = omega arith

-- A partition that was read is the one that fits.
pub partition_fitting : (word : List ℕ) → partition_said (partition_read word) ≡ fitting word
partition_fitting word = by_parts (partition_of word)
  where
    by_test : (t : Bool) (p : List ℕ) →
        partition_said (Partition (cond t (Ok p) (Err PastCapacity))) ≡ cond t p []
    by_test true p = refl
    by_test false p = refl

    by_parts : (o : Option (List ℕ)) →
        partition_said (Partition (parsed o))
        ≡ (let p = unwrap_or o [] in cond (nat_le (degree p) CAPACITY) p [])
    by_parts None = refl
    by_parts (Some p) = by_test (nat_le (degree p) CAPACITY) p

-- The weight of a block is that of the third word.
pub weight_given : (given : List Given) → given ≡ read_all (places_of Block) (words_of given) →
    number_said (value_at given 2) ≡ weight (word_at (words_of given) 2)
unfolding number_of
weight_given [] is = refl
weight_given (a ∷ []) is = refl
weight_given (a ∷ b ∷ []) is = refl
weight_given (a ∷ b ∷ c ∷ []) is =
    let third : c ≡ read Weight c.word = cc in ap (λ one. number_said one.value) third ∙ weight_said c.word
weight_given (a ∷ b ∷ c ∷ d ∷ ds) is = absurd (cc)

-- ---- conventions

-- The convention is that of the first word.
pub convention_given : (given : List Given) → given ≡ read_all (places_of verb.Convention) (words_of given) →
    convention_read (value_at given 0) ≡ convention_said (word_at (words_of given) 0)
unfolding convention_of
convention_given [] is = refl
convention_given (a ∷ []) is =
    let first : a ≡ read Convention a.word = cc in ap (λ one. convention_read one.value) first
convention_given (a ∷ b ∷ bs) is = absurd (cc)
