-- Words that say numbers.
use Rattle.std.proofs.Common.{◌≡◌, ℕ, ◌-◌, ◌^◌, true, false, cond, List, sym, ap}
use Rattle.std.proofs.Common.{min}
use Rattle.std.specs.Prelude.{Some, None}
use Rattle.std.specs.Option.{option_map}
use Rattle.std.specs.Str.Parse.{digits_value}
use Rattle.sp_partition.specs.Reading.{is_number, number_of}

-- A number is read up to the greatest of 64 bits.
pub number-yes : (word : List ℕ) → is_number word ≡ true →
    Some (min (digits_value 10 word) (2 ^ 64 - 1)) ≡ option_map (λ n. min n (2 ^ 64 - 1)) (number_of word)
unfolding number_of
number-yes word h =
    sym (ap (λ t. option_map (λ n. min n (2 ^ 64 - 1)) (cond t (Some (digits_value 10 word)) None)) h)

-- What is no number is not read.
pub number-none : (word : List ℕ) → is_number word ≡ false →
    None ≡ option_map (λ n. min n (2 ^ 64 - 1)) (number_of word)
unfolding number_of
number-none word h =
    sym (ap (λ t. option_map (λ n. min n (2 ^ 64 - 1)) (cond t (Some (digits_value 10 word)) None)) h)
