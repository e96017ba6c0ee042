-- What allowed words say is one thing.
use Rattle.std.proofs.Common.{◌≡◌, ℕ, List, Option, Some, None, [], Bool, false, codes, sym, ◌∙◌, subst, ap}
use Rattle.std.specs.List.{list_any}
use Rattle.std.specs.Str.Parse.{IsNumeral}
use Rattle.sp_words.specs.Found.{ArePlain, is_dashes}
use Rattle.sp_words.specs.Words.{IsPossibleValue, IsValue, Says, SaysTexts, Text}
use Rattle.sp_words.specs.declared.words.Words.{Words}
use Rattle.sp_words.proofs.Clap.{no_dashes, plain_texts}

value_numeral : (low high default n : ℕ) (text : Option Text) (one : Text) → IsValue low high default text n →
    text ≡ Some one → IsNumeral 10 one
value_numeral low high default n None one is e = cc
value_numeral low high default n (Some text) one is e =
    let same : text ≡ one = cc in
    subst (IsNumeral 10) same is.number.numeral

possible_numeral : (low high : ℕ) (value : Option ℕ) (text : Option Text) (one : Text) →
    IsPossibleValue low high text value → text ≡ Some one → IsNumeral 10 one
possible_numeral low high value None one is e = cc
possible_numeral low high value (Some text) one is e =
    let same : text ≡ one = cc in
    subst (IsNumeral 10) same is.2.number.numeral

-- The texts of allowed words are plain.
pub says_plain : (many : Bool) (words : List Text) (said : Words) (says : Says many words said) → ArePlain says.options
says_plain many words said says =
    plain_texts many says.options says.allowed
    (λ text e. value_numeral _ _ _ said.limit _ text says.values.limit e)
    (λ text e. possible_numeral _ _ said.generate _ text says.values.generate e)
    (λ text e. value_numeral _ _ _ said.workers _ text says.values.workers e)

-- No allowed word is `--`.
pub says_no_dashes : (many : Bool) (words : List Text) (said : Words) → Says many words said →
    list_any is_dashes words ≡ false
says_no_dashes many words said says =
    no_dashes many [] says.options words says.spelled says.allowed (says_plain many words said says)

one_value : (low high default a b : ℕ) (text : Option Text) → IsValue low high default text a →
    IsValue low high default text b → a ≡ b
one_value low high default a b None is_a is_b = is_a ∙ sym is_b
one_value low high default a b (Some text) is_a is_b = is_a.value ∙ sym is_b.value

one_possible : (low high : ℕ) (a b : Option ℕ) (text : Option Text) → IsPossibleValue low high text a →
    IsPossibleValue low high text b → a ≡ b
one_possible low high a b None is_a is_b = is_a ∙ sym is_b
one_possible low high a b (Some text) is_a is_b =
    is_a.1 ∙ ap (λ n. Some n) (is_a.2.value ∙ sym is_b.2.value) ∙ sym is_b.1

-- Texts of options say one thing.
pub one_saying : (texts : Text → Option Text) (a b : Words) → SaysTexts texts a → SaysTexts texts b → a ≡ b
one_saying texts a b says_a says_b =
    let workers = one_value _ _ _ a.workers b.workers (texts (codes "workers")) says_a.workers says_b.workers in
    let limit = one_value _ _ _ a.limit b.limit (texts (codes "limit")) says_a.limit says_b.limit in
    let generate =
    one_possible _ _ a.generate b.generate (texts (codes "generate")) says_a.generate says_b.generate in
    λ i. record { workers = workers i; limit = limit i; generate = generate i }
