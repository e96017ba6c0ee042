-- The words of a line, one after the other.
use Rattle.std.proofs.Common.{◌≡◌, ℕ, ◌+◌, ◌<◌, List, [], ◌∷◌, take, drop, length, refl, ◌∙◌, ap, arith}
use Rattle.std.proofs.Common.{Some, None, cond, nat_le, le-leb, Bool, true, false, nat_eq}
use Rattle.std.proofs.lemmas.Bool.{cond-true}
use Rattle.std.proofs.lemmas.List.{take_all}
use Rattle.std.specs.List.{onto_first}
use Rattle.sp_partition.specs.Pieces.{StandsAt}
use Rattle.sp_partition.proofs.Marks.{first_piece, pieces_left, rest_some}
use Rattle.sp_cert.specs.Grammar.{words, two_words, three_words}

-- A line without a space is one word.
pub one_word : (text : List ℕ) (end : ℕ) → StandsAt 32 text end → end ≡ length text → words text ≡ text ∷ []
one_word text end h is =
    first_piece 32 text end h
    ∙ ap (λ o. take end text ∷ pieces_left 32 o)
    (cond-true (nat_le (length text) end) None (Some (drop (end + 1) text))
    (le-leb (length text) end (omega (arith, is))))
    ∙ ap (λ t. t ∷ []) (take_all end text (omega (arith, is)))

-- What stands before the first space is a word, and the others stand behind it.
pub more_words : (text : List ℕ) (end : ℕ) → StandsAt 32 text end → end < length text →
    words text ≡ take end text ∷ words (drop (end + 1) text)
more_words text end h lt =
    first_piece 32 text end h
    ∙ ap (λ o. take end text ∷ pieces_left 32 o) (rest_some text end lt)

-- Each line has a word.
record HasWord (text : List ℕ) : Type 0 where
  pub first : List ℕ
  pub others : List (List ℕ)
  pub is : words text ≡ first ∷ others

onto : (c : ℕ) (pieces : List (List ℕ)) (first : List ℕ) (others : List (List ℕ)) → pieces ≡ first ∷ others →
    onto_first c pieces ≡ (c ∷ first) ∷ others
onto c pieces first others is = ap (onto_first c) is

has_word : (text : List ℕ) → HasWord text
has_word [] = record { first = []; others = []; is = refl }
has_word (c ∷ text) = by (nat_eq c 32) refl (has_word text)
  where
    by : (b : Bool) → nat_eq c 32 ≡ b → HasWord text → HasWord (c ∷ text)
    by true is h = record {
      first = [];
      others = words text;
      is = ap (λ t. cond t ([] ∷ words text) (onto_first c (words text))) is;
    }
    by false is h = record {
      first = c ∷ h.first;
      others = h.others;
      is = ap (λ t. cond t ([] ∷ words text) (onto_first c (words text))) is
          ∙ onto c (words text) h.first h.others h.is;
    }

-- ---- two words, or three

-- A line of one word has not two.
pub one_not_two : (text : List ℕ) → words text ≡ text ∷ [] → two_words (words text) ≡ None
one_not_two text is = ap two_words is

-- A line of more than two words has not two.
pub more_not_two : (text first rest second behind : List ℕ) → words text ≡ first ∷ words rest →
    words rest ≡ second ∷ words behind → two_words (words text) ≡ None
more_not_two text first rest second behind is then =
    let h = has_word behind in
    ap two_words (is ∙ ap (λ ws. first ∷ ws) (then ∙ ap (λ ws. second ∷ ws) h.is))

-- Two words.
pub are_two : (text first rest : List ℕ) → words text ≡ first ∷ words rest → words rest ≡ rest ∷ [] →
    two_words (words text) ≡ Some (first, rest)
are_two text first rest is then = ap two_words (is ∙ ap (λ ws. first ∷ ws) then)

-- A line of one word has not three.
pub one_not_three : (text : List ℕ) → words text ≡ text ∷ [] → three_words (words text) ≡ None
one_not_three text is = ap three_words is

-- A line of two words has not three.
pub two_not_three : (text first rest : List ℕ) → words text ≡ first ∷ words rest → words rest ≡ rest ∷ [] →
    three_words (words text) ≡ None
two_not_three text first rest is then = ap three_words (is ∙ ap (λ ws. first ∷ ws) then)

-- A line of more than three words has not three.
pub more_not_three : (text first rest second behind third last : List ℕ) → words text ≡ first ∷ words rest →
    words rest ≡ second ∷ words behind → words behind ≡ third ∷ words last → three_words (words text) ≡ None
more_not_three text first rest second behind third last is then more =
    let h = has_word last in
    ap three_words
    (is ∙ ap (λ ws. first ∷ ws) (then ∙ ap (λ ws. second ∷ ws) (more ∙ ap (λ ws. third ∷ ws) h.is)))

-- Three words.
pub are_three : (text first rest second third : List ℕ) → words text ≡ first ∷ words rest →
    words rest ≡ second ∷ words third → words third ≡ third ∷ [] →
    three_words (words text) ≡ Some (first, second, third)
are_three text first rest second third is then last =
    ap three_words (is ∙ ap (λ ws. first ∷ ws) (then ∙ ap (λ ws. second ∷ ws) last))
