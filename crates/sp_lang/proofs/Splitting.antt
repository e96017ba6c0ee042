-- The words of a text, one after the other.
use Rattle.std.proofs.Common.{◌≡◌, ℕ, suc, ◌+◌, ◌≤◌, cond, not, Bool, true, false, List, [], ◌∷◌, take, drop}
use Rattle.std.proofs.Common.{length, refl, sym, ◌∙◌, ap, subst, arith, filter}
use Rattle.std.proofs.Common.{nat_lt}
use Rattle.std.proofs.lemmas.Bool.{ltb-false}
use Rattle.std.specs.Prelude.{Some, None, unwrap_or}
use Rattle.std.specs.List.{prefix_len, position, position_or_len, slice_split, onto_first}
use Rattle.sp_lang.specs.Words.{is_blank, is_word, words}

-- The pieces of a text: what stands before the first blank, and others that hold the words behind it.
record Splits (text : List ℕ) (k : ℕ) : Type 0 where
  pub others : List (List ℕ)
  pub split : slice_split is_blank text ≡ take k text ∷ others
  pub behind : filter is_word others ≡ words (drop k text)

splits : (text : List ℕ) → Splits text (position_or_len is_blank text)
unfolding words
splits [] = record { others = []; split = refl; behind = refl }
splits (b ∷ bs) = by_byte (is_blank b) refl (splits bs)
  where
    by_byte : (t : Bool) → is_blank b ≡ t → Splits bs (position_or_len is_blank bs) →
        Splits (b ∷ bs) (position_or_len is_blank (b ∷ bs))
    by_byte true is rest =
        let none : position_or_len is_blank (b ∷ bs) ≡ 0 =
        ap (λ t. cond (not t) (1 + position_or_len is_blank bs) 0) is in
        let whole : slice_split is_blank (b ∷ bs) ≡ [] ∷ slice_split is_blank bs =
        ap (λ t. cond t ([] ∷ slice_split is_blank bs) (onto_first b (slice_split is_blank bs))) is in
        subst (Splits (b ∷ bs)) (sym none) (record {
          others = slice_split is_blank bs;
          split = whole;
          behind = sym (ap (filter is_word) whole);
        })
    by_byte false is rest =
        let k = position_or_len is_blank bs in
        let more : position_or_len is_blank (b ∷ bs) ≡ suc k =
        ap (λ t. cond (not t) (1 + k) 0) is ∙ one_more k in
        let whole : slice_split is_blank (b ∷ bs) ≡ onto_first b (slice_split is_blank bs) =
        ap (λ t. cond t ([] ∷ slice_split is_blank bs) (onto_first b (slice_split is_blank bs))) is in
        subst (Splits (b ∷ bs)) (sym more) (record {
          others = rest.others;
          split = whole ∙ ap (onto_first b) rest.split;
          behind = rest.behind;
        })
      where
        one_more : (k : ℕ) → 1 + k ≡ suc k
        one_more k = omega arith

-- A blank in front is no part of a word.
words-blank : (b : ℕ) (bs : List ℕ) → is_blank b ≡ true → words (b ∷ bs) ≡ words bs
unfolding words
words-blank b bs is =
    ap (λ t. filter is_word (cond t ([] ∷ slice_split is_blank bs) (onto_first b (slice_split is_blank bs)))) is

-- A text that begins with no blank begins with its first word.
words-front : (b : ℕ) (bs : List ℕ) → is_blank b ≡ false →
    words (b ∷ bs) ≡ (let k = position_or_len is_blank (b ∷ bs) in take k (b ∷ bs) ∷ words (drop k (b ∷ bs)))
unfolding words
words-front b bs is =
    let k = position_or_len is_blank bs in
    let more : position_or_len is_blank (b ∷ bs) ≡ suc k = ap (λ t. cond (not t) (1 + k) 0) is ∙ one_more k in
    let s = splits bs in
    let whole : slice_split is_blank (b ∷ bs) ≡ (b ∷ take k bs) ∷ s.others =
    ap (λ t. cond t ([] ∷ slice_split is_blank bs) (onto_first b (slice_split is_blank bs))) is
    ∙ ap (onto_first b) s.split in
    ap (filter is_word) whole ∙ ap (λ rest. (b ∷ take k bs) ∷ rest) s.behind
    ∙ sym (ap (λ n. take n (b ∷ bs) ∷ words (drop n (b ∷ bs))) more)
  where
    one_more : (k : ℕ) → 1 + k ≡ suc k
    one_more k = omega arith

-- A blank in front changes no word.
pub words-behind_blank : (text : List ℕ) (b : ℕ) (bs : List ℕ) → text ≡ b ∷ bs → is_blank b ≡ true →
    words bs ≡ words text
words-behind_blank text b bs is blank = sym (words-blank b bs blank) ∙ ap words (sym is)

-- What stands before the first blank is the first word.
pub words-first : (text : List ℕ) (b : ℕ) (bs : List ℕ) → text ≡ b ∷ bs → is_blank b ≡ false →
    words text ≡ (let k = position_or_len is_blank text in take k text ∷ words (drop k text))
words-first text b bs is other =
    subst (λ t. words t ≡ (let k = position_or_len is_blank t in take k t ∷ words (drop k t))) (sym is)
    (words-front b bs other)

-- The empty text has no word.
pub words-none : (text : List ℕ) → length text ≡ 0 → words text ≡ []
unfolding words
words-none [] e = refl
words-none (b ∷ bs) e = absurd (omega arith)

prefix_len-le : (q : ℕ → Bool) (xs : List ℕ) → prefix_len q xs ≤ length xs
prefix_len-le q [] = omega arith
prefix_len-le q (x ∷ xs) =
    let more = prefix_len-le q xs in
    elim (q x) as (λ t. cond t (1 + prefix_len q xs) 0 ≤ length (x ∷ xs))
    [ true ↦ omega (arith, more) | false ↦ omega arith ]

-- The place is within the list.
pub position_or_len-le : (p : ℕ → Bool) (xs : List ℕ) → position_or_len p xs ≤ length xs
position_or_len-le p xs = prefix_len-le (λ x. not (p x)) xs

-- The place of the first element that passes, or the length.
pub position-or_len : (p : ℕ → Bool) (xs : List ℕ) → unwrap_or (position p xs) (length xs) ≡ position_or_len p xs
position-or_len p xs = by_place (nat_lt (position_or_len p xs) (length xs)) refl (position_or_len-le p xs)
  where
    by_place : (t : Bool) → nat_lt (position_or_len p xs) (length xs) ≡ t → position_or_len p xs ≤ length xs →
        unwrap_or (position p xs) (length xs) ≡ position_or_len p xs
    by_place true is within = ap (λ t. unwrap_or (cond t (Some (position_or_len p xs)) None) (length xs)) is
    by_place false is within =
        ap (λ t. unwrap_or (cond t (Some (position_or_len p xs)) None) (length xs)) is
        ∙ (let past : length xs ≤ position_or_len p xs = ltb-false (position_or_len p xs) (length xs) is in
        omega arith)

-- There are no more words than bytes.
pub length-words : (text : List ℕ) → length (words text) ≤ length text
unfolding words
length-words [] = omega arith
length-words (b ∷ bs) = by_byte (is_blank b) refl (length-words bs)
  where
    fewer : (piece : List ℕ) (others : List (List ℕ)) →
        length (filter is_word others) ≤ length (filter is_word (piece ∷ others))
    fewer [] others = omega arith
    fewer (x ∷ xs) others = omega arith

    by_byte : (t : Bool) → is_blank b ≡ t → length (words bs) ≤ length bs →
        length (words (b ∷ bs)) ≤ length (b ∷ bs)
    by_byte true is few = omega (arith, ap length (words-blank b bs is))
    by_byte false is few =
        let k = position_or_len is_blank bs in
        let s = splits bs in
        let whole : slice_split is_blank (b ∷ bs) ≡ (b ∷ take k bs) ∷ s.others =
        ap (λ t. cond t ([] ∷ slice_split is_blank bs) (onto_first b (slice_split is_blank bs))) is
        ∙ ap (onto_first b) s.split in
        let now : words (b ∷ bs) ≡ (b ∷ take k bs) ∷ filter is_word s.others = ap (filter is_word) whole in
        let before : words bs ≡ filter is_word (take k bs ∷ s.others) = ap (filter is_word) s.split in
        omega (arith, ap length now, ap length before, fewer (take k bs) s.others)
