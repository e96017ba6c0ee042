-- A text up to a mark, and what is behind it.
use Rattle.std.proofs.Common.{◌≡◌, ◌≢◌, ℕ, zero, suc, ◌+◌, ◌-◌, ◌<◌, ◌≤◌, List, [], ◌∷◌, ◌++◌, take, drop, length}
use Rattle.std.proofs.Common.{slice_index, refl, sym, ◌∙◌, ap, ap₂, arith, length-drop, Option, Some, None, nat_eq}
use Rattle.std.proofs.Common.{nat_le, ◌⊎◌, inl, inr, eq-eqb, ne_eqb, le-leb}
use Rattle.std.proofs.lemmas.Bool.{lt-leb, cond-true, cond-false}
use Rattle.std.proofs.Math.Seq.{drop-cons}
use Rattle.std.specs.List.{AllByRecursion, onto_first}
use Rattle.std.specs.Str.Parse.{AllDigits}
use Rattle.std.proofs.lemmas.List.{take-append-drop, take_all}
use Rattle.std.proofs.lemmas.Str.Parse.{digit_from_value}
use Rattle.sp_lists.proofs.Elements.{le_or_lt}
use Rattle.sp_partition.specs.Reading.{cut}
use Rattle.sp_partition.specs.Pieces.{StandsAt, rest_of}

-- The mark isn't in the text.
abbrev pub Free : ℕ → List ℕ → Type 0
Free mark text = AllByRecursion (λ c. c ≢ mark) text

-- Two texts without the mark, joined.
pub free_append : (mark : ℕ) (xs ys : List ℕ) → Free mark xs → Free mark ys → Free mark (xs ++ ys)
free_append mark [] ys h k = k
free_append mark (x ∷ xs) ys (h, hs) k = (h, free_append mark xs ys hs k)

-- Digits are without a mark that is less than them.
pub digits_free : (mark : ℕ) (ds : List ℕ) → mark < 48 → AllDigits 10 ds → Free mark ds
digits_free mark [] low h = tt
digits_free mark (d ∷ ds) low (h, hs) =
    (let range = digit_from_value d h in (λ e. omega arith), digits_free mark ds low hs)

-- Digits are without a mark that is greater.
pub digits_free_above : (mark : ℕ) (ds : List ℕ) → 57 < mark → AllDigits 10 ds → Free mark ds
digits_free_above mark [] high h = tt
digits_free_above mark (d ∷ ds) high (h, hs) =
    (let range = digit_from_value d h in (λ e. omega arith), digits_free_above mark ds high hs)

-- ---- the pieces

-- A text without the mark is one piece.
pub cut_free : (mark : ℕ) (text : List ℕ) → Free mark text → cut mark text ≡ text ∷ []
cut_free mark [] h = refl
cut_free mark (c ∷ text) (h, hs) =
    cond-false (nat_eq c mark) ([] ∷ cut mark text) (onto_first c (cut mark text)) (ne_eqb c mark h)
    ∙ ap (onto_first c) (cut_free mark text hs)

-- A text is cut at its first mark.
pub cut_mark : (mark : ℕ) (xs ys : List ℕ) → Free mark xs → cut mark (xs ++ mark ∷ ys) ≡ xs ∷ cut mark ys
cut_mark mark [] ys h =
    cond-true (nat_eq mark mark) ([] ∷ cut mark ys) (onto_first mark (cut mark ys)) (eq-eqb mark mark refl)
cut_mark mark (x ∷ xs) ys (h, hs) =
    cond-false (nat_eq x mark) ([] ∷ cut mark (xs ++ mark ∷ ys)) (onto_first x (cut mark (xs ++ mark ∷ ys)))
    (ne_eqb x mark h)
    ∙ ap (onto_first x) (cut_mark mark xs ys hs)

-- The pieces of what is left.
abbrev pub pieces_left : ℕ → Option (List ℕ) → List (List ℕ)
pieces_left mark None = []
pieces_left mark (Some rest) = cut mark rest

-- ---- where the mark stands first

-- A text is without the mark where no place before has it.
pub free_take : (mark : ℕ) (text : List ℕ) (end : ℕ) → ((k : ℕ) → k < end → slice_index text k ≢ mark) →
    Free mark (take end text)
free_take mark text zero h = tt
free_take mark [] (suc end) h = tt
free_take mark (c ∷ text) (suc end) h = (h 0 (omega arith), free_take mark text end (λ k lt. h (suc k) (omega arith)))

-- The text before the mark, the mark, and the text behind it.
pub split_there : (mark : ℕ) (text : List ℕ) (end : ℕ) → end < length text → slice_index text end ≡ mark →
    text ≡ take end text ++ mark ∷ drop (end + 1) text
split_there mark text end lt is =
    sym (take-append-drop end text)
    ∙ ap (λ xs. take end text ++ xs) (drop-cons text end 0 lt ∙ ap₂ (λ c n. c ∷ drop n text) is next)
  where
    next : suc end ≡ end + 1
    next = omega arith

-- The text is without the mark before its first place.
pub free_before : (mark : ℕ) (text : List ℕ) (end : ℕ) → StandsAt mark text end → Free mark (take end text)
free_before mark text end h = free_take mark text end h.before

-- What `&text[n..]` is.
pub rest_whole : (text : List ℕ) (n : ℕ) → take (length text - n) (drop n text) ≡ drop n text
rest_whole text n = take_all (length text - n) (drop n text) (simp length-drop (omega arith))

-- Behind the mark there is a text.
pub rest_some : (text : List ℕ) (end : ℕ) → end < length text → rest_of text end ≡ Some (drop (end + 1) text)
rest_some text end lt = cond-false (nat_le (length text) end) None (Some (drop (end + 1) text))
    (lt-leb (length text) end lt)

-- The first piece ends at the first mark.
pub first_piece : (mark : ℕ) (text : List ℕ) (end : ℕ) → StandsAt mark text end →
    cut mark text ≡ take end text ∷ pieces_left mark (rest_of text end)
first_piece mark text end h = settle (le_or_lt (length text) end)
  where
    free : Free mark (take end text)
    free = free_before mark text end h

    settle : (length text ≤ end) ⊎ (end < length text) →
        cut mark text ≡ take end text ∷ pieces_left mark (rest_of text end)
    settle (inl le) =
        ap (cut mark) (sym (take_all end text le)) ∙ cut_free mark (take end text) free
        ∙ ap (λ o. take end text ∷ pieces_left mark o)
        (sym (cond-true (nat_le (length text) end) None (Some (drop (end + 1) text)) (le-leb (length text) end le)))
    settle (inr lt) =
        ap (cut mark) (split_there mark text end lt (h.there lt))
        ∙ cut_mark mark (take end text) (drop (end + 1) text) free
        ∙ ap (λ o. take end text ∷ pieces_left mark o) (sym (rest_some text end lt))
