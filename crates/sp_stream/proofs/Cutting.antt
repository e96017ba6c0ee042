-- How an input is cut at its newlines, bit by bit.
use Rattle.std.proofs.Common.{◌≡◌, ◌≢◌, ◌<◌, ◌≤◌, ◌+◌, ◌++◌, ◌==◌, ltb, cond, not, true, false, Bool, [], ◌∷◌, List}
use Rattle.std.proofs.Common.{ℕ, Option, Some, None, length, take, drop, append_assoc, arith, ap, sym, ◌∙◌, refl}
use Rattle.std.proofs.Common.{subst, MatchOption}
use Rattle.std.specs.List.{position, position_or_len, before_first, after_first}
use Rattle.std.proofs.lemmas.Grind.{common_steps}
use Rattle.std.proofs.lemmas.Bool.Decides.{nat_tests}
use Rattle.std.proofs.lemmas.List.Sums.{split_at_first, passes_at_first}
use Rattle.sp_stream.specs.declared.lines.TheConstants.{NEWLINE}
use Rattle.sp_stream.specs.Lines.{IsOneLine, begun_line, whole_lines, lines_of, onto_first, unless_lines, unless_empty}

abbrev is_newline : ℕ → Bool
is_newline b = b == NEWLINE

-- a byte other than a newline is not taken for one
pub is_other : (b : ℕ) → b ≢ NEWLINE → is_newline b ≡ false
is_other b other = grind (arith, common_steps)

other_is : (b : ℕ) → is_newline b ≡ false → b ≢ NEWLINE
other_is b test = grind (arith, nat_tests)

newline_is : (b : ℕ) → is_newline b ≡ true → b ≡ NEWLINE
newline_is b test = grind (arith, nat_tests)

one_line_before : (bs : List ℕ) → IsOneLine (before_first is_newline bs)
one_line_before [] = tt
one_line_before (b ∷ bs) =
    elim (is_newline b) as
    (λ v. is_newline b ≡ v → IsOneLine (take (cond (not v) (1 + position_or_len is_newline bs) 0) (b ∷ bs))) [
      | true ↦ λ e. tt
      | false ↦ λ e.
          let here : take (1 + position_or_len is_newline bs) (b ∷ bs) ≡ b ∷ before_first is_newline bs =
          grind (arith, common_steps) in
          subst IsOneLine (sym here) (other_is b e, one_line_before bs)
    ] refl

-- what is found where the first newline is looked for
pub first_newline : (bs : List ℕ) (place : Option ℕ) → place ≡ position is_newline bs →
    MatchOption place (IsOneLine bs)
    (λ i. IsOneLine (take i bs) × (bs ≡ take i bs ++ NEWLINE ∷ drop (i + 1) bs))
first_newline bs place is =
    let at = position_or_len is_newline bs in
    subst (λ (r : Option ℕ). MatchOption r (IsOneLine bs)
    (λ i. IsOneLine (take i bs) × (bs ≡ take i bs ++ NEWLINE ∷ drop (i + 1) bs))) (sym is)
    (elim (ltb at (length bs)) as
    (λ v. ltb at (length bs) ≡ v →
    MatchOption (cond v (Some at) None) (IsOneLine bs)
    (λ i. IsOneLine (take i bs) × (bs ≡ take i bs ++ NEWLINE ∷ drop (i + 1) bs))) [
      | true ↦ λ e. (one_line_before bs, split_there bs e)
      | false ↦ λ e. subst IsOneLine (all_before bs e) (one_line_before bs)
    ] refl)
  where
    split_there : (bs : List ℕ) → ltb (position_or_len is_newline bs) (length bs) ≡ true →
        bs ≡ before_first is_newline bs ++ NEWLINE ∷ drop (position_or_len is_newline bs + 1) bs
    split_there bs e =
        let inside : position_or_len is_newline bs < length bs = grind (arith, nat_tests) in
        let found = newline_is _ (passes_at_first is_newline bs 0 inside) in
        split_at_first is_newline bs 0 inside ∙
        ap (λ b. before_first is_newline bs ++ b ∷ after_first is_newline bs) found

    all_before : (bs : List ℕ) → ltb (position_or_len is_newline bs) (length bs) ≡ false →
        before_first is_newline bs ≡ bs
    all_before bs e =
        let outside : length bs ≤ position_or_len is_newline bs = grind (arith, nat_tests) in
        grind (arith, common_steps)

whole_lines-newline : (b : ℕ) (bs : List ℕ) → is_newline b ≡ true → whole_lines (b ∷ bs) ≡ [] ∷ whole_lines bs
unfolding whole_lines
whole_lines-newline b bs e = ap (λ v. cond v ([] ∷ whole_lines bs) (onto_first b (whole_lines bs))) e

whole_lines-other : (b : ℕ) (bs : List ℕ) → is_newline b ≡ false →
    whole_lines (b ∷ bs) ≡ onto_first b (whole_lines bs)
unfolding whole_lines
whole_lines-other b bs e = ap (λ v. cond v ([] ∷ whole_lines bs) (onto_first b (whole_lines bs))) e

begun_line-newline : (b : ℕ) (bs : List ℕ) → is_newline b ≡ true → begun_line (b ∷ bs) ≡ begun_line bs
unfolding begun_line
begun_line-newline b bs e =
    ap (λ v. cond v (begun_line bs) (unless_lines (whole_lines bs) (b ∷ bs) (begun_line bs))) e

begun_line-other : (b : ℕ) (bs : List ℕ) → is_newline b ≡ false →
    begun_line (b ∷ bs) ≡ unless_lines (whole_lines bs) (b ∷ bs) (begun_line bs)
unfolding begun_line
begun_line-other b bs e =
    ap (λ v. cond v (begun_line bs) (unless_lines (whole_lines bs) (b ∷ bs) (begun_line bs))) e

-- One byte that is no newline, in front of bytes with no whole line, and of bytes with some.
begun_line-alone : (b : ℕ) (bs : List ℕ) → is_newline b ≡ false → [] ≡ whole_lines bs → begun_line (b ∷ bs) ≡ b ∷ bs
begun_line-alone b bs e none =
    begun_line-other b bs e ∙ ap (λ ls. unless_lines ls (b ∷ bs) (begun_line bs)) (sym none)

begun_line-behind : (b : ℕ) (bs line : List ℕ) (lines : List (List ℕ)) → is_newline b ≡ false →
    line ∷ lines ≡ whole_lines bs → begun_line (b ∷ bs) ≡ begun_line bs
begun_line-behind b bs line lines e some =
    begun_line-other b bs e ∙ ap (λ ls. unless_lines ls (b ∷ bs) (begun_line bs)) (sym some)

-- The whole lines of an input in two parts: a line that the first part begins, the second may end.
pub whole_lines-append : (xs ys : List ℕ) →
    whole_lines (xs ++ ys) ≡ whole_lines xs ++ whole_lines (begun_line xs ++ ys)
unfolding whole_lines begun_line
whole_lines-append [] ys = refl
whole_lines-append (b ∷ bs) ys =
    elim (is_newline b) as (λ v. is_newline b ≡ v →
    whole_lines (b ∷ (bs ++ ys)) ≡ whole_lines (b ∷ bs) ++ whole_lines (begun_line (b ∷ bs) ++ ys)) [
      | true ↦ λ e.
          whole_lines-newline b (bs ++ ys) e ∙ ap (λ ls. [] ∷ ls) (whole_lines-append bs ys) ∙
          ap (λ t. [] ∷ (whole_lines bs ++ whole_lines (t ++ ys))) (sym (begun_line-newline b bs e)) ∙
          ap (λ ls. ls ++ whole_lines (begun_line (b ∷ bs) ++ ys)) (sym (whole_lines-newline b bs e))
      | false ↦ λ e. other b bs ys e (whole_lines bs) refl (whole_lines-append bs ys)
    ] refl
  where
    other : (b : ℕ) (bs ys : List ℕ) → is_newline b ≡ false → (ls : List (List ℕ)) → ls ≡ whole_lines bs →
        whole_lines (bs ++ ys) ≡ whole_lines bs ++ whole_lines (begun_line bs ++ ys) →
        whole_lines (b ∷ (bs ++ ys)) ≡ whole_lines (b ∷ bs) ++ whole_lines (begun_line (b ∷ bs) ++ ys)
    other b bs ys e [] none below =
        ap (λ t. whole_lines (t ++ ys)) (sym (begun_line-alone b bs e none)) ∙
        ap (λ ls. ls ++ whole_lines (begun_line (b ∷ bs) ++ ys))
        (ap (onto_first b) none ∙ sym (whole_lines-other b bs e))
    other b bs ys e (line ∷ lines) some below =
        whole_lines-other b (bs ++ ys) e ∙
        ap (onto_first b) (below ∙ ap (λ ls. ls ++ whole_lines (begun_line bs ++ ys)) (sym some)) ∙
        ap (λ t. (b ∷ line) ∷ (lines ++ whole_lines (t ++ ys))) (sym (begun_line-behind b bs line lines e some)) ∙
        ap (λ ls. ls ++ whole_lines (begun_line (b ∷ bs) ++ ys))
        (ap (onto_first b) some ∙ sym (whole_lines-other b bs e))

-- the line begun by two texts is begun by the line that the first begins
pub begun_line-append : (xs ys : List ℕ) → begun_line (xs ++ ys) ≡ begun_line (begun_line xs ++ ys)
unfolding begun_line
begun_line-append [] ys = refl
begun_line-append (b ∷ bs) ys =
    elim (is_newline b) as (λ v. is_newline b ≡ v →
    begun_line (b ∷ (bs ++ ys)) ≡ begun_line (begun_line (b ∷ bs) ++ ys)) [
      | true ↦ λ e.
          begun_line-newline b (bs ++ ys) e ∙ begun_line-append bs ys ∙
          ap (λ t. begun_line (t ++ ys)) (sym (begun_line-newline b bs e))
      | false ↦ λ e. other b bs ys e (whole_lines bs) refl (begun_line-append bs ys)
    ] refl
  where
    other : (b : ℕ) (bs ys : List ℕ) → is_newline b ≡ false → (ls : List (List ℕ)) → ls ≡ whole_lines bs →
        begun_line (bs ++ ys) ≡ begun_line (begun_line bs ++ ys) →
        begun_line (b ∷ (bs ++ ys)) ≡ begun_line (begun_line (b ∷ bs) ++ ys)
    other b bs ys e [] none below = ap (λ t. begun_line (t ++ ys)) (sym (begun_line-alone b bs e none))
    other b bs ys e (line ∷ lines) some below =
        let more : line ∷ (lines ++ whole_lines (begun_line bs ++ ys)) ≡ whole_lines (bs ++ ys) =
        ap (λ ls. ls ++ whole_lines (begun_line bs ++ ys)) some ∙ sym (whole_lines-append bs ys) in
        begun_line-behind b (bs ++ ys) line (lines ++ whole_lines (begun_line bs ++ ys)) e more ∙ below ∙
        ap (λ t. begun_line (t ++ ys)) (sym (begun_line-behind b bs line lines e some))

-- the lines of two texts: the whole ones of the first, and then those from its begun line on
pub lines_of-append : (xs ys : List ℕ) → lines_of (xs ++ ys) ≡ whole_lines xs ++ lines_of (begun_line xs ++ ys)
lines_of-append xs ys =
    ap (λ ls. ls ++ unless_empty (begun_line (xs ++ ys))) (whole_lines-append xs ys) ∙
    append_assoc (whole_lines xs) (whole_lines (begun_line xs ++ ys)) (unless_empty (begun_line (xs ++ ys))) ∙
    ap (λ t. whole_lines xs ++ (whole_lines (begun_line xs ++ ys) ++ unless_empty t)) (begun_line-append xs ys)

-- One line has no whole line and is begun.
pub whole_lines-one_line : (line : List ℕ) → IsOneLine line → whole_lines line ≡ []
unfolding whole_lines
whole_lines-one_line [] one = refl
whole_lines-one_line (b ∷ bs) one =
    whole_lines-other b bs (is_other b one.0) ∙ ap (onto_first b) (whole_lines-one_line bs one.1)

-- a text without a newline is the line that it begins
pub begun_line-one_line : (line : List ℕ) → IsOneLine line → begun_line line ≡ line
unfolding begun_line
begun_line-one_line [] one = refl
begun_line-one_line (b ∷ bs) one =
    begun_line-alone b bs (is_other b one.0) (sym (whole_lines-one_line bs one.1))

-- A line and its newline, and what comes behind.
pub whole_lines-line : (line rest : List ℕ) → IsOneLine line →
    whole_lines (line ++ NEWLINE ∷ rest) ≡ line ∷ whole_lines rest
whole_lines-line [] rest one = whole_lines-newline NEWLINE rest refl
whole_lines-line (b ∷ bs) rest one =
    whole_lines-other b (bs ++ NEWLINE ∷ rest) (is_other b one.0) ∙ ap (onto_first b) (whole_lines-line bs rest one.1)

-- behind a newline a line is begun anew
pub begun_line-line : (line rest : List ℕ) → IsOneLine line → begun_line (line ++ NEWLINE ∷ rest) ≡ begun_line rest
begun_line-line [] rest one = begun_line-newline NEWLINE rest refl
begun_line-line (b ∷ bs) rest one =
    begun_line-behind b (bs ++ NEWLINE ∷ rest) bs (whole_lines rest) (is_other b one.0)
    (sym (whole_lines-line bs rest one.1)) ∙
    begun_line-line bs rest one.1

-- two texts without a newline have none together
pub one_line-append : (xs ys : List ℕ) → IsOneLine xs → IsOneLine ys → IsOneLine (xs ++ ys)
one_line-append [] ys one two = two
one_line-append (b ∷ bs) ys one two = (one.0, one_line-append bs ys one.1 two)

none_first : (b : ℕ) (ls : List (List ℕ)) → [] ≡ onto_first b ls → [] ≡ ls
none_first b [] e = refl
none_first b (line ∷ lines) e = cc

-- Where no line is whole, there is only one.
one_line-none_whole : (bs : List ℕ) → [] ≡ whole_lines bs → IsOneLine bs
one_line-none_whole [] none = tt
one_line-none_whole (b ∷ bs) none =
    elim (is_newline b) as (λ v. is_newline b ≡ v → IsOneLine (b ∷ bs)) [
      | true ↦ λ e. absurd (some_whole (none ∙ whole_lines-newline b bs e))
      | false ↦ λ e.
          let below : [] ≡ whole_lines bs = none_first b (whole_lines bs) (none ∙ whole_lines-other b bs e) in
          (other_is b e, one_line-none_whole bs below)
    ] refl
  where
    some_whole : {ls : List (List ℕ)} → [] ≡ [] ∷ ls → ⊥
    some_whole e = cc

-- a begun line has no newline
pub one_line-begun : (bs : List ℕ) → IsOneLine (begun_line bs)
unfolding begun_line
one_line-begun [] = tt
one_line-begun (b ∷ bs) =
    elim (is_newline b) as (λ v. is_newline b ≡ v → IsOneLine (begun_line (b ∷ bs))) [
      | true ↦ λ e. subst IsOneLine (sym (begun_line-newline b bs e)) (one_line-begun bs)
      | false ↦ λ e. other b bs e (whole_lines bs) refl (one_line-begun bs)
    ] refl
  where
    other : (b : ℕ) (bs : List ℕ) → is_newline b ≡ false → (ls : List (List ℕ)) → ls ≡ whole_lines bs →
        IsOneLine (begun_line bs) → IsOneLine (begun_line (b ∷ bs))
    other b bs e [] none below =
        subst IsOneLine (sym (begun_line-alone b bs e none)) (other_is b e, one_line-none_whole bs none)
    other b bs e (line ∷ lines) some below = subst IsOneLine (sym (begun_line-behind b bs line lines e some)) below
