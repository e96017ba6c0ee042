-- What single lines of a certificate are answered by: the first three, heads, shares, entries and the end.
use Rattle.std.proofs.Common.{◌≡◌, ◌≢◌, ℕ, zero, suc, ◌<◌, ◌≤◌, ◌^◌, Bool, true, false, cond, ◌&&◌}
use Rattle.std.proofs.Common.{nat_eq, nat_lt, nat_le, codes, flat_map, List, [], ◌∷◌, ◌++◌, Option, Some, None, refl}
use Rattle.std.proofs.Common.{sym, ◌∙◌, ap, subst, arith, eq-eqb, le-leb, ltb-true, append-nil}
use Rattle.std.specs.Cmp.Lexicographic.{bytes_decides}
use Rattle.std.specs.Fmt.{decimal}
use Rattle.std.specs.List.{list_all, range_with_len}
use Rattle.std.specs.Option.{option_map, option_and_then}
use Rattle.std.proofs.lemmas.Fmt.{decimal_digit, decimal_is_IsNumeral, first_decimal}
use Rattle.std.proofs.lemmas.List.Concat.{flat_map-cons}
use Rattle.sp_defs.specs.Partition.{degree, IsPartitionOf}
use Rattle.sp_defs.specs.Node.{content}
use Rattle.sp_defs.specs.Laurent.{Laurent}
use Rattle.sp_defs.specs.Text.{partition_text, polynomial_text}
use Rattle.sp_lists.proofs.Elements.{and_join, all_tests}
use Rattle.sp_lists.proofs.Places.{all_weaken}
use Rattle.sp_partition.specs.Pieces.{IsNumber}
use Rattle.sp_partition.specs.Reading.{number_of}
use Rattle.sp_partition.proofs.Canonical.{reads_text}
use Rattle.sp_partition.proofs.ItemReading.{positive_some}
use Rattle.sp_partition.proofs.Marks.{Free, cut_free, cut_mark}
use Rattle.sp_laurent.specs.Readable.{IsReadable}
use Rattle.sp_cert.specs.declared.certificate.Column.{Column}
use Rattle.sp_cert.specs.Grammar.{Head, BlockHead, ColumnHead, head_text, Body, Nothing, Version, Base}
use Rattle.sp_cert.specs.Grammar.{Columns, Allowed, Ends, NotAllowed, words, is_text, two_words, three_words}
use Rattle.sp_cert.specs.Grammar.{number_behind, partition_with, unless_zero, polynomial_with, term_of, within}
use Rattle.sp_cert.specs.Grammar.{first_body, allowed_by, is_next_share, with_share, is_next_entry, with_entry}
use Rattle.sp_cert.specs.Grammar.{share_answer, entry_answer, head_answer, column_answer, column_begun, begun_list}
use Rattle.sp_cert.specs.Grammar.{answer_to}
use Rattle.sp_cert.specs.Rules.{listing}
use Rattle.sp_cert.specs.Texts.{counts_text}
use Rattle.sp_cert.proofs.Polynomials.{polynomial_reads}
use Rattle.sp_cert.proofs.Visible.{IsVisible, partition_visible, polynomial_visible, decimal_visible}

same_text : (text : List ℕ) → is_text text text ≡ true
same_text text = (bytes_decides text text).1 refl

no_blank : (text : List ℕ) → IsVisible text → Free 32 text
no_blank text h = all_weaken (λ c. 32 < c) (λ c. c ≢ 32) text (λ c lt e. omega (arith, lt, e)) h

free_by : (word : List ℕ) → list_all (λ c. nat_lt 32 c) word ≡ true → Free 32 word
free_by word h =
    all_weaken (λ c. nat_lt 32 c ≡ true) (λ c. c ≢ 32) word (λ c t e. omega (arith, ltb-true 32 c t, e))
    (all_tests (λ c. nat_lt 32 c) word h)

-- ---- words

-- the number of a decimal text
number_read : (n : ℕ) → n < 2 ^ 64 → number_of (decimal n) ≡ Some n
unfolding number_of
number_read zero small = ap number_of (decimal_digit 0 (omega arith))
number_read (suc m) small =
    by (number_of (decimal (suc m))) (positive_some (decimal (suc m)) (suc m) number)
  where
    number : IsNumber (decimal (suc m)) (suc m)
    number = record {
      digits = (decimal_is_IsNumeral (suc m) small).0;
      first = λ e. absurd (omega (arith, e, first_decimal (suc m) (omega arith) small));
      value = (decimal_is_IsNumeral (suc m) small).1;
    }

    tested : (b : Bool) (k : ℕ) → cond b (Some k) None ≡ Some (suc m) → Some k ≡ Some (suc m)
    tested true k h = h
    tested false k h = absurd (cc)

    by : (o : Option ℕ) → option_and_then (λ k. cond (nat_lt 0 k) (Some k) None) o ≡ Some (suc m) → o ≡ Some (suc m)
    by None h = absurd (cc)
    by (Some k) h = tested (nat_lt 0 k) k h

within_limits : (least most n : ℕ) → least ≤ n → n ≤ most → within least most n ≡ Some n
within_limits least most n lo hi =
    ap (λ b. cond b (Some n) None)
    (and_join (nat_le least n) (nat_le n most) (le-leb least n lo) (le-leb n most hi))

-- a word and a number are two words
number_words : (word : List ℕ) (n : ℕ) → Free 32 word → n < 2 ^ 64 →
    two_words (words (word ++ (32 ∷ decimal n))) ≡ Some (word, decimal n)
number_words word n free small =
    ap two_words
    (cut_mark 32 word (decimal n) free
    ∙ ap (λ ws. word ∷ ws) (cut_free 32 (decimal n) (no_blank (decimal n) (decimal_visible n (omega (arith, small))))))

-- a word, a partition and a polynomial are three words
term_words : (word nu text : List ℕ) → Free 32 word → Free 32 nu → Free 32 text →
    three_words (words (word ++ (32 ∷ (nu ++ (32 ∷ text))))) ≡ Some (word, nu, text)
term_words word nu text hw hn ht =
    ap three_words
    (cut_mark 32 word (nu ++ (32 ∷ text)) hw
    ∙ ap (λ ws. word ∷ ws) (cut_mark 32 nu text hn ∙ ap (λ ws. nu ∷ ws) (cut_free 32 text ht)))

-- the partition of a canonical text
partition_reads : (n : ℕ) (nu : List ℕ) → n ≤ 30 → IsPartitionOf n nu → partition_with n (partition_text nu) ≡ Some nu
partition_reads n nu few p =
    ap (option_and_then
    (λ q. cond (nat_eq (degree q) n && is_text (partition_text q) (partition_text nu)) (Some q) None))
    (reads_text nu p.partition (omega (arith, p.total, few)))
    ∙ ap (λ b. cond b (Some nu) None)
    (and_join (nat_eq (degree nu) n) (is_text (partition_text nu) (partition_text nu)) (eq-eqb (degree nu) n p.total)
    (same_text (partition_text nu)))

some_terms : (p : Laurent) → p ≢ [] → unless_zero p ≡ Some p
some_terms [] ne = absurd (ne refl)
some_terms (t ∷ ts) ne = refl

-- the partition and the polynomial of a line
term_reads : (n : ℕ) (nu : List ℕ) (p : Laurent) → n ≤ 30 → IsPartitionOf n nu → IsReadable p → p ≢ [] →
    term_of n (partition_text nu) (polynomial_text p) ≡ Some (nu, p)
term_reads n nu p few h readable ne =
    ap (option_and_then (λ q. option_map (λ (a : Laurent). (q, a)) (polynomial_with (polynomial_text p))))
    (partition_reads n nu few h)
    ∙ ap (option_map (λ (a : Laurent). (nu, a)))
    (ap (option_and_then unless_zero) (polynomial_reads p readable) ∙ some_terms p ne)

-- ---- the first three lines

version_answer : answer_to Nothing (codes "certificate 2") ≡ Allowed (Version 2)
unfolding answer_to
version_answer = refl

-- the line with the version
pub version_allowed : answer_to Nothing (codes "certificate" ++ (codes " " ++ decimal 2)) ≡ Allowed (Version 2)
version_allowed =
    ap (λ d. answer_to Nothing (codes "certificate" ++ (codes " " ++ d))) (decimal_digit 2 (omega arith))
    ∙ version_answer

-- the line with e
pub e_allowed : (e : ℕ) → 2 ≤ e → e ≤ 64 →
    answer_to (Version 2) (codes "e" ++ (codes " " ++ decimal e)) ≡ Allowed (Base 2 e)
unfolding answer_to
e_allowed e lo hi =
    ap (λ ws. allowed_by (option_map (Base 2) (option_and_then (within 2 64) (number_behind (codes "e") ws))))
    (number_words (codes "e") e (free_by (codes "e") refl) (omega (arith, hi)))
    ∙ ap (λ o. allowed_by (option_map (Base 2) (option_and_then (within 2 64) o))) (number_read e (omega (arith, hi)))
    ∙ ap (λ o. allowed_by (option_map (Base 2) o)) (within_limits 2 64 e lo hi)

-- the line with the degree
pub degree_allowed : (e n : ℕ) → n ≤ 30 →
    answer_to (Base 2 e) (codes "degree" ++ (codes " " ++ decimal n)) ≡ Allowed (Columns (first_body 2 e n))
unfolding answer_to
degree_allowed e n few =
    ap (λ ws. allowed_by (option_map (λ k. Columns (first_body 2 e k))
    (option_and_then (within 0 30) (number_behind (codes "degree") ws))))
    (number_words (codes "degree") n free (omega (arith, few)))
    ∙ ap (λ o. allowed_by (option_map (λ k. Columns (first_body 2 e k)) (option_and_then (within 0 30) o)))
    (number_read n (omega (arith, few)))
    ∙ ap (λ o. allowed_by (option_map (λ k. Columns (first_body 2 e k)) o))
    (within_limits 0 30 n (omega arith) few)
  where
    free : Free 32 (codes "degree")
    free = free_by (codes "degree") refl

-- ---- behind them

-- Behind the third line of version 2: the columns that were begun, and the heads that are awaited.
abbrev pub state : ℕ → ℕ → List Column → Option Column → List Head → Body
state e n columns begun heads =
    record { version = 2; e = e; degree = n; columns = columns; begun = begun; heads = heads }

-- A text that is a word with a blank behind it, or the word alone.
abbrev blank_or_none : List ℕ → Type 0
blank_or_none [] = Unit {0}
blank_or_none (c ∷ rest) = c ≡ 32

-- the first word
first_word : (word rest : List ℕ) → Free 32 word → blank_or_none rest →
    (others : List (List ℕ)) × (words (word ++ rest) ≡ word ∷ others)
first_word word [] free h = ([], ap words (append-nil word) ∙ cut_free 32 word free)
first_word word (c ∷ rest) free h =
    (words rest, ap (λ d. words (word ++ (d ∷ rest))) h ∙ cut_mark 32 word rest free)

counts_begin : (e : ℕ) (mu : List ℕ) → blank_or_none (counts_text e mu)
counts_begin e mu = by (range_with_len 0 e)
  where
    by : (r : List ℕ) → blank_or_none (flat_map (λ i. codes " " ++ decimal (content e mu i)) r)
    by [] = tt
    by (i ∷ r) = subst blank_or_none (sym (flat_map-cons (λ i. codes " " ++ decimal (content e mu i)) i r)) refl

module _ (e n : ℕ) (columns : List Column) where
  -- the line of a block
  pub block_allowed : (begun : Option Column) (mu : List ℕ) (heads : List Head) →
      answer_to (Columns (state e n columns begun (BlockHead mu ∷ heads))) (head_text e (BlockHead mu))
      ≡ Allowed (Columns (state e n (columns ++ begun_list begun) None heads))
  unfolding answer_to
  block_allowed begun mu heads =
      ap (λ ws. column_answer body text (three_words ws)) found.1
      ∙ other found.0
      ∙ ap (λ b. cond b (Allowed (Columns (state e n (columns ++ begun_list begun) None heads))) NotAllowed)
      (same_text text)
    where
      body : Body
      body = state e n columns begun (BlockHead mu ∷ heads)

      text : List ℕ
      text = head_text e (BlockHead mu)

      free : Free 32 (codes "block")
      free = free_by (codes "block") refl

      found : (others : List (List ℕ)) × (words text ≡ codes "block" ∷ others)
      found = first_word (codes "block") (counts_text e mu) free (counts_begin e mu)

      other : (others : List (List ℕ)) →
          column_answer body text (three_words (codes "block" ∷ others)) ≡ head_answer body (BlockHead mu ∷ heads) text
      other [] = refl
      other (a ∷ []) = refl
      other (a ∷ b ∷ []) = refl
      other (a ∷ b ∷ c ∷ others) = refl

  -- the line that names a column
  pub column_allowed : (begun : Option Column) (mu : List ℕ) (heads : List Head) →
      answer_to (Columns (state e n columns begun (ColumnHead mu ∷ heads))) (head_text e (ColumnHead mu))
      ≡ Allowed (Columns (state e n (columns ++ begun_list begun) (column_begun n (ColumnHead mu)) heads))
  unfolding answer_to
  column_allowed begun mu heads =
      ap (λ ws. column_answer body text (three_words ws)) found.1
      ∙ other found.0
      ∙ ap (λ b. cond b
      (Allowed (Columns (state e n (columns ++ begun_list begun) (column_begun n (ColumnHead mu)) heads)))
      NotAllowed) (same_text text)
    where
      body : Body
      body = state e n columns begun (ColumnHead mu ∷ heads)

      text : List ℕ
      text = head_text e (ColumnHead mu)

      free : Free 32 (codes "column")
      free = free_by (codes "column") refl

      found : (others : List (List ℕ)) × (words text ≡ codes "column" ∷ others)
      found = first_word (codes "column") (32 ∷ partition_text mu) free refl

      other : (others : List (List ℕ)) →
          column_answer body text (three_words (codes "column" ∷ others))
          ≡ head_answer body (ColumnHead mu ∷ heads) text
      other [] = refl
      other (a ∷ []) = refl
      other (a ∷ b ∷ []) = refl
      other (a ∷ b ∷ c ∷ others) = refl

  -- the end
  pub end_allowed : (begun : Option Column) →
      answer_to (Columns (state e n columns begun [])) (codes "end")
      ≡ Ends (listing 2 e n (columns ++ begun_list begun))
  unfolding answer_to
  end_allowed begun = refl

  -- ---- the lines of a column

  module _ (few : n ≤ 30) (c : Column) (heads : List Head) (nu : List ℕ) (p : Laurent) (h : IsPartitionOf n nu)
      (readable : IsReadable p) (ne : p ≢ []) where
    text_free : Free 32 (partition_text nu)
    text_free = no_blank (partition_text nu) (partition_visible nu h.partition (omega (arith, h.total, few)))

    -- the line of a share
    pub share_allowed : is_next_share 2 e c nu ≡ true →
        answer_to (Columns (state e n columns (Some c) heads))
        (codes "share " ++ (partition_text nu ++ (codes " " ++ polynomial_text p)))
        ≡ Allowed (Columns (state e n columns (Some (with_share e c (nu, p))) heads))
    unfolding answer_to
    share_allowed next =
        ap (column_answer (state e n columns (Some c) heads)
        (codes "share " ++ (partition_text nu ++ (codes " " ++ polynomial_text p))))
        (term_words (codes "share") (partition_text nu) (polynomial_text p) free text_free
        (no_blank (polynomial_text p) (polynomial_visible p readable)))
        ∙ ap (share_answer (state e n columns (Some c) heads) (Some c)) (term_reads n nu p few h readable ne)
        ∙ ap (λ b. cond b (Allowed (Columns (state e n columns (Some (with_share e c (nu, p))) heads))) NotAllowed) next
      where
        free : Free 32 (codes "share")
        free = free_by (codes "share") refl

    -- the line of an entry
    pub entry_allowed : is_next_entry 2 e c nu ≡ true →
        answer_to (Columns (state e n columns (Some c) heads))
        (codes "entry " ++ (partition_text nu ++ (codes " " ++ polynomial_text p)))
        ≡ Allowed (Columns (state e n columns (Some (with_entry c (nu, p))) heads))
    unfolding answer_to
    entry_allowed next =
        ap (column_answer (state e n columns (Some c) heads)
        (codes "entry " ++ (partition_text nu ++ (codes " " ++ polynomial_text p))))
        (term_words (codes "entry") (partition_text nu) (polynomial_text p) free text_free
        (no_blank (polynomial_text p) (polynomial_visible p readable)))
        ∙ ap (entry_answer (state e n columns (Some c) heads) (Some c)) (term_reads n nu p few h readable ne)
        ∙ ap (λ b. cond b (Allowed (Columns (state e n columns (Some (with_entry c (nu, p))) heads))) NotAllowed) next
      where
        free : Free 32 (codes "entry")
        free = free_by (codes "entry") refl
