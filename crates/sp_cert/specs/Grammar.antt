-- The grammar of certificates, line by line: what a line is behind the lines that came before it. This project's own.
use Rattle.std.specs.Prelude.{ℕ, Bool, true, false, cond, ◌&&◌, ◌||◌, nat_eq, nat_le, nat_lt, List, [], ◌∷◌, ◌++◌}
use Rattle.std.specs.Prelude.{Option, None, Some, map, flat_map, codes}
use Rattle.std.specs.Cmp.Lexicographic.{pointwise}
use Rattle.std.specs.Option.{option_map, option_and_then}
use Rattle.std.specs.Ordering.{is_lt}
use Rattle.sp_defs.specs.Partition.{degree, compare, is_regular, regulars}
use Rattle.sp_defs.specs.Laurent.{Laurent}
use Rattle.sp_defs.specs.Power.{Entries}
use Rattle.sp_defs.specs.Text.{partition_text}
use Rattle.sp_partition.specs.Reading.{cut, number_of, partition_of}
use Rattle.sp_partition.specs.declared.TheConstants.{DEGREE_LIMIT}
use Rattle.sp_llt.specs.declared.share.Share.{Share}
use Rattle.sp_llt.specs.Shares.{rank_of, ranked_share}
use Rattle.sp_cert.specs.declared.certificate.Column.{Column}
use Rattle.sp_cert.specs.Order.{same_content, block_of, leaders}
use Rattle.sp_cert.specs.Polynomials.{polynomial_of}
use Rattle.sp_cert.specs.Rules.{Listing, listing}
use Rattle.sp_cert.specs.Texts.{counts_text}

-- ---- what is awaited

-- The line before a block, by its least e-regular partition, or the line that names a column.
pub data Head : Type 0 where
  BlockHead : List ℕ → Head
  ColumnHead : List ℕ → Head

-- The text of such a line, without its newline.
abbrev pub head_text : ℕ → Head → List ℕ
head_text e (BlockHead mu) = codes "block" ++ counts_text e mu
head_text e (ColumnHead mu) = codes "column " ++ partition_text mu

-- The line before a block, and those of its columns.
abbrev pub block_heads : ℕ → ℕ → List ℕ → List Head
block_heads e n mu = BlockHead mu ∷ map ColumnHead (block_of e n mu)

-- All of them, in order: in version 1 a column for each e-regular partition of n, ascending, and in version 2 block by
-- block.
unfoldable pub heads_of : ℕ → ℕ → ℕ → List Head
heads_of version e n =
    cond (nat_eq version 1) (map ColumnHead (regulars e n)) (flat_map (block_heads e n) (leaders e n))

-- ---- what came before

-- Behind the third line: the columns that can't go on, the column that was begun last and can go on, and the heads that
-- are still awaited.
pub record Body : Type 0 where
  pub version : ℕ
  pub e : ℕ
  pub degree : ℕ
  pub columns : List Column
  pub begun : Option Column
  pub heads : List Head

-- Nothing, the first line, the first two, or at least three lines.
pub data Before : Type 0 where
  Nothing : Before
  Version : ℕ → Before
  Base : ℕ → ℕ → Before
  Columns : Body → Before

-- What a line is in its place: allowed, and what then came before the next; the end, with what the certificate says; or
-- not allowed.
pub data Answer : Type 0 where
  Allowed : Before → Answer
  Ends : Listing → Answer
  NotAllowed : Answer

-- ---- words

-- A line is cut at each space.
abbrev pub words : List ℕ → List (List ℕ)
words text = cut 32 text

abbrev pub is_text : List ℕ → List ℕ → Bool
is_text text other = pointwise nat_eq text other

abbrev pub two_words : List (List ℕ) → Option (List ℕ × List ℕ)
two_words (first ∷ second ∷ []) = Some (first, second)
two_words _ = None

abbrev pub three_words : List (List ℕ) → Option (List ℕ × List ℕ × List ℕ)
three_words (first ∷ second ∷ third ∷ []) = Some (first, second, third)
three_words _ = None

-- The number behind this word, where they are all the words.
abbrev pub number_behind : List ℕ → Option (List ℕ × List ℕ) → Option ℕ
number_behind word None = None
number_behind word (Some (first, second)) = cond (is_text first word) (number_of second) None

-- The partition of n that has this text.
abbrev pub partition_with : ℕ → List ℕ → Option (List ℕ)
partition_with n text =
    option_and_then (λ p. cond (nat_eq (degree p) n && is_text (partition_text p) text) (Some p) None)
    (partition_of text)

abbrev pub unless_zero : Laurent → Option Laurent
unless_zero [] = None
unless_zero (t ∷ ts) = Some (t ∷ ts)

-- The polynomial that has this text and isn't 0.
abbrev pub polynomial_with : List ℕ → Option Laurent
polynomial_with text = option_and_then unless_zero (polynomial_of text)

-- The partition of n and the polynomial there that two words write.
abbrev pub term_of : ℕ → List ℕ → List ℕ → Option (List ℕ × Laurent)
term_of n partition polynomial =
    option_and_then (λ p. option_map (λ a. (p, a)) (polynomial_with polynomial)) (partition_with n partition)

-- ---- the first three lines

abbrev pub version_in : List ℕ → Option ℕ
version_in text =
    cond (is_text text (codes "certificate 1")) (Some 1)
    (cond (is_text text (codes "certificate 2")) (Some 2) None)

abbrev pub within : ℕ → ℕ → ℕ → Option ℕ
within least most n = cond (nat_le least n && nat_le n most) (Some n) None

abbrev pub e_in : List ℕ → Option ℕ
e_in text = option_and_then (within 2 64) (number_behind (codes "e") (two_words (words text)))

-- The greatest degree of a certificate of this version.
abbrev pub greatest_degree : ℕ → ℕ
greatest_degree version = cond (nat_eq version 1) 20 DEGREE_LIMIT

abbrev pub degree_in : ℕ → List ℕ → Option ℕ
degree_in version text =
    option_and_then (within 0 (greatest_degree version)) (number_behind (codes "degree") (two_words (words text)))

-- Behind the third line no column was begun, and all heads are awaited.
abbrev pub first_body : ℕ → ℕ → ℕ → Body
first_body version e n = record {
  version = version;
  e = e;
  degree = n;
  columns = [];
  begun = None;
  heads = heads_of version e n;
}

abbrev pub allowed_by : Option Before → Answer
allowed_by None = NotAllowed
allowed_by (Some before) = Allowed before

-- ---- the lines of a column

-- The same, but for the column that was begun last.
abbrev pub with_begun : Body → Column → Body
with_begun body c = record {
  version = body.version;
  e = body.e;
  degree = body.degree;
  columns = body.columns;
  begun = Some c;
  heads = body.heads;
}

-- In version 2 the partitions of a column have the content of its own.
abbrev pub has_content : ℕ → ℕ → List ℕ → List ℕ → Bool
has_content version e mu lambda = nat_eq version 1 || same_content e mu lambda

abbrev pub has_no_entry : Entries → Bool
has_no_entry [] = true
has_no_entry (t ∷ ts) = false

-- The rank of the last share, or this one where there is none.
abbrev pub last_rank : ℕ → List Share → ℕ
last_rank k [] = k
last_rank k (s ∷ shares) = last_rank s.rank shares

-- A share may stand behind the column's, at this partition: it is e-regular, and its rank is less than that of the last
-- share or, without one, than that of the column.
abbrev pub is_next_share : ℕ → ℕ → Column → List ℕ → Bool
is_next_share version e c nu =
    has_no_entry c.entries.entries
    && (is_regular e nu
    && (nat_lt (rank_of e nu) (last_rank (rank_of e c.mu) c.shares) && has_content version e c.mu nu))

-- The shares stand in the order of their lines.
abbrev pub with_share : ℕ → Column → List ℕ × Laurent → Column
with_share e c t = record { mu = c.mu; shares = c.shares ++ (ranked_share e t ∷ []); entries = c.entries }

abbrev pub share_answer : Body → Option Column → Option (List ℕ × Laurent) → Answer
share_answer body None t = NotAllowed
share_answer body (Some c) None = NotAllowed
share_answer body (Some c) (Some t) =
    cond (is_next_share body.version body.e c t.0) (Allowed (Columns (with_begun body (with_share body.e c t))))
    NotAllowed

-- Less than the least partition of these.
abbrev pub is_below : List ℕ → Entries → Bool
is_below lambda [] = true
is_below lambda (t ∷ ts) = is_lt (compare lambda t.0)

-- An entry may stand behind the column's, at this partition: it is less than that of the last entry.
abbrev pub is_next_entry : ℕ → ℕ → Column → List ℕ → Bool
is_next_entry version e c lambda = is_below lambda c.entries.entries && has_content version e c.mu lambda

-- The entries stand in the order of a vector, against that of their lines.
abbrev pub with_entry : Column → List ℕ × Laurent → Column
with_entry c t = record {
  mu = c.mu;
  shares = c.shares;
  entries = record { degree = c.entries.degree; entries = t ∷ c.entries.entries };
}

abbrev pub entry_answer : Body → Option Column → Option (List ℕ × Laurent) → Answer
entry_answer body None t = NotAllowed
entry_answer body (Some c) None = NotAllowed
entry_answer body (Some c) (Some t) =
    cond (is_next_entry body.version body.e c t.0) (Allowed (Columns (with_begun body (with_entry c t)))) NotAllowed

-- ---- the heads and the end

-- The column that was begun, where there is one.
abbrev pub begun_list : Option Column → List Column
begun_list None = []
begun_list (Some c) = c ∷ []

-- All columns that were begun.
abbrev pub begun_columns : Body → List Column
begun_columns body = body.columns ++ begun_list body.begun

-- A column without shares and entries.
abbrev pub new_column : ℕ → List ℕ → Column
new_column n mu = record { mu = mu; shares = []; entries = record { degree = n; entries = [] } }

-- A line before a block begins no column.
abbrev pub column_begun : ℕ → Head → Option Column
column_begun n (BlockHead mu) = None
column_begun n (ColumnHead mu) = Some (new_column n mu)

-- Behind a head the column before it can't go on.
abbrev pub behind_head : Body → Head → List Head → Body
behind_head body head others = record {
  version = body.version;
  e = body.e;
  degree = body.degree;
  columns = begun_columns body;
  begun = column_begun body.degree head;
  heads = others;
}

abbrev pub head_answer : Body → List Head → List ℕ → Answer
head_answer body [] text = NotAllowed
head_answer body (head ∷ others) text =
    cond (is_text text (head_text body.e head)) (Allowed (Columns (behind_head body head others))) NotAllowed

abbrev pub end_answer : Body → List Head → Answer
end_answer body [] = Ends (listing body.version body.e body.degree (begun_columns body))
end_answer body (head ∷ others) = NotAllowed

-- ---- a line

-- Three words may be a share or an entry. Any other line is to be the first head that is awaited.
abbrev pub column_answer : Body → List ℕ → Option (List ℕ × List ℕ × List ℕ) → Answer
column_answer body text None = head_answer body body.heads text
column_answer body text (Some (first, second, third)) =
    cond (is_text first (codes "share")) (share_answer body body.begun (term_of body.degree second third))
    (cond (is_text first (codes "entry")) (entry_answer body body.begun (term_of body.degree second third))
    (head_answer body body.heads text))

abbrev pub body_answer : Body → List ℕ → Answer
body_answer body text =
    cond (is_text text (codes "end")) (end_answer body body.heads) (column_answer body text (three_words (words text)))

-- What a line is behind what came before it. It has no newline.
unfoldable pub answer_to : Before → List ℕ → Answer
answer_to Nothing text = allowed_by (option_map Version (version_in text))
answer_to (Version version) text = allowed_by (option_map (Base version) (e_in text))
answer_to (Base version e) text =
    allowed_by (option_map (λ n. Columns (first_body version e n)) (degree_in version text))
answer_to (Columns body) text = body_answer body text

-- ---- how far a certificate has come

-- The number of the line that is awaited, from 1, and what came before it.
pub record Reading : Type 0 where
  pub next : ℕ
  pub before : Before

abbrev pub reading : ℕ → Before → Reading
reading next before = record { next = next; before = before }
