-- The lines of the certificate of all rows: together they are its text, and the grammar allows each in its place.
use Rattle.std.proofs.Common.{◌≡◌, ◌≢◌, ℕ, ◌<◌, ◌≤◌, true, ◌&&◌, nat_eq, nat_lt, codes, flat_map, map, reverse, List}
use Rattle.std.proofs.Common.{[], ◌∷◌, ◌++◌, Option, Some, None, refl, sym, ◌∙◌, ap, ap₂, subst, arith, append-nil}
use Rattle.std.proofs.Common.{◌^◌, append_assoc, lt-ltb, ltb-true}
use Rattle.std.specs.Fmt.{decimal}
use Rattle.std.specs.List.{AllByRecursion, list_all, range_with_len}
use Rattle.std.specs.Ordering.{is_lt}
use Rattle.std.proofs.lemmas.Grind.{flat_map-append}
use Rattle.std.proofs.lemmas.List.{reverse-append, reverse-reverse, map-append}
use Rattle.std.proofs.lemmas.List.Concat.{flat_map-cons}
use Rattle.std.proofs.lemmas.List.Folds.{flat_map-map}
use Rattle.sp_defs.specs.Partition.{degree, is_regular, regulars, Ascending, IsPartitionOf, IsRegularOf}
use Rattle.sp_defs.specs.Node.{content, residue, nodes}
use Rattle.sp_defs.specs.Laurent.{Laurent, IsLaurent}
use Rattle.sp_defs.specs.Power.{Entries, IsVector, entries}
use Rattle.sp_defs.specs.Row.{regular_row, outcome, Row}
use Rattle.sp_defs.specs.Statements.{SameContent}
use Rattle.sp_defs.specs.Text.{partition_text, polynomial_text}
use Rattle.sp_lists.proofs.Elements.{and_join, all_append, all_both, all_flat, all_map, map_all, all_reverse}
use Rattle.sp_lists.proofs.Elements.{all_every, all_filter, all_tests}
use Rattle.sp_lists.proofs.Places.{all_weaken}
use Rattle.sp_lists.proofs.Occurrence.{at_occurs}
use Rattle.sp_shapes.proofs.Diagram.{degree-nodes}
use Rattle.sp_shapes.proofs.Listing.{all_regulars, each_regular}
use Rattle.std.proofs.lemmas.List.Sums.{count_by-le-length}
use Rattle.sp_fock_law.proofs.Vectors.{IsVector-entries}
use Rattle.sp_outcome_law.proofs.Left.{IsLaurent-row}
use Rattle.sp_laurent.specs.Readable.{IsReadable}
use Rattle.sp_core.specs.declared.piece.Key.{Key}
use Rattle.sp_llt.specs.declared.share.Share.{Share}
use Rattle.sp_llt.specs.Place.{IsKey, key_of, label, labels}
use Rattle.sp_llt.specs.Shares.{rank_of, given_shares}
use Rattle.sp_llt.specs.Adopting.{Falling}
use Rattle.sp_llt.proofs.Labels.{label_facts}
use Rattle.sp_cert.specs.declared.certificate.Column.{Column}
use Rattle.sp_cert.specs.Grammar.{Head, BlockHead, ColumnHead, block_heads, heads_of, Nothing, Columns, Answer}
use Rattle.sp_cert.specs.Grammar.{Allowed, Ends, last_rank, is_next_share, is_below, is_next_entry, begun_list}
use Rattle.sp_cert.specs.Order.{same_content, block_of, leaders, columns_of}
use Rattle.sp_cert.specs.Rules.{listing}
use Rattle.sp_cert.specs.Texts.{ended, counts_text, column_text, block_text, certificate_text}
use Rattle.sp_cert.specs.Written.{row_column, row_listing, HasAllRows, IsLine, answer_after, IsWritten}
use Rattle.sp_cert.proofs.Answered.{version_allowed, e_allowed, degree_allowed, state, block_allowed, column_allowed}
use Rattle.sp_cert.proofs.Answered.{end_allowed, share_allowed, entry_allowed}
use Rattle.sp_cert.proofs.Blocks.{IsAmong, content_test}
use Rattle.sp_cert.proofs.RowColumns.{stands, listed_shares, obeys, entries_readable, shares_readable, share_among}
use Rattle.sp_cert.proofs.Visible.{IsVisible, decimal_visible, partition_visible, polynomial_visible}

-- ---- the lines

-- The line of a share, without its newline.
abbrev pub share_words : ℕ → ℕ → Share → List ℕ
share_words e n s =
    codes "share " ++ (partition_text (label (key_of e n 1) s.rank) ++ (codes " " ++ polynomial_text s.alpha))

-- The line of an entry.
abbrev pub entry_words : List ℕ × Laurent → List ℕ
entry_words t = codes "entry " ++ (partition_text t.0 ++ (codes " " ++ polynomial_text t.1))

-- The lines of the column of a row.
abbrev pub column_lines : ℕ → ℕ → List ℕ → List (List ℕ)
column_lines e n mu =
    (codes "column " ++ partition_text mu) ∷
    (map (share_words e n) (given_shares e mu 0) ++ map entry_words (reverse (entries n (regular_row e mu))))

-- The lines of a block.
abbrev pub block_lines : ℕ → ℕ → List ℕ → List (List ℕ)
block_lines e n mu = (codes "block" ++ counts_text e mu) ∷ flat_map (column_lines e n) (block_of e n mu)

-- All lines of the certificate of all rows.
abbrev pub all_lines : ℕ → ℕ → List (List ℕ)
all_lines e n =
    (codes "certificate" ++ (codes " " ++ decimal 2)) ∷ (codes "e" ++ (codes " " ++ decimal e)) ∷
    (codes "degree" ++ (codes " " ++ decimal n)) ∷
    (flat_map (block_lines e n) (leaders e n) ++ (codes "end" ∷ []))

-- ---- they are the text

joined_all : {X : Type 0} (g : X → List (List ℕ)) (h : X → List ℕ) (xs : List X) →
    ((x : X) → flat_map ended (g x) ≡ h x) → flat_map ended (flat_map g xs) ≡ flat_map h xs
joined_all g h [] same = refl
joined_all g h (x ∷ xs) same =
    ap (flat_map ended) (flat_map-cons g x xs)
    ∙ flat_map-append ended (g x) (flat_map g xs)
    ∙ ap₂ (λ s t. s ++ t) (same x) (joined_all g h xs same)
    ∙ sym (flat_map-cons h x xs)

column_joined : (e n : ℕ) (mu : List ℕ) → flat_map ended (column_lines e n mu) ≡ column_text e n mu
column_joined e n mu =
    flat_map-cons ended (codes "column " ++ partition_text mu)
    (map (share_words e n) (given_shares e mu 0) ++ map entry_words (reverse (entries n (regular_row e mu))))
    ∙ ap (λ t. ended (codes "column " ++ partition_text mu) ++ t)
    (flat_map-append ended (map (share_words e n) (given_shares e mu 0))
    (map entry_words (reverse (entries n (regular_row e mu))))
    ∙ ap₂ (λ s t. s ++ t) (flat_map-map ended (share_words e n) (given_shares e mu 0))
    (flat_map-map ended entry_words (reverse (entries n (regular_row e mu)))))

block_joined : (e n : ℕ) (mu : List ℕ) → flat_map ended (block_lines e n mu) ≡ block_text e n mu
block_joined e n mu =
    flat_map-cons ended (codes "block" ++ counts_text e mu) (flat_map (column_lines e n) (block_of e n mu))
    ∙ ap (λ t. ended (codes "block" ++ counts_text e mu) ++ t)
    (joined_all (column_lines e n) (column_text e n) (block_of e n mu) (column_joined e n))

-- the lines, each ended, are the text
pub all_joined : (e n : ℕ) → certificate_text e n ≡ flat_map ended (all_lines e n)
unfolding certificate_text
all_joined e n =
    sym (flat_map-cons ended first (second ∷ third ∷ rest)
    ∙ ap (λ t. ended first ++ t) (flat_map-cons ended second (third ∷ rest)
    ∙ ap (λ t. ended second ++ t) (flat_map-cons ended third rest
    ∙ ap (λ t. ended third ++ t) (flat_map-append ended (flat_map (block_lines e n) (leaders e n)) (codes "end" ∷ [])
    ∙ ap₂ (λ s t. s ++ t) (joined_all (block_lines e n) (block_text e n) (leaders e n) (block_joined e n))
    (flat_map-cons ended (codes "end") [] ∙ append-nil (ended (codes "end")))))))
  where
    first : List ℕ
    first = codes "certificate" ++ (codes " " ++ decimal 2)

    second : List ℕ
    second = codes "e" ++ (codes " " ++ decimal e)

    third : List ℕ
    third = codes "degree" ++ (codes " " ++ decimal n)

    rest : List (List ℕ)
    rest = flat_map (block_lines e n) (leaders e n) ++ (codes "end" ∷ [])

-- ---- the shares and the entries of a row

-- A share that may be written.
record GoodShare (key : Key) (mu : List ℕ) (s : Share) : Type 0 where
  regular : IsRegularOf key.e key.degree (label key s.rank)
  rank : rank_of key.e (label key s.rank) ≡ s.rank
  content : same_content key.e mu (label key s.rank) ≡ true
  readable : IsReadable s.alpha
  nonzero : s.alpha ≢ []

-- An entry that may be written.
record GoodEntry (e n : ℕ) (mu : List ℕ) (t : List ℕ × Laurent) : Type 0 where
  partition : IsPartitionOf n t.0
  content : same_content e mu t.0 ≡ true
  readable : IsReadable t.1
  nonzero : t.1 ≢ []

module _ (key : Key) (held : IsKey key) (mu : List ℕ) (r : IsRegularOf key.e key.degree mu)
    (row : outcome key.e key.limit mu ≡ Row) where
  good_shares : AllByRecursion (GoodShare key mu) (given_shares key.e mu 0)
  good_shares =
      all_weaken (λ (s : Share). (IsAmong 2 key.e key.degree mu (label key s.rank) × IsReadable s.alpha)
      × ((s.rank < rank_of key.e mu) × (s.alpha ≢ []))) (GoodShare key mu) (given_shares key.e mu 0)
      (λ s h. record {
        regular = h.0.0.regular;
        rank = (label_facts key s.rank (record {
          key = held;
          rank = omega (arith, h.1.0, (stands key held mu r row).within);
        })).count;
        content = content_test key.e mu (label key s.rank) (h.0.0.content refl);
        readable = h.0.1;
        nonzero = h.1.1;
      })
      (all_both (λ (s : Share). IsAmong 2 key.e key.degree mu (label key s.rank) × IsReadable s.alpha)
      (λ s. (s.rank < rank_of key.e mu) × (s.alpha ≢ [])) (given_shares key.e mu 0)
      (all_both (λ (s : Share). IsAmong 2 key.e key.degree mu (label key s.rank)) (λ s. IsReadable s.alpha)
      (given_shares key.e mu 0) (share_among key held mu r row) (shares_readable key held mu r row))
      (all_both (λ (s : Share). s.rank < rank_of key.e mu) (λ s. s.alpha ≢ []) (given_shares key.e mu 0)
      (listed_shares key held mu r row).lower (listed_shares key held mu r row).nonzero))

  good_entries : AllByRecursion (GoodEntry key.e key.degree mu) (entries key.degree (regular_row key.e mu))
  good_entries =
      all_weaken (λ t. (IsPartitionOf key.degree t.0 × SameContent key.e mu t.0) × (IsReadable t.1 × (t.1 ≢ [])))
      (GoodEntry key.e key.degree mu) es
      (λ t h. record {
        partition = h.0.0;
        content = content_test key.e mu t.0 h.0.1;
        readable = h.1.0;
        nonzero = h.1.1;
      })
      (all_both (λ t. IsPartitionOf key.degree t.0 × SameContent key.e mu t.0) (λ t. IsReadable t.1 × (t.1 ≢ [])) es
      (all_both (λ t. IsPartitionOf key.degree t.0) (λ t. SameContent key.e mu t.0) es vector.partitions_of contents)
      (all_both (λ t. IsReadable t.1) (λ t. t.1 ≢ []) es (entries_readable key held mu r row)
      (all_weaken (λ t. IsLaurent t.1 × (t.1 ≢ [])) (λ t. t.1 ≢ []) es (λ t h. h.1) vector.polynomials)))
    where
      es : Entries
      es = entries key.degree (regular_row key.e mu)

      vector : IsVector key.degree es
      vector = IsVector-entries key.degree (regular_row key.e mu) (IsLaurent-row key.e mu)

      contents : AllByRecursion (λ t. SameContent key.e mu t.0) es
      contents =
          subst (λ m. AllByRecursion (λ t. SameContent key.e m t.0) es) (stands key held mu r row).at
          (obeys key held mu r row).contents

  entries_ascend : Ascending (map (λ t. t.0) (entries key.degree (regular_row key.e mu)))
  entries_ascend = (IsVector-entries key.degree (regular_row key.e mu) (IsLaurent-row key.e mu)).ascending

-- ---- the lines of a column are allowed

ascending_right : (xs ys : Entries) → Ascending (map (λ t. t.0) (xs ++ ys)) → Ascending (map (λ t. t.0) ys)
ascending_right [] ys h = h
ascending_right (x ∷ xs) ys (h, hs) = ascending_right xs ys hs

next_below : (t : List ℕ × Laurent) (done : Entries) → Ascending (map (λ u. u.0) (t ∷ done)) → is_below t.0 done ≡ true
next_below t [] h = refl
next_below t (u ∷ done) ((h, hs), rest) = ap is_lt h

-- the next of falling ranks is less than the last one
last_lower : (k : ℕ) (done : List Share) (s : Share) (todo : List Share) →
    AllByRecursion (λ (t : Share). t.rank < k) (done ++ (s ∷ todo)) →
    Falling (map (λ (t : Share). t.rank) (done ++ (s ∷ todo))) → s.rank < last_rank k done
last_lower k [] s todo (h, hs) falls = h
last_lower k (t ∷ done) s todo (h, hs) (f, fs) =
    last_lower t.rank done s todo (map_all (λ j. j < t.rank) (λ (u : Share). u.rank) (done ++ (s ∷ todo)) f) fs

module _ (key : Key) (few : key.degree ≤ 30) (mu : List ℕ) (columns : List Column) (heads : List Head)
    (lines : List (List ℕ)) where
  -- The column with some of its shares and entries.
  abbrev part : List Share → Entries → Column
  part ss es = record { mu = mu; shares = ss; entries = record { degree = key.degree; entries = es } }

  -- Behind them.
  abbrev behind : List Share → Entries → Answer
  behind ss es = Allowed (Columns (state key.e key.degree columns (Some (part ss es)) heads))

  shares_read : (done todo : List Share) → AllByRecursion (GoodShare key mu) todo →
      AllByRecursion (λ (t : Share). t.rank < rank_of key.e mu) (done ++ todo) →
      Falling (map (λ (t : Share). t.rank) (done ++ todo)) →
      answer_after (behind done []) (map (share_words key.e key.degree) todo ++ lines)
      ≡ answer_after (behind (done ++ todo) []) lines
  shares_read done [] good lower falls = ap (λ ss. answer_after (behind ss []) lines) (sym (append-nil done))
  shares_read done (s ∷ todo) (g, gs) lower falls =
      ap (λ a. answer_after a (map (share_words key.e key.degree) todo ++ lines))
      (share_allowed key.e key.degree columns few (part done []) heads (label key s.rank) s.alpha
      (record { partition = g.regular.partition; total = g.regular.total }) g.readable g.nonzero next)
      ∙ ap (λ k. answer_after (behind (done ++ (record { rank = k; alpha = s.alpha } ∷ [])) [])
      (map (share_words key.e key.degree) todo ++ lines)) g.rank
      ∙ shares_read (done ++ (s ∷ [])) todo gs
      (subst (AllByRecursion (λ (t : Share). t.rank < rank_of key.e mu)) (sym whole) lower)
      (subst (λ ss. Falling (map (λ (t : Share). t.rank) ss)) (sym whole) falls)
      ∙ ap (λ ss. answer_after (behind ss []) lines) whole
    where
      whole : (done ++ (s ∷ [])) ++ todo ≡ done ++ (s ∷ todo)
      whole = append_assoc done (s ∷ []) todo

      lt : rank_of key.e (label key s.rank) < last_rank (rank_of key.e mu) done
      lt =
          subst (λ k. k < last_rank (rank_of key.e mu) done) (sym g.rank)
          (last_lower (rank_of key.e mu) done s todo lower falls)

      next : is_next_share 2 key.e (part done []) (label key s.rank) ≡ true
      next =
          and_join (is_regular key.e (label key s.rank))
          (nat_lt (rank_of key.e (label key s.rank)) (last_rank (rank_of key.e mu) done)
          && same_content key.e mu (label key s.rank)) g.regular.regular
          (and_join (nat_lt (rank_of key.e (label key s.rank)) (last_rank (rank_of key.e mu) done))
          (same_content key.e mu (label key s.rank))
          (lt-ltb (rank_of key.e (label key s.rank)) (last_rank (rank_of key.e mu) done) lt) g.content)

  entries_read : (ss : List Share) (todo done : Entries) → AllByRecursion (GoodEntry key.e key.degree mu) todo →
      Ascending (map (λ t. t.0) (reverse todo ++ done)) →
      answer_after (behind ss done) (map entry_words todo ++ lines)
      ≡ answer_after (behind ss (reverse todo ++ done)) lines
  entries_read ss [] done good up = refl
  entries_read ss (t ∷ todo) done (g, gs) up =
      ap (λ a. answer_after a (map entry_words todo ++ lines))
      (entry_allowed key.e key.degree columns few (part ss done) heads t.0 t.1 g.partition g.readable g.nonzero next)
      ∙ entries_read ss todo (t ∷ done) gs ascends
      ∙ ap (λ es. answer_after (behind ss es) lines) (sym whole)
    where
      whole : reverse (t ∷ todo) ++ done ≡ reverse todo ++ (t ∷ done)
      whole = ap (λ xs. xs ++ done) (reverse-append (t ∷ []) todo) ∙ append_assoc (reverse todo) (t ∷ []) done

      ascends : Ascending (map (λ u. u.0) (reverse todo ++ (t ∷ done)))
      ascends = subst (λ es. Ascending (map (λ (u : List ℕ × Laurent). u.0) es)) whole up

      next : is_next_entry 2 key.e (part ss done) t.0 ≡ true
      next =
          and_join (is_below t.0 done) (same_content key.e mu t.0)
          (next_below t done (ascending_right (reverse todo) (t ∷ done) ascends)) g.content

-- ---- the lines are allowed

module _ (key : Key) (held : IsKey key) (all : HasAllRows key) where
  few : key.degree ≤ 30
  few = omega (arith, held.degree)

  -- Behind these columns, with these heads awaited, the lines end with the certificate of all rows.
  abbrev IsRead : List Column → List Head → List (List ℕ) → Type 0
  IsRead known heads lines =
      (columns : List Column) (begun : Option Column) → columns ++ begun_list begun ≡ known →
      answer_after (Allowed (Columns (state key.e key.degree columns begun heads))) lines
      ≡ Ends (row_listing key.e key.degree)

  column_read : (mu : List ℕ) → IsRegularOf key.e key.degree mu → (known : List Column) (heads : List Head)
      (lines : List (List ℕ)) → IsRead (known ++ (row_column key.e key.degree mu ∷ [])) heads lines →
      IsRead known (ColumnHead mu ∷ heads) (column_lines key.e key.degree mu ++ lines)
  column_read mu r known heads lines rest columns begun same =
      ap (λ ls. answer_after (Allowed (Columns (state key.e key.degree columns begun (ColumnHead mu ∷ heads))))
      ((codes "column " ++ partition_text mu) ∷ ls)) (append_assoc shares_lines entries_lines lines)
      ∙ ap (λ a. answer_after a (shares_lines ++ (entries_lines ++ lines)))
      (column_allowed key.e key.degree columns begun mu heads)
      ∙ shares_read key few mu (columns ++ begun_list begun) heads (entries_lines ++ lines) []
      (given_shares key.e mu 0) (good_shares key held mu r row) (listed_shares key held mu r row).lower
      (listed_shares key held mu r row).falling
      ∙ entries_read key few mu (columns ++ begun_list begun) heads lines (given_shares key.e mu 0) (reverse es) []
      (all_reverse (GoodEntry key.e key.degree mu) es (good_entries key held mu r row))
      (subst (λ xs. Ascending (map (λ (t : List ℕ × Laurent). t.0) xs)) (sym back) (entries_ascend key held mu r row))
      ∙ ap (λ xs. answer_after
      (behind key few mu (columns ++ begun_list begun) heads lines (given_shares key.e mu 0) xs)
      lines) back
      ∙ rest (columns ++ begun_list begun) (Some (row_column key.e key.degree mu))
      (ap (λ cs. cs ++ (row_column key.e key.degree mu ∷ [])) same)
    where
      row : outcome key.e key.limit mu ≡ Row
      row = at_occurs (λ x. outcome key.e key.limit x ≡ Row) mu (labels key) (each_regular key.e key.degree mu r) all

      es : Entries
      es = entries key.degree (regular_row key.e mu)

      shares_lines : List (List ℕ)
      shares_lines = map (share_words key.e key.degree) (given_shares key.e mu 0)

      entries_lines : List (List ℕ)
      entries_lines = map entry_words (reverse es)

      back : reverse (reverse es) ++ [] ≡ es
      back = append-nil (reverse (reverse es)) ∙ reverse-reverse es

  columns_read : (mus : List (List ℕ)) → AllByRecursion (IsRegularOf key.e key.degree) mus → (known : List Column)
      (heads : List Head) (lines : List (List ℕ)) →
      IsRead (known ++ map (row_column key.e key.degree) mus) heads lines →
      IsRead known (map ColumnHead mus ++ heads) (flat_map (column_lines key.e key.degree) mus ++ lines)
  columns_read [] good known heads lines rest = subst (λ cs. IsRead cs heads lines) (append-nil known) rest
  columns_read (mu ∷ mus) (r, rs) known heads lines rest =
      subst (IsRead known (ColumnHead mu ∷ (map ColumnHead mus ++ heads)))
      (sym (ap (λ ls. ls ++ lines) (flat_map-cons (column_lines key.e key.degree) mu mus)
      ∙ append_assoc (column_lines key.e key.degree mu) (flat_map (column_lines key.e key.degree) mus) lines))
      (column_read mu r known (map ColumnHead mus ++ heads) (flat_map (column_lines key.e key.degree) mus ++ lines)
      (columns_read mus rs (known ++ (row_column key.e key.degree mu ∷ [])) heads lines
      (subst (λ cs. IsRead cs heads lines)
      (sym (append_assoc known (row_column key.e key.degree mu ∷ []) (map (row_column key.e key.degree) mus))) rest)))

  block_read : (mu : List ℕ) (known : List Column) (heads : List Head) (lines : List (List ℕ)) →
      IsRead known heads lines → IsRead known (BlockHead mu ∷ heads) ((codes "block" ++ counts_text key.e mu) ∷ lines)
  block_read mu known heads lines rest columns begun same =
      ap (λ a. answer_after a lines) (block_allowed key.e key.degree columns begun mu heads)
      ∙ rest (columns ++ begun_list begun) None (append-nil (columns ++ begun_list begun) ∙ same)

  block_regular : (l : List ℕ) → AllByRecursion (IsRegularOf key.e key.degree) (block_of key.e key.degree l)
  block_regular l =
      all_filter (IsRegularOf key.e key.degree) (same_content key.e l) (regulars key.e key.degree)
      (all_weaken (IsRegularOf key.e key.degree) (λ x. same_content key.e l x ≡ true → IsRegularOf key.e key.degree x)
      (regulars key.e key.degree) (λ x h _. h) (all_regulars key.e key.degree))

  abbrev block_columns : List ℕ → List Column
  block_columns l = map (row_column key.e key.degree) (block_of key.e key.degree l)

  blocks_read : (ls : List (List ℕ)) (known : List Column) (lines : List (List ℕ)) →
      IsRead (known ++ flat_map block_columns ls) [] lines →
      IsRead known (flat_map (block_heads key.e key.degree) ls) (flat_map (block_lines key.e key.degree) ls ++ lines)
  blocks_read [] known lines rest = subst (λ cs. IsRead cs [] lines) (append-nil known) rest
  blocks_read (l ∷ ls) known lines rest =
      subst (λ hs. IsRead known hs (flat_map (block_lines key.e key.degree) (l ∷ ls) ++ lines))
      (sym (flat_map-cons (block_heads key.e key.degree) l ls))
      (subst (IsRead known (BlockHead l ∷ (map ColumnHead (block_of key.e key.degree l) ++ later_heads)))
      (sym (ap (λ xs. xs ++ lines) (flat_map-cons (block_lines key.e key.degree) l ls)
      ∙ append_assoc (block_lines key.e key.degree l) (flat_map (block_lines key.e key.degree) ls) lines))
      (block_read l known (map ColumnHead (block_of key.e key.degree l) ++ later_heads)
      (flat_map (column_lines key.e key.degree) (block_of key.e key.degree l) ++ later_lines)
      (columns_read (block_of key.e key.degree l) (block_regular l) known later_heads later_lines
      (blocks_read ls (known ++ block_columns l) lines
      (subst (λ cs. IsRead cs [] lines)
      (ap (λ cs. known ++ cs) (flat_map-cons block_columns l ls)
      ∙ sym (append_assoc known (block_columns l) (flat_map block_columns ls))) rest)))))
    where
      later_heads : List Head
      later_heads = flat_map (block_heads key.e key.degree) ls

      later_lines : List (List ℕ)
      later_lines = flat_map (block_lines key.e key.degree) ls ++ lines

  columns_by_block : (ls : List (List ℕ)) →
      flat_map block_columns ls ≡ map (row_column key.e key.degree) (flat_map (block_of key.e key.degree) ls)
  columns_by_block [] = refl
  columns_by_block (l ∷ ls) =
      flat_map-cons block_columns l ls
      ∙ ap (λ cs. block_columns l ++ cs) (columns_by_block ls)
      ∙ sym (ap (map (row_column key.e key.degree)) (flat_map-cons (block_of key.e key.degree) l ls)
      ∙ map-append (row_column key.e key.degree) (block_of key.e key.degree l)
      (flat_map (block_of key.e key.degree) ls))

  end_read : IsRead (flat_map block_columns (leaders key.e key.degree)) [] (codes "end" ∷ [])
  unfolding columns_of
  end_read columns begun same =
      end_allowed key.e key.degree columns begun
      ∙ ap (λ cs. Ends (listing 2 key.e key.degree cs)) (same ∙ columns_by_block (leaders key.e key.degree))

  -- the grammar allows each line, and the last one ends the certificate of all rows
  pub all_read : answer_after (Allowed Nothing) (all_lines key.e key.degree) ≡ Ends (row_listing key.e key.degree)
  unfolding heads_of
  all_read =
      ap (λ a. answer_after a (second ∷ third ∷ rest)) version_allowed
      ∙ ap (λ a. answer_after a (third ∷ rest)) (e_allowed key.e held.e_least held.e_most)
      ∙ ap (λ a. answer_after a rest) (degree_allowed key.e key.degree few)
      ∙ blocks_read (leaders key.e key.degree) [] (codes "end" ∷ []) end_read [] None refl
    where
      second : List ℕ
      second = codes "e" ++ (codes " " ++ decimal key.e)

      third : List ℕ
      third = codes "degree" ++ (codes " " ++ decimal key.degree)

      rest : List (List ℕ)
      rest = flat_map (block_lines key.e key.degree) (leaders key.e key.degree) ++ (codes "end" ∷ [])

-- ---- no line has a newline

visible_line : (text : List ℕ) → IsVisible text → IsLine text
visible_line text h = all_weaken (λ c. 32 < c) (λ c. c ≢ 10) text (λ c lt e. omega (arith, lt, e)) h

word_line : (word : List ℕ) → list_all (λ c. nat_lt 10 c) word ≡ true → IsLine word
word_line word h =
    all_weaken (λ c. nat_lt 10 c ≡ true) (λ c. c ≢ 10) word (λ c t e. omega (arith, ltb-true 10 c t, e))
    (all_tests (λ c. nat_lt 10 c) word h)

line_append : (xs ys : List ℕ) → IsLine xs → IsLine ys → IsLine (xs ++ ys)
line_append xs ys h k = all_append (λ c. c ≢ 10) xs ys h k

number_line_plain : (word : List ℕ) (n : ℕ) → IsLine word → n < 2 ^ 128 → IsLine (word ++ (codes " " ++ decimal n))
number_line_plain word n h small =
    line_append word (codes " " ++ decimal n) h
    (line_append (codes " ") (decimal n) (word_line (codes " ") refl)
    (visible_line (decimal n) (decimal_visible n small)))

term_line_plain : (word lambda : List ℕ) (p : Laurent) → IsLine word → IsVisible (partition_text lambda) →
    IsReadable p → IsLine (word ++ (partition_text lambda ++ (codes " " ++ polynomial_text p)))
term_line_plain word lambda p h k readable =
    line_append word (partition_text lambda ++ (codes " " ++ polynomial_text p)) h
    (line_append (partition_text lambda) (codes " " ++ polynomial_text p) (visible_line (partition_text lambda) k)
    (line_append (codes " ") (polynomial_text p) (word_line (codes " ") refl)
    (visible_line (polynomial_text p) (polynomial_visible p readable))))

-- a residue occurs at most as often as there are nodes
counts_plain : (e : ℕ) (mu : List ℕ) → ((i : ℕ) → content e mu i < 2 ^ 128) → IsLine (counts_text e mu)
counts_plain e mu small =
    all_flat (λ c. c ≢ 10) (λ i. codes " " ++ decimal (content e mu i)) (range_with_len 0 e)
    (all_every (λ i. IsLine (codes " " ++ decimal (content e mu i))) (range_with_len 0 e)
    (λ i. line_append (codes " ") (decimal (content e mu i)) (word_line (codes " ") refl)
    (visible_line (decimal (content e mu i)) (decimal_visible (content e mu i) (small i)))))

module _ (key : Key) (held : IsKey key) (all : HasAllRows key) where
  abbrev e : ℕ
  e = key.e

  abbrev n : ℕ
  n = key.degree

  row_at : (mu : List ℕ) → IsRegularOf e n mu → outcome e key.limit mu ≡ Row
  row_at mu r = at_occurs (λ x. outcome e key.limit x ≡ Row) mu (labels key) (each_regular e n mu r) all

  text_visible : (lambda : List ℕ) → IsPartitionOf n lambda → IsVisible (partition_text lambda)
  text_visible lambda p = partition_visible lambda p.partition (omega (arith, p.total, held.degree))

  column_plain : (mu : List ℕ) → IsRegularOf e n mu → AllByRecursion IsLine (column_lines e n mu)
  column_plain mu r = (
    line_append (codes "column ") (partition_text mu) (word_line (codes "column ") refl)
        (visible_line (partition_text mu)
        (text_visible mu (record { partition = r.partition; total = r.total }))),
    all_append IsLine (map (share_words e n) (given_shares e mu 0))
        (map entry_words (reverse (entries n (regular_row e mu))))
        (all_map IsLine (share_words e n) (given_shares e mu 0)
        (all_weaken (GoodShare key mu) (λ s. IsLine (share_words e n s)) (given_shares e mu 0)
        (λ s g. term_line_plain (codes "share ") (label key s.rank) s.alpha (word_line (codes "share ") refl)
        (text_visible (label key s.rank) (record { partition = g.regular.partition; total = g.regular.total }))
        g.readable) (good_shares key held mu r (row_at mu r))))
        (all_map IsLine entry_words (reverse (entries n (regular_row e mu)))
        (all_reverse (λ t. IsLine (entry_words t)) (entries n (regular_row e mu))
        (all_weaken (GoodEntry e n mu) (λ t. IsLine (entry_words t)) (entries n (regular_row e mu))
        (λ t g. term_line_plain (codes "entry ") t.0 t.1 (word_line (codes "entry ") refl)
        (text_visible t.0 g.partition) g.readable) (good_entries key held mu r (row_at mu r))))),
  )

  content_within : (mu : List ℕ) (i : ℕ) → content e mu i ≤ degree mu
  content_within mu i =
      omega (arith, count_by-le-length (λ x. nat_eq (residue e x) i) (nodes mu), degree-nodes 1 mu)

  content_small : (mu : List ℕ) → IsRegularOf e n mu → (i : ℕ) → content e mu i < 2 ^ 128
  content_small mu r i =
      omega (arith, held.degree, r.total, content_within mu i)

  block_plain : (l : List ℕ) → IsRegularOf e n l → AllByRecursion IsLine (block_lines e n l)
  block_plain l r = (
    line_append (codes "block") (counts_text e l) (word_line (codes "block") refl)
        (counts_plain e l (content_small l r)),
    all_flat IsLine (column_lines e n) (block_of e n l)
        (all_weaken (IsRegularOf e n) (λ mu. AllByRecursion IsLine (column_lines e n mu)) (block_of e n l) column_plain
        (block_regular key held all l)),
  )

  leaders_regular : AllByRecursion (IsRegularOf e n) (leaders e n)
  leaders_regular =
      all_filter (IsRegularOf e n) _ (regulars e n)
      (all_weaken (IsRegularOf e n) _ (regulars e n) (λ x h _. h) (all_regulars e n))

  all_plain : AllByRecursion IsLine (all_lines e n)
  all_plain = (
    number_line_plain (codes "certificate") 2 (word_line (codes "certificate") refl) (omega arith),
    (
      number_line_plain (codes "e") e (word_line (codes "e") refl) (omega (arith, held.e_most)),
      (
        number_line_plain (codes "degree") n (word_line (codes "degree") refl) (omega (arith, held.degree)),
        all_append IsLine (flat_map (block_lines e n) (leaders e n)) (codes "end" ∷ [])
            (all_flat IsLine (block_lines e n) (leaders e n)
            (all_weaken (IsRegularOf e n) (λ l. AllByRecursion IsLine (block_lines e n l)) (leaders e n) block_plain
            leaders_regular))
            (word_line (codes "end") refl, tt),
      ),
    ),
  )

  -- the text of the certificate of all rows has lines, which the grammar allows
  pub written_lines : IsWritten key
  written_lines = record {
    lines = all_lines e n;
    text = all_joined e n;
    each = all_plain;
    grammar = all_read key held all;
  }
