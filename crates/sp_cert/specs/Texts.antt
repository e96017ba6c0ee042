-- The lines of a certificate, and the certificate of all rows.
use Rattle.std.specs.Prelude.{ℕ, List, [], ◌∷◌, ◌++◌, flat_map, reverse, codes}
use Rattle.std.specs.List.{range_with_len}
use Rattle.std.specs.Fmt.{decimal}
use Rattle.sp_defs.specs.Node.{content}
use Rattle.sp_defs.specs.Laurent.{Laurent}
use Rattle.sp_defs.specs.Power.{entries}
use Rattle.sp_defs.specs.Row.{regular_row}
use Rattle.sp_defs.specs.Text.{partition_text, polynomial_text}
use Rattle.sp_llt.specs.declared.share.Share.{Share}
use Rattle.sp_llt.specs.Place.{key_of, label}
use Rattle.sp_llt.specs.Shares.{given_shares}
use Rattle.sp_cert.specs.Order.{block_of, leaders}

-- A text and the newline behind it.
abbrev pub ended : List ℕ → List ℕ
ended text = text ++ (10 ∷ [])

-- A word and a number.
abbrev pub number_line : List ℕ → ℕ → List ℕ
number_line word number = ended (word ++ (codes " " ++ decimal number))

-- The counts by residue from 0, with a space before each.
abbrev pub counts_text : ℕ → List ℕ → List ℕ
counts_text e mu = flat_map (λ i. codes " " ++ decimal (content e mu i)) (range_with_len 0 e)

-- The line before a block: the content of its partitions.
abbrev pub block_line : ℕ → List ℕ → List ℕ
block_line e mu = ended (codes "block" ++ counts_text e mu)

abbrev pub column_line : List ℕ → List ℕ
column_line mu = ended (codes "column " ++ partition_text mu)

-- A word, a partition, and the polynomial there.
abbrev pub term_line : List ℕ → List ℕ → Laurent → List ℕ
term_line word lambda p = ended (word ++ (partition_text lambda ++ (codes " " ++ polynomial_text p)))

abbrev pub share_line : ℕ → ℕ → Share → List ℕ
share_line e n s = term_line (codes "share ") (label (key_of e n 1) s.rank) s.alpha

abbrev pub entry_line : List ℕ × Laurent → List ℕ
entry_line t = term_line (codes "entry ") t.0 t.1

-- The column of the row of mu: the shares that aren't 0 and all entries, the greatest partition first.
abbrev pub column_text : ℕ → ℕ → List ℕ → List ℕ
column_text e n mu =
    column_line mu ++
    (flat_map (share_line e n) (given_shares e mu 0) ++ flat_map entry_line (reverse (entries n (regular_row e mu))))

-- The block of a content, whose least e-regular partition is mu.
abbrev pub block_text : ℕ → ℕ → List ℕ → List ℕ
block_text e n mu = block_line e mu ++ flat_map (column_text e n) (block_of e n mu)

-- The certificate of all rows of degree n, in version 2.
unfoldable pub certificate_text : ℕ → ℕ → List ℕ
certificate_text e n =
    number_line (codes "certificate") 2 ++
    (number_line (codes "e") e ++
    (number_line (codes "degree") n ++ (flat_map (block_text e n) (leaders e n) ++ ended (codes "end"))))
