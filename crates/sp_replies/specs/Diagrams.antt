-- Answers on the nodes of a diagram. This project's own.
use Rattle.std.specs.Prelude.{ℕ, List, map}
use Rattle.std.specs.List.{range_with_len}
use Rattle.std.specs.Fmt.{decimal}
use Rattle.sp_defs.specs.Node.{content}
use Rattle.sp_replies.specs.Words.{dash_or_words, line_of}

-- How many nodes have each residue from 0 on.
abbrev pub content_text : ℕ → List ℕ → List ℕ
content_text e p = line_of (dash_or_words (map decimal (map (content e p) (range_with_len 0 e))))
