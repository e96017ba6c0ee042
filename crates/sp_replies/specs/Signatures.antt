-- Answers on normal, good and cogood nodes. This project's own.
use Rattle.std.specs.Prelude.{ℕ, List, [], ◌∷◌, ◌++◌, map, flat_map, Option, Some, None, codes}
use Rattle.std.specs.List.{range_with_len}
use Rattle.std.specs.Fmt.{decimal}
use Rattle.sp_defs.specs.Node.{Node}
use Rattle.sp_defs.specs.Signature.{Mark, signature, normal, good, cogood, path, mullineux}
use Rattle.sp_replies.specs.Words.{dash_or_words, line_of}
use Rattle.sp_replies.specs.Orders.{partition_line}
use Rattle.sp_replies.specs.Refusals.{refusal_line}
use Rattle.sp_replies.specs.declared.refusals.Refusal.TheVariants.{NoPath}

abbrev pub node_text : Node → List ℕ
node_text (r, c) = codes "(" ++ decimal r ++ codes "," ++ decimal c ++ codes ")"

-- A node, and a dash where there is none.
abbrev pub node_or_dash : Option Node → List ℕ
node_or_dash None = codes "-"
node_or_dash (Some x) = node_text x

-- The normal, the good and the cogood nodes of a residue.
abbrev pub nodes_line : ℕ → List Node → Option Node → Option Node → List ℕ
nodes_line i normals good_node cogood_node = line_of (
    decimal i ++ codes " normal " ++ dash_or_words (map node_text normals)
    ++ codes " good " ++ node_or_dash good_node ++ codes " cogood " ++ node_or_dash cogood_node)

-- Nothing where there are no marks.
abbrev pub unless_empty : List Mark → List ℕ → List ℕ
unless_empty [] text = []
unless_empty (m ∷ marks) text = text

-- A residue has a line where it has an addable or a removable node.
abbrev pub residue_line : ℕ → List ℕ → ℕ → List ℕ
residue_line e p i =
    unless_empty (signature e i p) (nodes_line i (normal e i p) (good e i p) (cogood e i p))

abbrev pub good_text : ℕ → List ℕ → List ℕ
good_text e p = flat_map (residue_line e p) (range_with_len 0 e)

abbrev pub path_text : ℕ → List ℕ → List ℕ
path_text e mu = line_of (dash_or_words (map decimal (path e mu)))

abbrev pub image_or_refusal : Option (List ℕ) → List ℕ
image_or_refusal None = refusal_line NoPath
image_or_refusal (Some image) = partition_line image

abbrev pub mullineux_text : ℕ → List ℕ → List ℕ
mullineux_text e mu = image_or_refusal (mullineux e mu)
