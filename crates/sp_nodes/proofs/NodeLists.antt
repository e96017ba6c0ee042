-- The list of the nodes, filled node by node and row by row.
use Rattle.std.proofs.Common.{◌≡◌, ℕ, ◌+◌, ◌-◌, ◌≤◌, List, [], ◌∷◌, ◌++◌, map, flat_map, take, length, sum, sym, ◌∙◌}
use Rattle.std.proofs.Common.{ap, ap₂, arith, append_assoc, length-append}
use Rattle.std.specs.List.{All, range_with_len}
use Rattle.std.proofs.lemmas.List.{map-append, append-nil}
use Rattle.std.proofs.lemmas.List.Elements.{All-push}
use Rattle.std.proofs.lemmas.List.FromFn.{map-range_with_len_more}
use Rattle.std.proofs.lemmas.List.Sums.{sum_by_more, sum_by_more_le}
use Rattle.sp_defs.specs.Partition.{part}
use Rattle.sp_defs.specs.Node.{nodes}
use Rattle.sp_lists.proofs.FlatMaps.{flat_map-range_more}
use Rattle.sp_shapes.proofs.CornerRows.{nodes-rows}
use Rattle.sp_partition.specs.Held.{IsHeld}
use Rattle.sp_nodes.specs.declared.node.Node.{Node}
use Rattle.sp_nodes.specs.Nodes.{pair, IsPlace}
use Rattle.sp_nodes.specs.Rows.{row_nodes}

-- `found` is `old` with the nodes of the row before this column.
pub record Pushed (old found : List Node) (row column : ℕ) : Type 0 where
  pub nodes : map pair found ≡ map pair old ++ row_nodes row (column - 1)
  pub len : length found ≡ length old + (column - 1)
  pub places : All IsPlace old → All IsPlace found

-- Before the first column nothing is pushed.
pub pushed_none : (old : List Node) (row : ℕ) → Pushed old old row 1
pushed_none old row = record { nodes = sym (append-nil (map pair old)); len = omega arith; places = λ h. h }

-- One node more is pushed.
pub pushed_more : (old found more : List Node) (row column : ℕ) → IsPlace (record { row = row; column = column }) →
    more ≡ found ++ record { row = row; column = column } ∷ [] → Pushed old found row column →
    Pushed old more row (column + 1)
pushed_more old found more row column place pushed h = rw pushed (record {
  nodes = map-append pair found (node ∷ [])
      ∙ ap (λ xs. xs ++ (row, column) ∷ []) h.nodes
      ∙ append_assoc (map pair old) (row_nodes row (column - 1)) ((row, column) ∷ [])
      ∙ ap (λ xs. map pair old ++ xs)
      (sym (map-range_with_len_more (λ c. (row, c)) 1 (column - 1) column (omega arith)))
      ∙ ap (λ n. map pair old ++ row_nodes row n) (omega arith);
  len = omega (arith, length-append found (node ∷ []), h.len);
  places = λ all. All-push IsPlace found node (h.places all) place;
})
  where
    node : Node
    node = record { row = row; column = column }

-- `found` has the nodes of the rows before this one.
pub record Listed (parts : List ℕ) (found : List Node) (row : ℕ) : Type 0 where
  pub nodes : map pair found ≡ flat_map (λ r. row_nodes r (part parts r)) (range_with_len 1 (row - 1))
  pub len : length found ≡ sum (take (row - 1) parts)
  pub places : All IsPlace found

-- There is room for one row more.
pub listed_room : (parts : List ℕ) (found : List Node) (row : ℕ) → IsHeld parts → 1 ≤ row → row ≤ length parts →
    Listed parts found row → length found + part parts row ≤ 32
listed_room parts found row held least most h =
    omega (arith, h.len, sum_by_more_le (λ x. x) parts (row - 1) 0 (omega arith), held.small)

-- One row more is listed.
pub listed_row : (parts : List ℕ) (found more : List Node) (row n : ℕ) → 1 ≤ row → row ≤ length parts →
    n ≡ part parts row → map pair more ≡ map pair found ++ row_nodes row n → length more ≡ length found + n →
    (All IsPlace found → All IsPlace more) → Listed parts found row → Listed parts more (row + 1)
listed_row parts found more row n least most is filled len places h = record {
  nodes = filled
      ∙ ap₂ (λ xs k. xs ++ row_nodes row k) h.nodes is
      ∙ sym (flat_map-range_more (λ r. row_nodes r (part parts r)) 1 (row - 1) row (omega arith))
      ∙ ap (λ k. flat_map (λ r. row_nodes r (part parts r)) (range_with_len 1 k)) (omega arith);
  len = len
      ∙ ap₂ (λ k m. k + m) h.len is
      ∙ sym (sum_by_more (λ x. x) parts (row - 1) 0 (omega arith))
      ∙ ap (λ k. sum (take k parts)) (omega arith);
  places = places h.places;
}

-- After the last row all nodes are listed.
pub listed_all : (parts : List ℕ) (found : List Node) (row : ℕ) → row ≡ length parts + 1 → Listed parts found row →
    map pair found ≡ nodes parts
listed_all parts found row last h =
    h.nodes
    ∙ ap (λ k. flat_map (λ r. row_nodes r (part parts r)) (range_with_len 1 k)) (omega arith)
    ∙ sym (nodes-rows parts)
