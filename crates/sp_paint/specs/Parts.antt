-- What is written of a partition, part by part.
use Rattle.std.specs.Prelude.{ℕ, cond, nat_eq, List, [], ◌++◌, count_by, take, slice_index, codes}
use Rattle.std.specs.List.{list_any}
use Rattle.sp_paint.specs.declared.notation.Notation.{Notation}
use Rattle.sp_paint.specs.Notation.{part_text}

-- The part at this place behind its comma, and nothing where it occurs before.
abbrev pub new_part_text : Notation → List ℕ → ℕ → List ℕ
new_part_text notation parts i =
    let part = slice_index parts i in
    cond (list_any (λ q. nat_eq q part) (take i parts)) []
    (cond (nat_eq i 0) [] (codes ",") ++ part_text notation part (count_by (nat_eq part) parts))
