-- The plain way to a restriction: down the signature of a partition, each addable node brings what the vector has with
-- that node more.
use Rattle.std.specs.Prelude.{◌≡◌, ℕ, ◌+◌, true, List, [], ◌∷◌, map, filter, nat_eq, ℤ, pos, ◌+ℤ◌, ◌-ℤ◌}
use Rattle.sp_defs.specs.Partition.{part}
use Rattle.sp_defs.specs.Node.{residue, is_addable, removable}
use Rattle.sp_defs.specs.Laurent.{Laurent, power, plus, times, size}
use Rattle.sp_defs.specs.Power.{Vector}
use Rattle.sp_defs.specs.Signature.{Addable, Removable, Mark, add_node, remove_node}

-- `difference` counts the removable nodes of these marks minus the addable ones. At an addable node it goes up by 1, so
-- that it counts those below, and is the exponent.
unfoldable pub taken_through : Vector → List ℕ → List Mark → ℤ → Laurent
taken_through w parts [] difference = []
taken_through w parts ((Addable, x) ∷ marks) difference =
    plus (times (power (difference +ℤ pos 1)) (w (add_node parts x)))
    (taken_through w parts marks (difference +ℤ pos 1))
taken_through w parts ((Removable, x) ∷ marks) difference = taken_through w parts marks (difference -ℤ pos 1)

-- What a mark brings.
abbrev pub share_at : Vector → List ℕ → Mark → Laurent
share_at w parts (Addable, x) = w (add_node parts x)
share_at w parts (Removable, x) = []

-- The addable node of a mark can be added at the end of its row.
abbrev pub CanAdd : List ℕ → Mark → Type 0
CanAdd parts (Addable, x) = is_addable parts (x.0, part parts x.0 + 1) ≡ true
CanAdd parts (Removable, x) = Unit {0}

-- The difference once a mark is passed.
abbrev pub passed : Mark → ℤ → ℤ
passed (Addable, x) difference = difference +ℤ pos 1
passed (Removable, x) difference = difference -ℤ pos 1

-- The sizes of what is brought.
unfoldable pub size_through : Vector → List ℕ → List Mark → ℕ
size_through w parts [] = 0
size_through w parts ((Addable, x) ∷ marks) = size (w (add_node parts x)) + size_through w parts marks
size_through w parts ((Removable, x) ∷ marks) = size_through w parts marks

-- The partitions with one node less, of residue i.
abbrev pub shrunken : ℕ → ℕ → List ℕ → List (List ℕ)
shrunken e i parts = map (remove_node parts) (filter (λ x. nat_eq (residue e x) i) (removable parts))
