use Rattle.std.proofs.Common.{◌≡◌, ◌++◌, take, length, flat_map}
use Rattle.sp_defs.specs.Text.{next_entry_text}
use Rattle.sp_fock.proofs.text.put_rest.Given as goal

abbrev pub invariant-loop-at : goal.invariant-loop-at
invariant-loop-at l =
    (goal.iterator-loop-at).can_next l.at-iterator
    × (goal.iterator-loop-at).is_finite l.at-iterator
    × (l.out.items ++ flat_map next_entry_text l.at-iterator ≡ l.fn.out.items ++ flat_map next_entry_text l.fn.terms)
    × (take (length l.fn.out.items) l.out.items ≡ l.fn.out.items)
