use Rattle.std.proofs.Common.{◌≡◌, ◌++◌, flat_map}
use Rattle.std.specs.List.{range_with_len}
use Rattle.sp_abacus.specs.Text.{place_line}
use Rattle.sp_abacus.proofs.text.put_places.Given as goal

abbrev pub invariant-loop-place : goal.invariant-loop-place
invariant-loop-place l =
    l.out.items ≡ l.fn.out.items ++ flat_map (place_line l.e l.numbers.items) (range_with_len 0 l.place)
