use Rattle.std.proofs.Common.{◌≡◌, ◌++◌, codes, flat_map, take}
use Rattle.std.specs.Fmt.{decimal}
use Rattle.sp_cert.proofs.lines.put_block.Given as goal

abbrev pub invariant-loop-count : goal.invariant-loop-count
invariant-loop-count l =
    l.out.items
    ≡ (l.fn.out.items ++ codes "block") ++ flat_map (λ c. codes " " ++ decimal c) (take l.count-index l.count-items)
