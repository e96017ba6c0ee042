use Rattle.std.proofs.Common.{◌≡◌, ◌++◌, filter, flat_map, take}
use Rattle.sp_lr.specs.Results.{chains_in}
use Rattle.sp_lr_defs.specs.Listing.{ends_with}
use Rattle.sp_replies.specs.Products.{chain_line}
use Rattle.sp_replies.proofs.products.put_ending.Given as goal

abbrev pub invariant-loop-filling : goal.invariant-loop-filling
invariant-loop-filling l =
    l.out.items
    ≡ l.fn.out.items
    ++ flat_map chain_line (filter (ends_with l.nu) (take l.filling-index (chains_in l.found)))
