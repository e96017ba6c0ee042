use Rattle.std.proofs.Common.{◌≡◌, ℕ, map, flat_map, filter, take}
use Rattle.sp_defs.specs.Partition.{regulars}
use Rattle.sp_cert.specs.Grammar.{block_heads}
use Rattle.sp_cert.specs.Drafts.{head_of}
use Rattle.sp_cert.proofs.Heading.{leads}
use Rattle.sp_cert.proofs.awaited.blocks_of.Given as goal

abbrev pub invariant-loop-place : goal.invariant-loop-place
invariant-loop-place l =
    (n : ℕ) → l.regulars ≡ regulars l.e n →
    map head_of l.heads.items ≡ flat_map (block_heads l.e n) (filter (leads l.e l.regulars) (take l.place l.regulars))
