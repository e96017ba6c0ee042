use Rattle.std.proofs.Common.{◌≡◌, ℕ, ◌++◌, [], map, take, get_or}
use Rattle.sp_cert.specs.Counts.{AreContents}
use Rattle.sp_cert.specs.Drafts.{head_of, heads_in}
use Rattle.sp_cert.proofs.awaited.push_block.Given as goal

abbrev pub invariant-loop-place : goal.invariant-loop-place
invariant-loop-place l =
    (e : ℕ) → AreContents e l.regulars l.contents →
    map head_of l.heads.items
    ≡ map head_of l.fn.heads.items ++ heads_in e (take l.place l.regulars) (get_or l.regulars l.leader [])
