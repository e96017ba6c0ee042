use Rattle.std.proofs.Common.{nat_eq, ◌∙◌, ap₂}
use Rattle.std.specs.List.{range_with_len}
use Rattle.std.specs.Cmp.Lexicographic.{pointwise}
use Rattle.sp_defs.specs.Node.{content}
use Rattle.sp_cert.proofs.Written.{same_counts}
use Rattle.sp_cert.proofs.contents.is_same_content.Goals as goal

pub returns : goal.returns
returns c =
    c.eq.ensures
    ∙ ap₂ (pointwise nat_eq) (c.as_slice.ensures.value ∙ c.content.ensures)
    (c.as_slice-2.ensures.value ∙ c.content-2.ensures)
    ∙ same_counts (content c.args.e c.args.mu.now) (content c.args.e c.args.nu.now) (range_with_len 0 c.args.e)
