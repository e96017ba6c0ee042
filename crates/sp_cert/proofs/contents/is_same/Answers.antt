use Rattle.std.proofs.Common.{nat_eq, ◌∙◌, ap₂}
use Rattle.std.specs.Cmp.Lexicographic.{pointwise}
use Rattle.sp_cert.proofs.Counts.{same_at}
use Rattle.sp_cert.proofs.contents.is_same.Goals as goal

pub returns : goal.returns
returns c = λ e list are.
    c.eq.ensures
    ∙ ap₂ (pointwise nat_eq) c.as_slice.ensures.value c.as_slice-2.ensures.value
    ∙ same_at e list c.args.contents.now c.args.i c.args.j c.index-contents-i.result c.index-contents-j.result are
    c.requires.first c.index-contents-i.is c.requires.second c.index-contents-j.is
