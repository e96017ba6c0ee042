use Rattle.std.proofs.Common.{◌≡◌, map, ◌∙◌, ap, subst, IfOk}
use Rattle.sp_cert.specs.Grammar.{ColumnHead}
use Rattle.sp_cert.specs.Drafts.{head_of}
use Rattle.sp_cert.proofs.Heading.{heads_one, heads_two}
use Rattle.sp_cert.proofs.awaited.heads_of.Goals as goal

pub returns-then-version-eq1 : goal.returns-then-version-eq1
returns-then-version-eq1 c = λ n are.
    subst (λ hs. IfOk c.columns_of.result (λ heads. map head_of heads.items ≡ hs))
    (ap (map ColumnHead) are ∙ heads_one c.args.version c.args.e n c.if-version-eq1.true) c.columns_of.ensures

pub returns-else-version-eq1 : goal.returns-else-version-eq1
returns-else-version-eq1 c = λ n are.
    subst (λ hs. IfOk c.blocks_of.result (λ heads. map head_of heads.items ≡ hs))
    (heads_two c.args.version c.args.e n c.if-version-eq1.false) (c.blocks_of.ensures n are)
