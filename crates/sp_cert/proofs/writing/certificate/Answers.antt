use Rattle.std.proofs.Common.{◌∙◌, ◌++◌, ap, subst, codes, flat_map}
use Rattle.sp_core.specs.declared.piece.Key.{Key}
use Rattle.sp_llt.specs.Place.{IsKey}
use Rattle.sp_cert.specs.Order.{leaders}
use Rattle.sp_cert.specs.Texts.{certificate_text, number_line, block_text, ended}
use Rattle.sp_cert.proofs.RowColumns.{accepted_whole}
use Rattle.sp_cert.proofs.Written.{five, all_rows}
use Rattle.sp_cert.proofs.WrittenLines.{written_lines}
use Rattle.sp_cert.proofs.writing.certificate.Goals as goal

pub returns-clause-text : goal.returns-clause-text
unfolding certificate_text
returns-clause-text c =
    let key = c.args.ctx.now in
    let blocks = flat_map (block_text key.e key.degree) (leaders key.e key.degree) in
    let told = c.key-key.ensures.value in
    c.in_ok-extend_from_slice.ensures.items
    ∙ ap (λ t. t ++ ended (codes "end"))
    (c.in_ok-put_blocks.ensures
    ∙ ap (λ t. t ++ blocks)
    (c.in_ok-put_number_line-3.ensures
    ∙ ap (λ t. t ++ number_line (codes "degree") c.key-key.result.degree)
    (c.in_ok-put_number_line-2.ensures
    ∙ ap (λ t. t ++ number_line (codes "e") c.key-key.result.e)
    (c.in_ok-put_number_line.ensures
    ∙ ap (λ t. t ++ number_line (codes "certificate") 2) c.new-text.ensures.items))))
    ∙ ap (λ (k : Key). (((number_line (codes "certificate") 2 ++ number_line (codes "e") k.e)
    ++ number_line (codes "degree") k.degree) ++ blocks) ++ ended (codes "end")) told
    ∙ five (number_line (codes "certificate") 2) (number_line (codes "e") key.e)
    (number_line (codes "degree") key.degree) blocks (ended (codes "end"))

pub returns-clause-written : goal.returns-clause-written
returns-clause-written c =
    let held = subst IsKey c.key-key.ensures.value c.key-key.ensures.held in
    let all = all_rows c.args.ctx.now c.args.rows.now c.requires.filled c.requires.whole in
    record { written = written_lines c.args.ctx.now held all; accepted = accepted_whole c.args.ctx.now held all }
