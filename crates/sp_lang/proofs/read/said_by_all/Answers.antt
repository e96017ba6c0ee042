use Rattle.std.proofs.Common.{◌≡◌, ◌∙◌, ap}
use Rattle.sp_lang.specs.Commands.{command_of}
use Rattle.sp_lang.specs.Reading.{or_fault}
use Rattle.sp_lang.specs.Values.{given_command, words_of}
use Rattle.sp_lang.specs.declared.fault.LineFault.TheVariants.{Memory}
use Rattle.sp_lang.proofs.Answered.{tested, other_fault, answered, wanted}
use Rattle.sp_lang.proofs.read.said_by_all.Goals as goal

pub returns-in-Some-clause-reads : goal.returns-in-Some-clause-reads
returns-in-Some-clause-reads c other =
    ap (or_fault (command_of c.args.verb (words_of c.args.given.now)))
    (c.in-Some.ensures ∙ tested c.args.convention c.args.verb c.args.given.now c.requires.count c.requires.read)

pub returns-in-Some-clause-memory : goal.returns-in-Some-clause-memory
returns-in-Some-clause-memory c is =
    let same : c.in-Some.fault ≡ Memory = cc in
    absurd (other_fault c.args.convention c.args.given.now c.in-Some.fault c.in-Some.ensures same)

pub returns-in-Ok-clause-reads : goal.returns-in-Ok-clause-reads
returns-in-Ok-clause-reads c other =
    answered c.args.convention c.args.verb (words_of c.args.given.now) c.in-Ok.command
    (c.in_default.ensures ∙ tested c.args.convention c.args.verb c.args.given.now c.requires.count c.requires.read)
    (c.in-Ok.ensures.exact ∙ ap (given_command c.args.verb) c.requires.read)

pub returns-in-Err-clause-memory : goal.returns-in-Err-clause-memory
returns-in-Err-clause-memory c is =
    wanted c.args.convention c.args.verb (words_of c.args.given.now)
    (c.in_default.ensures ∙ tested c.args.convention c.args.verb c.args.given.now c.requires.count c.requires.read)
    c.in-Err.ensures.memory
