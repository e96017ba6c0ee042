use Rattle.std.proofs.Common.{◌∙◌, sym, subst}
use Rattle.sp_lang.specs.Given.{WantsMemory}
use Rattle.sp_lang.proofs.Answered.{long_line, bad_byte, plain_line, read_command}
use Rattle.sp_lang.proofs.read.read_command.Goals as goal

pub returns-then-line-gt-LINE_LIMIT-clause-reads : goal.returns-then-line-gt-LINE_LIMIT-clause-reads
returns-then-line-gt-LINE_LIMIT-clause-reads c other =
    long_line c.args.convention c.args.line.now c.if-line-gt-LINE_LIMIT.true

pub returns-then-not-are_allowed-clause-reads : goal.returns-then-not-are_allowed-clause-reads
returns-then-not-are_allowed-clause-reads c other =
    bad_byte c.args.convention c.args.line.now c.if-line-gt-LINE_LIMIT.false
    (sym c.are_allowed.ensures ∙ c.if-not-are_allowed.true)

pub returns-clause-reads : goal.returns-clause-reads
returns-clause-reads c other =
    c.said.ensures.reads other
    ∙ plain_line c.args.convention c.args.line.now c.if-line-gt-LINE_LIMIT.false
    (sym c.are_allowed.ensures ∙ c.if-not-are_allowed.false)

pub returns-clause-command : goal.returns-clause-command
returns-clause-command c =
    read_command c.args.convention c.args.line.now c.said.result c.said.ensures.reads

pub returns-clause-memory : goal.returns-clause-memory
returns-clause-memory c is =
    subst WantsMemory
    (plain_line c.args.convention c.args.line.now c.if-line-gt-LINE_LIMIT.false
    (sym c.are_allowed.ensures ∙ c.if-not-are_allowed.false))
    (c.said.ensures.memory is)
