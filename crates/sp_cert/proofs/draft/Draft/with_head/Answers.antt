use Rattle.std.proofs.Common.{◌∙◌, sym, arith}
use Rattle.sp_cert.proofs.Advancing.{other_head, head_regular, head_taken, head_held}
use Rattle.sp_cert.proofs.draft.Draft.with_head.Goals as goal

pub returns-then-not-branch-clause-answer : goal.returns-then-not-branch-clause-answer
returns-then-not-branch-clause-answer c =
    other_head c.args.self c.index.result.now c.args.text.now (omega (
      arith,
      c.requires.passed,
      c.len.ensures,
      c.if-self-len.false,
    )) c.index.ensures
    (sym c.in_ok-is_head.ensures ∙ c.if-not-branch.true)

pub begun_by-begun-requires-clause-regular : goal.begun_by-begun-requires-clause-regular
begun_by-begun-requires-clause-regular c = head_regular c.args.self c.index.result.now c.requires (omega (
  arith,
  c.requires.passed,
  c.len.ensures,
  c.if-self-len.false,
)) c.index.ensures

pub returns-clause-answer : goal.returns-clause-answer
returns-clause-answer c =
    head_taken c.args.self c.index.result.now c.args.text.now c.in_ok-columns.columns c.begun_by-begun.result (omega (
      arith,
      c.requires.passed,
      c.len.ensures,
      c.if-self-len.false,
    )) c.index.ensures
    (sym c.in_ok-is_head.ensures ∙ c.if-not-branch.false) c.in_ok-columns.ensures c.begun_by-begun.ensures.column

pub returns-clause-draft : goal.returns-clause-draft
returns-clause-draft c =
    head_held c.args.self c.index.result.now c.in_ok-columns.columns c.begun_by-begun.result c.requires (omega (
      arith,
      c.requires.passed,
      c.len.ensures,
      c.if-self-len.false,
    )) c.index.ensures
    c.in_ok-columns.ensures c.begun_by-begun.ensures.column c.begun_by-begun.ensures.begun
