use Rattle.std.proofs.Common.{◌∙◌, ap, subst}
use Rattle.std.specs.Prelude.{Some}
use Rattle.sp_lang.specs.Given.{WantsMemory}
use Rattle.sp_lang.specs.Reading.{said_behind}
use Rattle.sp_lang.specs.Words.{words}
use Rattle.sp_lang.proofs.Answered.{Read, all_read, miscounted}
use Rattle.sp_lang.proofs.read.said_behind.Goals as goal
use Rattle.sp_lang.proofs.read.said_behind.Goals.{After-as_slice}

given_read : (c : After-as_slice) → Read c.args.verb (words c.args.rest.now) c.as_slice.result.now
given_read c =
    all_read c.args.verb (words c.args.rest.now) c.places.result.now c.in-Some.given.items c.as_slice.result.now
    c.places.ensures c.in-Some.ensures c.as_slice.ensures.value

pub said_by_all-requires-clause-count : goal.said_by_all-requires-clause-count
said_by_all-requires-clause-count c = (given_read c).count

pub said_by_all-requires-clause-read : goal.said_by_all-requires-clause-read
said_by_all-requires-clause-read c = (given_read c).own

pub returns-in-Some-clause-reads : goal.returns-in-Some-clause-reads
returns-in-Some-clause-reads c other =
    c.said_by_all.ensures.reads other
    ∙ ap (said_behind c.args.convention (Some c.args.verb))
    (all_read c.args.verb (words c.args.rest.now) c.places.result.now c.in-Some.given.items c.as_slice.result.now
    c.places.ensures c.in-Some.ensures c.as_slice.ensures.value).words

pub returns-in-Some-clause-memory : goal.returns-in-Some-clause-memory
returns-in-Some-clause-memory c is =
    subst (λ ws. WantsMemory (said_behind c.args.convention (Some c.args.verb) ws))
    (all_read c.args.verb (words c.args.rest.now) c.places.result.now c.in-Some.given.items c.as_slice.result.now
    c.places.ensures c.in-Some.ensures c.as_slice.ensures.value).words
    (c.said_by_all.ensures.memory is)

pub returns-in-None-clause-reads : goal.returns-in-None-clause-reads
returns-in-None-clause-reads c other =
    miscounted c.args.convention c.args.verb (words c.args.rest.now) c.places.result.now c.places.ensures
    c.in-None.ensures
