use Rattle.sp_session.proofs.Runs.{refused_run, said_run, unread_run}
use Rattle.sp_session.proofs.top.run.Goals as goal

pub returns-in-Ok : goal.returns-in-Ok
returns-in-Ok g c =
    said_run _ _ _ _ _ _ _ _ _ _ _ _ _ c.run_many.result c.in-Ok.said c.in-Ok.ensures.said c.in-Ok.ensures.only
    c.run_many.ensures.used c.run_many.ensures.obeys

pub returns-in-Err-Usage : goal.returns-in-Err-Usage
returns-in-Err-Usage g c =
    refused_run _ _ _ _ _ _ _ _ _ _ _
    (c.in-Err-Usage.ensures.usage (let fault = c.in-Err-Usage.field-0-is in cc))

pub returns : goal.returns
returns g c = unread_run _ _ _ _ _ _ _ _ _ _ _
