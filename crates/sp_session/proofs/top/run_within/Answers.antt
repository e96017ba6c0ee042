use Rattle.sp_session.proofs.Runs.{served_obeys, summed_obeys}
use Rattle.sp_session.proofs.top.run_within.Goals as goal

pub returns-in-None-clause-obeys : goal.returns-in-None-clause-obeys
returns-in-None-clause-obeys g c =
    served_obeys _ _ _ _ _ _ _ _ _ c.args.said.limit c.args.said.generate c.in-None.is _ _ c.new-session.ensures.rules
    c.new-session.ensures.state c.serve.new.source c.serve.new.sink c.serve.result c.serve.ensures.told
    c.serve.ensures.read_faults c.serve.ensures.write_faults c.serve.ensures.complete

pub returns-clause-obeys : goal.returns-clause-obeys
returns-clause-obeys g c =
    summed_obeys _ _ _ _ _ _ _ _ _ c.args.said.limit c.in-Some.start c.args.said.generate c.in-Some.is _ _
    c.new-session.ensures.rules c.new-session.ensures.state c.write_summary.new.sink c.write_summary.result (record {
      ends = c.write_summary.ensures.ends;
      told = c.write_summary.ensures.told;
      write_faults = c.write_summary.ensures.write_faults;
      complete = c.write_summary.ensures.complete;
    })
