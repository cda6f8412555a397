use Rattle.pb_cli.proofs.Running.{run_handed, cut_handed}
use Rattle.pb_cli.proofs.runs.run_given.Goals as goal

pub returns-in-Ok-clause-run : goal.returns-in-Ok-clause-run
returns-in-Ok-clause-run g c =
    run_handed _ _ _ _ _ _ _ _ _ _ c.from_vec.ensures c.runs_keep_laws.ensures c.lines_stand_behind_events.ensures c.in-Ok.ensures.run c.in-Ok.ensures.recapped.1

pub returns-in-Err-clause-cut : goal.returns-in-Err-clause-cut
returns-in-Err-clause-cut g c =
    cut_handed _ _ _ _ _ _ _ _ c.from_vec-in-Err.ensures c.runs_keep_laws.ensures c.lines_stand_behind_events.ensures c.in-Err.ensures.begun c.in-Err.ensures.cut
