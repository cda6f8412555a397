use Rattle.pb_cli.proofs.Running.{pool_handed, cut_in_pool}
use Rattle.pb_cli.proofs.workers.run_commanded.Goals as goal

pub returns-in-Ok-clause-run : goal.returns-in-Ok-clause-run
returns-in-Ok-clause-run g c =
    pool_handed _ _ _ _ _ _ _ _ _ c.from_vec.ensures c.runs_keep_laws.ensures c.lines_stand_behind_events.ensures c.larger_pools_allow_as_much.ensures c.requires.2 c.in-Ok.ensures.run c.in-Ok.ensures.recapped.1

pub returns-in-Err-clause-cut : goal.returns-in-Err-clause-cut
returns-in-Err-clause-cut g c =
    cut_in_pool _ _ _ _ _ _ _ _ c.from_vec-in-Err.ensures c.runs_keep_laws.ensures c.lines_stand_behind_events.ensures c.larger_pools_allow_as_much.ensures c.requires.2 c.in-Err.ensures.begun c.in-Err.ensures.cut
