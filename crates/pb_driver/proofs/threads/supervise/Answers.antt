use Rattle.std.proofs.Common.{◌∙◌}
use Rattle.pb_driver.proofs.Working.{fresh_of, main_stays}
use Rattle.pb_driver.proofs.threads.supervise.Goals as goal

pub start_all-started-requires-clause-workers : goal.start_all-started-requires-clause-workers
start_all-started-requires-clause-workers g c κs within = fresh_of c.args.hall.now.pool.now c.args.staff.workers.items c.requires.staff.2.0

pub returns-clause-left : goal.returns-clause-left
returns-clause-left g c = (
  c.drive_if-ended.ensures.seat
      ∙ main_stays c.args.hall.now.pool.now c.args.staff.main c.start_all-started.new.main c.start_all-started.result c.requires.staff.0 c.start_all-started.ensures.all c.start_all-started.ensures.refused,
  c.join_all.ensures.back c.args.staff.workers.items c.start_all-started.ensures.split,
  c.drive_if-ended.ensures.shut,
  c.drive_if-ended.ensures.within,
)
