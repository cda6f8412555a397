use Rattle.pb_play_reading.proofs.ShortTasks.{short_is_task}
use Rattle.pb_play_reading.proofs.task.read_task.Goals as goal

pub returns-in-Some : goal.returns-in-Some
returns-in-Some c = rw (c.in-Some.ensures.0, short_is_task c.args.path.now c.in-Some.short c.in-Some.ensures.1) c.read.ensures
