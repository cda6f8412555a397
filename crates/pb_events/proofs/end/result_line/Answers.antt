use Rattle.pb_events.proofs.end.result_line.Goals as goal

pub returns-then-task : goal.returns-then-task
returns-then-task c = rw c.if-task.true c.host_end.ensures

pub returns-then-task-3 : goal.returns-then-task-3
returns-then-task-3 c = rw (c.if-task.false, c.if-task-2.false, c.if-task-3.true) c.host_end-then-task-3.ensures

pub returns-else-task-3 : goal.returns-else-task-3
returns-else-task-3 c = rw (c.if-task.false, c.if-task-2.false, c.if-task-3.false) c.host_end-else-task-3.ensures
