-- The task of a place, as the code keeps it.
use Rattle.std.specs.Arc.{arc_value}
use Rattle.pb_play.specs.declared.task.Task.{Task}
use Rattle.pb_places.specs.declared.held.Held.{Held}
use Rattle.pb_places.specs.declared.held.Held.TheVariants.{Own, Shared}

abbrev pub task_held : Held → Task
task_held (Own task) = task
task_held (Shared task) = arc_value task
