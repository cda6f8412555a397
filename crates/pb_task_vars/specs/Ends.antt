-- Whether a task did what it was to do: it neither failed nor was left out.
use Rattle.std.specs.Prelude.{Bool, ◌&&◌, not}
use Rattle.pb_outcome.specs.declared.gather.TaskResult.{TaskResult}

abbrev pub has_run : TaskResult → Bool
has_run result = not result.failed && not result.skipped
