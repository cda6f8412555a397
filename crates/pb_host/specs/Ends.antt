-- How a task ends on a host: what that is for the host's walk, and how it counts in the recap
-- (Ansible's documentation, "Error handling in playbooks", "Blocks" and "Return Values").
use Rattle.std.specs.Prelude.{ℕ, ◌+◌, Bool, true, false, ◌&&◌, ◌||◌, not, List, Option, Some, None, is_none, if◌then◌else◌, [], ◌≤◌}
use Rattle.pb_outcome.specs.declared.gather.TaskResult.{TaskResult}
use Rattle.pb_play.specs.declared.modules.Meta.{Meta}
use Rattle.pb_play.specs.declared.modules.Meta.TheVariants.{Noop, EndHost}
use Rattle.pb_tree.specs.Answer.{AnswerOf}
use Rattle.pb_tree.specs.declared.answer.Kind.{Kind}
use Rattle.pb_tree.specs.declared.answer.Kind.TheVariants as kinds
use Rattle.pb_task_vars.specs.Ends.{has_run}
use Rattle.pb_host.specs.declared.step_result.TaskEnd.{TaskEnd}
use Rattle.pb_host.specs.declared.host.Counts.{Counts}

-- a failure that isn't ignored
abbrev pub fails : TaskResult → Bool
fails result = result.failed && not result.ignored

-- ---- the walk
-- `end_host` ends the play for its host where it ran: where it was neither left out nor failed
abbrev pub ends_play : Option Meta → Bool
ends_play None = false
ends_play (Some Noop) = false
ends_play (Some EndHost) = true

-- what a host answers that can be reached, by whether its task fails, and whether it ends the play for it: a failure counts first
abbrev pub kind_if : Bool → Bool → Kind
kind_if true ends = kinds.Bad
kind_if false true = kinds.Ended
kind_if false false = kinds.Good

-- a host that can't be reached is gone, and a failure that isn't ignored is bad
abbrev pub kind_of : TaskEnd → Kind
kind_of task = if task.result.unreachable then kinds.Gone else kind_if (fails task.result) (ends_play task.meta && has_run task.result)

-- a task that changed something notifies handlers, where it neither failed nor lost its host: a failure that is ignored is one
abbrev pub does_notify : TaskResult → Bool
does_notify result = result.changed && not result.failed && not result.unreachable

-- a failure that isn't ignored breaks its host where no block round its place rescues it
abbrev pub breaks : Bool → Kind → Bool
breaks is_caught kinds.Bad = not is_caught
breaks is_caught kinds.Good = false
breaks is_caught kinds.Halted = false
breaks is_caught kinds.Gone = false
breaks is_caught kinds.Ended = false

-- an answer ends a task that runs once, unless its host was out of reach or halted: a host that is halted finishes nothing
abbrev pub ends_run_once : Kind → Bool
ends_run_once kinds.Good = true
ends_run_once kinds.Bad = true
ends_run_once kinds.Halted = false
ends_run_once kinds.Gone = false
ends_run_once kinds.Ended = true

-- an answer is over for all where failures are fatal: a host that can't be reached, and a failure that isn't ignored where no block rescues it
abbrev pub is_fatal : Bool → Kind → Bool
is_fatal is_caught kinds.Good = false
is_fatal is_caught kinds.Bad = not is_caught
is_fatal is_caught kinds.Halted = false
is_fatal is_caught kinds.Gone = true
is_fatal is_caught kinds.Ended = false

-- what the host answers, where the task notified these handlers
abbrev pub answer_of : TaskEnd → List ℕ → AnswerOf
answer_of task notified = record { kind = kind_of task; notified = notified }

-- an answer that notifies no handler
abbrev pub plain_answer : Kind → AnswerOf
plain_answer kind = record { kind = kind; notified = [] }

-- ---- the counts
-- one more where it counts
abbrev pub more : Bool → ℕ → ℕ
more counts n = if counts then n + 1 else n

-- a task that is neither skipped nor unreachable, nor failed unless that is ignored
abbrev pub is_okay : TaskResult → Bool
is_okay result = not result.unreachable && not result.skipped && not (fails result)

-- a failure that isn't ignored is rescued where its place is caught
abbrev pub counted_result : Bool → TaskResult → Counts → Counts
counted_result is_caught result counts =
    record {
      ok = more (is_okay result) counts.ok;
      changed = more (is_okay result && result.changed) counts.changed;
      unreachable = more result.unreachable counts.unreachable;
      failed = more (fails result && not is_caught) counts.failed;
      skipped = more result.skipped counts.skipped;
      rescued = more (fails result && is_caught) counts.rescued;
      ignored = more (result.failed && result.ignored) counts.ignored;
    }

-- a task of `meta` counts only where it failed, which it does where its conditions can't be read
abbrev pub is_counted : TaskEnd → Bool
is_counted task = is_none task.meta || task.result.failed

-- the counts of a host, once a task ended so on it
abbrev pub counted : TaskEnd → Counts → Counts
counted task counts = if is_counted task then counted_result task.is_caught task.result counts else counts

-- each count of a host is at most n
pub record IsAtMost (counts : Counts) (n : ℕ) : Type 0 where
  pub ok : counts.ok ≤ n
  pub changed : counts.changed ≤ n
  pub unreachable : counts.unreachable ≤ n
  pub failed : counts.failed ≤ n
  pub skipped : counts.skipped ≤ n
  pub rescued : counts.rescued ≤ n
  pub ignored : counts.ignored ≤ n
