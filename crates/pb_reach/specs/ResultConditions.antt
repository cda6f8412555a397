-- What a task says itself of a result: by its `changed_when` whether it changed something, by its `failed_when` whether it failed, and by its `until`
-- whether it is tried again
-- (Ansible's documentation, "Error handling in playbooks" and "Retrying a task until a condition is met").
use Rattle.std.specs.Prelude.{◌≡◌, ℕ, Bool, ◌||◌, List, Option, Some, None, is_some}
use Rattle.pb_value.specs.Datum.{Datum}
use Rattle.pb_expr_syntax.specs.Tree.{Tree}
use Rattle.pb_items.specs.FromConditions.{Ends}
use Rattle.pb_outcome.specs.declared.gather.ItemResult.{ItemResult}
use Rattle.pb_play.specs.declared.retrying.Retrying.{Retrying}
use Rattle.pb_play.specs.declared.task.Task.{Task}
use Rattle.pb_items.specs.Items.{StartOf, attempted_item}

-- it says something: a task that is tried again also numbers its results
abbrev pub has_result_conditions : Task → Bool
has_result_conditions task = is_some task.changed_when || is_some task.failed_when || is_some task.retrying

-- the conditions by which it says whether a further attempt is wanted
abbrev pub until_of : Option Retrying → Option (List Tree)
until_of None = None
until_of (Some retrying) = retrying.until

-- each attempt ends its item, with the result as it came back, whatever the conditions would see
abbrev pub LeavesResults : Task → Type 0
LeavesResults task = (start : StartOf) (value : Option Datum) (attempt : ℕ) (result : ItemResult) → start.task ≡ task → attempted_item start value attempt result ≡ Ends result
