-- The result of a task from the results of its items: it is unreachable if an item is, else failed if some item is failed or faulty, else
-- skipped if all items are; it is changed if some item is. Its failure is ignored where it says so and no item is faulty.
-- See Ansible's documentation, "Error handling in playbooks" and "Loops".
use Rattle.std.specs.Prelude.{Bool, true, false, not, ◌&&◌, List}
use Rattle.std.specs.List.{list_any, list_all}
use Rattle.pb_outcome.specs.declared.gather.Ending.{Ending}
use Rattle.pb_outcome.specs.declared.gather.Ending.TheVariants.{Skipped, Faulty, Unreachable, NotStarted, Ran}
use Rattle.pb_outcome.specs.declared.gather.ItemResult.{ItemResult}
use Rattle.pb_outcome.specs.declared.gather.TaskResult.{TaskResult}

abbrev pub is_unreachable : Ending → Bool
is_unreachable Unreachable = true
is_unreachable ending = false

-- a faulty item, and one without an answer, count as failed
abbrev pub is_failed : Ending → Bool
is_failed Faulty = true
is_failed NotStarted = true
is_failed (Ran changed failed) = failed
is_failed ending = false

abbrev pub is_faulty : Ending → Bool
is_faulty Faulty = true
is_faulty ending = false

abbrev pub is_skipped : Ending → Bool
is_skipped Skipped = true
is_skipped ending = false

-- only an item whose module ran may have changed something
abbrev pub is_changed : Ending → Bool
is_changed (Ran changed failed) = changed
is_changed ending = false

abbrev pub some_unreachable : List ItemResult → Bool
some_unreachable items = list_any (λ (item : ItemResult). is_unreachable item.ending) items

-- some item is failed or faulty, or has no answer, and none found its host out of reach
abbrev pub task_failed : List ItemResult → Bool
task_failed items = not (some_unreachable items) && list_any (λ (item : ItemResult). is_failed item.ending) items

-- the result of a task that ignores its errors or not, from those of its items
abbrev pub gathered : Bool → List ItemResult → TaskResult
gathered ignore_errors items =
    record {
      unreachable = some_unreachable items;
      failed = task_failed items;
      skipped = not (some_unreachable items) && (not (task_failed items) && list_all (λ (item : ItemResult). is_skipped item.ending) items);
      changed = list_any (λ (item : ItemResult). is_changed item.ending) items;
      ignored = task_failed items && (ignore_errors && not (list_any (λ (item : ItemResult). is_faulty item.ending) items));
    }
