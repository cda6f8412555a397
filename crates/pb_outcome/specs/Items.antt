-- The items of a task that a host runs, and what they come to. See Ansible's documentation, "Loops" and "Return Values".
use Rattle.std.specs.Prelude.{ℕ, ◌+◌, Bool, true, false, ◌||◌, List, [], ◌∷◌, Option, Some, None, is_some, is_none, position, codes, if◌then◌else◌}
use Rattle.std.specs.List.{list_any, list_all}
use Rattle.pb_value.specs.Datum.{Datum, null, boolean, text, list, dict, items_of, members_of, entries_of, put}
use Rattle.pb_outcome.specs.Gathered.{gathered, is_unreachable, is_skipped, is_failed, is_changed, some_unreachable}
use Rattle.pb_outcome.specs.declared.gather.ItemResult.{ItemResult}
use Rattle.pb_outcome.specs.declared.gather.TaskResult.{TaskResult}
use Rattle.pb_outcome.specs.declared.item.Item.{Item}
use Rattle.pb_outcome.specs.declared.item.Planned.{Planned}
use Rattle.pb_outcome.specs.declared.item.Planned.TheVariants.{Decided, Sends}

-- an item that is sent as a job has no result yet
abbrev pub is_waiting : Planned → Bool
is_waiting (Decided result) = false
is_waiting (Sends call) = true

abbrev pub waits : Item → Bool
waits item = is_waiting item.step

-- the number of the next item to be sent
abbrev pub next_item : List Item → Option ℕ
next_item items = position waits items

-- the results that are there, in order
abbrev pub result_then : Planned → List ItemResult → List ItemResult
result_then (Decided result) rest = result ∷ rest
result_then (Sends call) rest = rest

abbrev pub ended : List Item → List ItemResult
ended [] = []
ended (item ∷ items) = result_then item.step (ended items)

-- a task is over once nothing is left to be sent, or an item found its host out of reach
abbrev pub is_over : List Item → Bool
is_over items = some_unreachable (ended items) || is_none (next_item items)

-- the results of the items of a loop, from the one with number n on, with their numbers: each has a line
abbrev pub numbered_then : ℕ → Option Datum → Planned → List (ℕ × ItemResult) → List (ℕ × ItemResult)
numbered_then n None step rest = rest
numbered_then n (Some value) (Decided result) rest = (n, result) ∷ rest
numbered_then n (Some value) (Sends call) rest = rest

abbrev pub numbered : ℕ → List Item → List (ℕ × ItemResult)
numbered n [] = []
numbered n (item ∷ items) = numbered_then n item.value item.step (numbered (n + 1) items)

-- the same of one item alone
abbrev pub numbered_at : ℕ → Option Item → List (ℕ × ItemResult)
numbered_at n None = []
numbered_at n (Some item) = numbered_then n item.value item.step []

-- how a task ended: a function of its items
abbrev pub task_of : Bool → List Item → TaskResult
task_of ignore_errors items = gathered ignore_errors (ended items)

-- the result of an item that is shown
abbrev pub shown_then : Planned → Datum
shown_then (Decided result) = result.result
shown_then (Sends call) = null

-- the result of the item that found its host out of reach
abbrev pub lost_in : List ItemResult → Datum
lost_in [] = null
lost_in (result ∷ results) = if is_unreachable result.ending then result.result else lost_in results

-- a loop over an empty list is left out
abbrev pub no_items_result : Datum
no_items_result =
    dict
    (members_of
    ((codes "changed", boolean false) ∷ (codes "failed", boolean false) ∷ (codes "results", list (items_of [])) ∷ (codes "skipped", boolean true)
    ∷ (codes "skipped_reason", text (codes "No items in the list")) ∷ []))

-- an item's result in the list of a loop's: with the loop variable's name as a further key
abbrev pub under_variable : List ℕ → Option Datum → Datum → Datum
under_variable variable (Some value) (dict ms) = dict (members_of (put variable value (entries_of ms)))
under_variable variable value result = result

-- the results that are there as a loop's result lists them, in order, with the name of the loop variable
abbrev pub member_then : List ℕ → Item → Planned → List Datum → List Datum
member_then variable item (Decided result) rest = under_variable variable item.value result.result ∷ rest
member_then variable item (Sends call) rest = rest

abbrev pub members_in : List ℕ → List Item → List Datum
members_in variable [] = []
members_in variable (item ∷ items) = member_then variable item item.step (members_in variable items)

-- each item is skipped; so it is where there is none
abbrev pub all_skipped : List ItemResult → Bool
all_skipped results = list_all (λ (result : ItemResult). is_skipped result.ending) results

abbrev pub some_failed : List ItemResult → Bool
some_failed results = list_any (λ (result : ItemResult). is_failed result.ending) results

abbrev pub some_changed : List ItemResult → Bool
some_changed results = list_any (λ (result : ItemResult). is_changed result.ending) results

-- what the result of a loop says: that all items are skipped, else that some failed, else that all are done
abbrev pub loop_message : List ItemResult → List ℕ
loop_message results =
    if all_skipped results then codes "All items skipped"
    else (if some_failed results then codes "One or more items failed" else codes "All items completed")

-- a loop's result has the key `skipped` only where all items are
abbrev pub skipped_key : List ItemResult → List (List ℕ × Datum)
skipped_key results = if all_skipped results then (codes "skipped", boolean true) ∷ [] else []

-- the result of a loop, from the results of its items and from these as it lists them
abbrev pub loop_result : List ItemResult → List Datum → Datum
loop_result results shown =
    dict
    (members_of
    ((codes "changed", boolean (some_changed results)) ∷ (codes "failed", boolean (some_failed results)) ∷ (codes "msg", text (loop_message results))
    ∷ (codes "results", list (items_of shown)) ∷ skipped_key results))

-- the result of a task without a loop is that of its item, and so is that of a loop which can't be read
abbrev pub result_from : List ℕ → Item → List Item → Datum
result_from variable item items =
    if is_some item.value then loop_result (ended (item ∷ items)) (members_in variable (item ∷ items)) else shown_then item.step

-- the result of a task none of whose items found its host out of reach, with the name of its loop variable
abbrev pub plain_result : List ℕ → List Item → Datum
plain_result variable [] = no_items_result
plain_result variable (item ∷ items) = result_from variable item items

-- the result of the one item of a task without a loop: it is what the task shows and registers
abbrev pub only_then : Option Datum → Planned → Option Datum
only_then None (Decided result) = Some result.result
only_then None (Sends call) = None
only_then (Some value) step = None

-- the same of all items: none where they are none or several
abbrev pub only_result : List Item → Option Datum
only_result [] = None
only_result (item ∷ []) = only_then item.value item.step
only_result (item ∷ another ∷ items) = None

-- what a task shows and registers, with the name of its loop variable: where an item found its host out of reach, that item's
-- result alone
abbrev pub result_of : List ℕ → List Item → Datum
result_of variable items = if some_unreachable (ended items) then lost_in (ended items) else plain_result variable items
