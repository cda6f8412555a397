-- What an attempt at an item comes to, where its task may be tried more than once: what the task says of the result is read first, and
-- then whether the item is tried again (Ansible's documentation, "Retrying a task until a condition is met").
use Rattle.std.specs.Prelude.{ℕ, pos, Bool, true, false, not, List, Option, Some, None, Result, Ok, Err, codes}
use Rattle.pb_value.specs.Datum.{Datum, int, dict, members_of, entries_of, put}
use Rattle.pb_expr_syntax.specs.Tree.{Tree}
use Rattle.pb_operators.specs.declared.fault.EvalFault.{EvalFault}
use Rattle.pb_outcome.specs.Gathered.{is_failed}
use Rattle.pb_outcome.specs.declared.gather.Ending.{Ending}
use Rattle.pb_outcome.specs.declared.gather.Ending.TheVariants.{Ran}
use Rattle.pb_outcome.specs.declared.gather.ItemResult.{ItemResult}
use Rattle.pb_conditions.specs.Conditions.{holds}
use Rattle.pb_conditions.specs.ResultConditions.{Sees, seen_as, failed_to, or_faulty, with_conditions}
use Rattle.pb_conditions.specs.declared.attempt.Back.{Back}
use Rattle.pb_conditions.specs.declared.attempt.Back.TheVariants.{Ends, Again}

-- a result with the number of its attempt
abbrev pub with_attempt : ℕ → Datum → Datum
with_attempt attempt (dict ms) = dict (members_of (put (codes "attempts") (int (pos attempt)) (entries_of ms)))
with_attempt attempt other = other

-- only a result of a program that ran has it
abbrev pub counted_by : Ending → ℕ → ItemResult → ItemResult
counted_by (Ran changed failed) attempt item = record { ending = item.ending; result = with_attempt attempt item.result }
counted_by ending attempt item = item

-- an item's result, with the number of the attempt that it came of
abbrev pub counted : ℕ → ItemResult → ItemResult
counted attempt item = counted_by item.ending attempt item

-- whether no further attempt is wanted: each of these conditions holds, and without any condition the result isn't failed
abbrev pub is_enough : Sees → Option (List ℕ) → Option (List Tree) → ItemResult → Result Bool EvalFault
is_enough sees register None item = Ok (not (is_failed item.ending))
is_enough sees register (Some until) item = holds (sees (seen_as register item.result)) until

-- the last attempt fails the item where a further one is wanted; where that can't be read, the item is faulty
abbrev pub by_until : Result Bool EvalFault → Bool → ItemResult → Back
by_until (Ok true) is_last item = Ends item
by_until (Ok false) true item = Ends (failed_to item true)
by_until (Ok false) false item = Again item
by_until (Err fault) is_last item = Ends (or_faulty (Err fault))

-- only where a program ran, and what the task says of its result could be read, may another attempt follow
abbrev pub came_by : Ending → Sees → Option (List ℕ) → Option (List Tree) → Bool → ItemResult → Back
came_by (Ran changed failed) sees register until is_last item = by_until (is_enough sees register until item) is_last item
came_by ending sees register until is_last item = Ends item

-- what an attempt comes to that had this result; where it is the last one, no other follows
abbrev pub came : Sees → Option (List ℕ) → Option (List Tree) → Bool → ItemResult → Back
came sees register until is_last item = came_by item.ending sees register until is_last item

-- the conditions see the number of the attempt, and `until` sees the result as `changed_when` and `failed_when` leave it
abbrev pub attempted : Sees → Option (List ℕ) → Option (List Tree) → Option (List Tree) → Option (List Tree) → ℕ → Bool → ItemResult → Back
attempted sees register changed_when failed_when until attempt is_last item =
    came sees register until is_last (with_conditions sees register changed_when failed_when (counted attempt item))
