-- Worked examples of items and what they come to: each is proved by computing both sides.
use Rattle.std.specs.Prelude.{◌≡◌, ℕ, pos, true, false, [], ◌∷◌, Some, None, codes, refl}
use Rattle.pb_value.specs.Datum.{boolean, int, text, list, dict, items_of, members_of}
use Rattle.pb_outcome.specs.Decided.{debug_result, fail_result, faulty_result}
use Rattle.pb_outcome.specs.Results.{lost}
use Rattle.pb_outcome.specs.Items.{next_item, is_over, numbered, task_of, no_items_result, result_of}
use Rattle.pb_outcome.specs.declared.gather.Ending.TheVariants as ending
use Rattle.pb_outcome.specs.declared.gather.ItemResult.{ItemResult}
use Rattle.pb_outcome.specs.declared.item.Item.{Item}
use Rattle.pb_outcome.specs.declared.item.Planned.{Planned}
use Rattle.pb_outcome.specs.declared.item.Planned.TheVariants.{Decided, Sends}
use Rattle.pb_outcome.specs.declared.job.Call.TheVariants.{Shell}

-- an item of a loop, and one of a task without a loop
abbrev at : ℕ → Planned → Item
at n step = record { value = Some (int (pos n)); delegate = None; tried = 0; step = step }

abbrev alone : Planned → Item
alone step = record { value = None; delegate = None; tried = 0; step = step }

abbrev well : Planned
well = Decided (debug_result (int (pos 7)))

abbrev failed : Planned
failed = Decided (fail_result (text (codes "no")))

abbrev gone : Planned
gone = Decided (lost (codes "no route"))

abbrev left_out : ItemResult
left_out = record { ending = ending.Skipped; result = dict (members_of ((codes "changed", boolean false) ∷ (codes "skipped", boolean true) ∷ [])) }

abbrev sent : Planned
sent = Sends (Shell (codes "true"))

-- items go out in order
first_waits : next_item (at 0 well ∷ at 1 sent ∷ at 2 sent ∷ []) ≡ Some 1
first_waits = refl

failed_goes_on : is_over (at 0 failed ∷ at 1 sent ∷ []) ≡ false
failed_goes_on = refl

unreachable_ends : is_over (at 0 gone ∷ at 1 sent ∷ []) ≡ true
unreachable_ends = refl

nothing_is_over : is_over [] ≡ true
nothing_is_over = refl

lines_of_loop : numbered 0 (at 5 well ∷ at 6 sent ∷ at 7 failed ∷ []) ≡ (0, debug_result (int (pos 7))) ∷ (2, fail_result (text (codes "no"))) ∷ []
lines_of_loop = refl

no_lines_alone : numbered 0 (alone well ∷ []) ≡ []
no_lines_alone = refl

-- an unreachable item hides that another failed
lost_before_failed : task_of false (at 0 failed ∷ at 1 gone ∷ at 2 sent ∷ []) ≡ record { unreachable = true; failed = false; skipped = false; changed = false; ignored = false }
lost_before_failed = refl

-- a faulty item is not ignored, whatever the others are
faulty_among_failed : task_of true (at 0 failed ∷ at 1 (Decided (faulty_result (codes "bad template"))) ∷ []) ≡ record { unreachable = false; failed = true; skipped = false; changed = false; ignored = false }
faulty_among_failed = refl

alone_as_it_is : result_of (codes "item") (alone well ∷ []) ≡ dict (members_of ((codes "changed", boolean false) ∷ (codes "failed", boolean false) ∷ (codes "msg", int (pos 7)) ∷ []))
alone_as_it_is = refl

empty_loop : result_of (codes "item") [] ≡ no_items_result
empty_loop = refl

-- the loop variable stands among the keys of each item, also in place of one of its own
with_variable :
    result_of (codes "msg") (at 5 well ∷ [])
    ≡ dict
    (members_of
    ((codes "changed", boolean false) ∷ (codes "failed", boolean false) ∷ (codes "msg", text (codes "All items completed"))
    ∷ (codes "results", list (items_of (dict (members_of ((codes "changed", boolean false) ∷ (codes "failed", boolean false) ∷ (codes "msg", int (pos 5)) ∷ [])) ∷ []))) ∷ []))
with_variable = refl

-- a skipped item is not forgotten
skipped_stays :
    result_of (codes "item") (at 5 (Decided left_out) ∷ at 6 failed ∷ [])
    ≡ dict
    (members_of
    ((codes "changed", boolean false) ∷ (codes "failed", boolean true) ∷ (codes "msg", text (codes "One or more items failed"))
    ∷ (
      codes "results",
      list
          (items_of
          (dict (members_of ((codes "changed", boolean false) ∷ (codes "item", int (pos 5)) ∷ (codes "skipped", boolean true) ∷ []))
          ∷ dict (members_of ((codes "changed", boolean false) ∷ (codes "failed", boolean true) ∷ (codes "item", int (pos 6)) ∷ (codes "msg", text (codes "no")) ∷ [])) ∷ [])),
    )
    ∷ []))
skipped_stays = refl

all_left_out :
    result_of (codes "item") (at 5 (Decided left_out) ∷ [])
    ≡ dict
    (members_of
    ((codes "changed", boolean false) ∷ (codes "failed", boolean false) ∷ (codes "msg", text (codes "All items skipped"))
    ∷ (codes "results", list (items_of (dict (members_of ((codes "changed", boolean false) ∷ (codes "item", int (pos 5)) ∷ (codes "skipped", boolean true) ∷ [])) ∷ [])))
    ∷ (codes "skipped", boolean true) ∷ []))
all_left_out = refl

-- where an item found its host out of reach its result stands alone
lost_alone : result_of (codes "item") (at 5 well ∷ at 6 gone ∷ at 7 sent ∷ []) ≡ (lost (codes "no route")).result
lost_alone = refl
