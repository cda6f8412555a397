-- Worked attempts at the items of a task: each is proved by computing both sides.
use Rattle.std.specs.Prelude.{◌≡◌, ℕ, pos, [], ◌∷◌, Some, None, codes, refl}
use Rattle.pb_conditions.specs.declared.attempt.Back.{Back}
use Rattle.pb_conditions.specs.declared.attempt.Back.TheVariants.{Ends, Again}
use Rattle.pb_value.specs.Datum.{int, text, dict, members_of}
use Rattle.pb_outcome.specs.Decided.{debug_result, fail_result}
use Rattle.pb_outcome.specs.Results.{judged}
use Rattle.pb_outcome.specs.declared.item.Item.{Item}
use Rattle.pb_outcome.specs.declared.item.Planned.{Planned}
use Rattle.pb_outcome.specs.declared.item.Planned.TheVariants.{Decided, Sends}
use Rattle.pb_outcome.specs.declared.job.Call.TheVariants.{Shell, Setup}
use Rattle.pb_outcome.specs.declared.job.Call.{Call}
use Rattle.pb_outcome.specs.declared.outcome.Form.TheVariants.{Module}
use Rattle.pb_host.specs.Attempts.{back_in, tried_next, attempt_after, attempt_next, rank}
use Rattle.pb_host.specs.StepResults.{retried_in}

-- an item of a loop at which this many attempts came back, and one of a task without a loop
abbrev at : ℕ → ℕ → Planned → Item
at n tried step = record { value = Some (int (pos n)); delegate = None; tried = tried; step = step }

abbrev alone : Planned → Item
alone step = record { value = None; delegate = None; tried = 0; step = step }

abbrev failed : Planned
failed = Decided (fail_result (text (codes "no")))

abbrev sent : Planned
sent = Sends (Shell (codes "true"))

-- an attempt that ends its item, and one behind which another one comes
abbrev ends : Item → Call → Back
ends item call = Ends (debug_result (int (pos 9)))

abbrev goes_on : Item → Call → Back
goes_on item call = Again (fail_result (text (codes "not yet")))

-- what comes back stands in the place of the first that waits, and the others stay
comes_back : back_in ends (at 0 0 failed ∷ at 1 0 sent ∷ at 2 0 sent ∷ [])
    ≡ at 0 0 failed ∷ at 1 0 (Decided (debug_result (int (pos 9)))) ∷ at 2 0 sent ∷ []
comes_back = refl

-- facts that come back in the place of their item
facts_come_back :
    back_in (λ item call. Ends (judged call (Module (dict (members_of ((codes "os", text (codes "Linux")) ∷ [])))))) (alone (Sends Setup) ∷ [])
    ≡ alone (Decided (judged Setup (Module (dict (members_of ((codes "os", text (codes "Linux")) ∷ [])))))) ∷ []
facts_come_back = refl

-- the first attempt at an item is the one that goes out first
first_attempt : attempt_next (at 0 0 sent ∷ at 1 0 sent ∷ []) ≡ 1
first_attempt = refl

-- the attempts at an item that has its result aren't those at the next
others_attempts : attempt_next (at 0 4 failed ∷ at 1 2 sent ∷ at 2 7 sent ∷ []) ≡ 3
others_attempts = refl

none_waits : tried_next (at 0 4 failed ∷ []) ≡ 0
none_waits = refl

last_attempt : attempt_after 100 ≡ 101
last_attempt = refl

none_behind_it : attempt_after 101 ≡ 101
none_behind_it = refl

-- an item that is tried again waits still, with one attempt more behind it, and the others stay
waits_still : back_in goes_on (at 0 0 failed ∷ at 1 0 sent ∷ at 2 0 sent ∷ []) ≡ at 0 0 failed ∷ at 1 1 sent ∷ at 2 0 sent ∷ []
waits_still = refl

second_goes_next : attempt_next (back_in goes_on (at 0 0 failed ∷ at 1 0 sent ∷ at 2 0 sent ∷ [])) ≡ 2
second_goes_next = refl

-- the next item begins with its first attempt
ends_then : attempt_next (back_in ends (at 0 4 sent ∷ at 1 0 sent ∷ [])) ≡ 1
ends_then = refl

-- the 101st attempt gives its item its result, whatever its task says
no_more_than_101 : back_in goes_on (at 0 100 sent ∷ []) ≡ at 0 100 (Decided (fail_result (text (codes "not yet")))) ∷ []
no_more_than_101 = refl

-- an attempt is in the step's result where another one comes behind it, with its number
first_is_retried : retried_in goes_on (at 0 0 failed ∷ at 1 0 sent ∷ []) ≡ Some (record { attempt = 1; result = (fail_result (text (codes "not yet"))).result })
first_is_retried = refl

second_is_retried : retried_in goes_on (at 0 1 sent ∷ []) ≡ Some (record { attempt = 2; result = (fail_result (text (codes "not yet"))).result })
second_is_retried = refl

last_is_not_retried : retried_in goes_on (at 0 100 sent ∷ []) ≡ None
last_is_not_retried = refl

end_is_not_retried : retried_in ends (at 0 0 sent ∷ []) ≡ None
end_is_not_retried = refl

-- each attempt that comes back brings the task further, and an item counts as 101
further_by_one : rank (at 0 1 sent ∷ at 1 0 sent ∷ []) ≡ 1
further_by_one = refl

further_by_an_item : rank (at 0 1 failed ∷ at 1 3 sent ∷ []) ≡ 104
further_by_an_item = refl

all_behind_it : rank (at 0 1 failed ∷ at 1 3 failed ∷ []) ≡ 202
all_behind_it = refl
