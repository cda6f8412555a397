-- Worked attempts: a job goes out, and comes back, as the next attempt at its host's next item, until the item has its result.
use Rattle.std.specs.Prelude.{◌≡◌, ℕ, pos, Bool, true, false, List, [], ◌∷◌, ◌++◌, codes, Option, Some, None, option_map, slice_get, refl}
use Rattle.std.proofs.Common.{ap, arith}
use Rattle.std.specs.Option.{option_map_or}
use Rattle.pb_outcome.specs.declared.job.Job.{Job}
use Rattle.pb_outcome.specs.declared.outcome.Form.TheVariants.{Ran, Unreachable as NoAnswer}
use Rattle.pb_outcome.specs.declared.outcome.Form.{Form}
use Rattle.pb_places.specs.Place.{PlaceOf}
use Rattle.pb_plan.specs.Plan.{PlayOf, PlanOf, bare_play, bare_tree}
use Rattle.pb_host.specs.declared.step_result.StepResult.{StepResult}
use Rattle.pb_host.specs.declared.step_result.Retried.{Retried}
use Rattle.pb_host.specs.declared.host.Counts.{Counts}
use Rattle.pb_host.specs.FactRows.{on_facts}
use Rattle.pb_host.specs.Host.{HostOf, none_counted}
use Rattle.pb_host.specs.Runs.{is_running}
use Rattle.pb_state.specs.declared.event.Event.{Event}
use Rattle.pb_state.specs.declared.event.Event.TheVariants.{Open, Send, Report as Reported}
use Rattle.pb_state.specs.BlockRows.{runs}
use Rattle.pb_state.specs.BatchRows.{start, send, threes, all_three, led_to, may}
use Rattle.pb_state.specs.Jobs.{delay_at, job_of}
use Rattle.pb_state.specs.Machine.{first_state}
use Rattle.pb_state.specs.Once.{SendOf, sends_from, NoTwice}
use Rattle.pb_state.specs.Run.{IsLegal}

-- a command that may be tried again three times, after five seconds each time
abbrev tries : PlaceOf
tries = record runs { task = record runs.task { retrying = Some (record { until = None; retries = 3; delay = 5 }) } }

abbrev on_three : PlaceOf → PlayOf
on_three place = bare_play (codes "all") (bare_tree 0 1 0) (place ∷ []) all_three

abbrev play : PlayOf
play = on_three tries

abbrev lone : PlanOf
lone = threes 5 (play ∷ [])

-- the first host's job goes out as this attempt, under this ticket
abbrev goes : (attempt ticket : ℕ) → Event
goes attempt ticket = Send (record { 0 = 0 }) 0 attempt (record { 0 = ticket })

-- and comes to this
abbrev comes : Form → (attempt ticket : ℕ) → Event
comes outcome attempt ticket = Reported (record { ticket = record { 0 = ticket }; host = record { 0 = 0 }; item = 0; attempt = attempt; outcome = outcome })

abbrev succeeds : (attempt ticket : ℕ) → Event
succeeds attempt ticket = comes (Ran (pos 0) [] []) attempt ticket

abbrev fails : (attempt ticket : ℕ) → Event
fails attempt ticket = comes (Ran (pos 1) [] []) attempt ticket

abbrev started : List Event
started = Open ∷ start 0 ∷ []

abbrev out : List Event
out = Open ∷ start 0 ∷ send 0 0 ∷ []

-- the first attempt goes out first, and no other
first_goes : may lone started (goes 1 0) ≡ true
unfolding on_facts
first_goes = refl

second_waits : may lone started (goes 2 0) ≡ false
unfolding on_facts
second_waits = refl

none_before_the_first : may lone started (goes 0 0) ≡ false
unfolding on_facts
none_before_the_first = refl

-- while it is out its report may come, and no other
its_report_comes : may lone out (succeeds 1 0) ≡ true
unfolding on_facts
its_report_comes = refl

report_of_another_waits : may lone out (succeeds 2 0) ≡ false
unfolding on_facts
report_of_another_waits = refl

-- its job says which attempt it is, and that it waits for nothing
first_job : option_map (λ (job : Job). job.attempt) (job_of lone (led_to lone started) (record { 0 = 0 }) (record { 0 = 0 })) ≡ Some 1
unfolding on_facts
first_job = refl

first_is_at_once : option_map (λ (job : Job). job.delay) (job_of lone (led_to lone started) (record { 0 = 0 }) (record { 0 = 0 })) ≡ Some 0
unfolding on_facts
first_is_at_once = refl

second_would_wait : delay_at play 0 2 ≡ 5
second_would_wait = refl

-- ---- the next attempt
-- the first attempt failed
abbrev failed_once : List Event
failed_once = out ++ fails 1 0 ∷ []

-- so the second goes out, under a ticket of its own
second_goes : may lone failed_once (goes 2 1) ≡ true
unfolding on_facts
second_goes = refl

its_ticket_is_another : may lone failed_once (goes 2 0) ≡ false
unfolding on_facts
its_ticket_is_another = refl

-- the first doesn't go out twice, and the third waits
first_was_sent : may lone failed_once (goes 1 1) ≡ false
unfolding on_facts
first_was_sent = refl

third_waits : may lone failed_once (goes 3 1) ≡ false
unfolding on_facts
third_waits = refl

-- its report doesn't come twice either
first_came : may lone failed_once (fails 1 0) ≡ false
unfolding on_facts
first_came = refl

second_job : option_map (λ (job : Job). job.attempt) (job_of lone (led_to lone failed_once) (record { 0 = 0 }) (record { 0 = 1 })) ≡ Some 2
unfolding on_facts
second_job = refl

second_waits_so_long : option_map (λ (job : Job). job.delay) (job_of lone (led_to lone failed_once) (record { 0 = 0 }) (record { 0 = 1 })) ≡ Some 5
unfolding on_facts
second_waits_so_long = refl

-- that attempt is in the step's result, and the task goes on
abbrev retried_in : List Event → Option ℕ
retried_in events = option_map_or (λ (d : StepResult). option_map (λ (r : Retried). r.attempt) d.retried) (led_to lone events).step_result None

first_is_retried : retried_in failed_once ≡ Some 1
unfolding on_facts
first_is_retried = refl

abbrev still_runs : PlanOf → List Event → Option Bool
still_runs plan events = option_map is_running (slice_get (led_to plan events).rows 0)

abbrev counts_of : PlanOf → List Event → Option Counts
counts_of plan events = option_map (λ (row : HostOf). row.counts) (slice_get (led_to plan events).rows 0)

goes_on : still_runs lone failed_once ≡ Some true
unfolding on_facts
goes_on = refl

counts_nothing_yet : counts_of lone failed_once ≡ Some none_counted
unfolding on_facts
counts_nothing_yet = refl

-- ---- until one succeeds
abbrev succeeded : List Event
succeeded = failed_once ++ goes 2 1 ∷ succeeds 2 1 ∷ []

ends_with_the_second : IsLegal lone 256 succeeded
unfolding on_facts
ends_with_the_second = refl

has_ended : still_runs lone succeeded ≡ Some false
unfolding on_facts
has_ended = refl

-- the task counts once
counts_once : counts_of lone succeeded ≡ Some (record none_counted { ok = 1; changed = 1 })
unfolding on_facts
counts_once = refl

second_isnt_retried : retried_in succeeded ≡ None
unfolding on_facts
second_isnt_retried = refl

none_behind_success : may lone succeeded (goes 3 2) ≡ false
unfolding on_facts
none_behind_success = refl

-- ---- or until none is left
abbrev failed_thrice : List Event
failed_thrice = failed_once ++ goes 2 1 ∷ fails 2 1 ∷ goes 3 2 ∷ fails 3 2 ∷ []

abbrev failed_always : List Event
failed_always = failed_thrice ++ goes 4 3 ∷ fails 4 3 ∷ []

four_in_all : IsLegal lone 256 failed_always
unfolding on_facts
four_in_all = refl

no_fifth : may lone failed_always (goes 5 4) ≡ false
unfolding on_facts
no_fifth = refl

fails_once : counts_of lone failed_always ≡ Some (record none_counted { failed = 1 })
unfolding on_facts
fails_once = refl

-- a host that can't be reached isn't tried again
abbrev lost : List Event
lost = out ++ comes (NoAnswer (codes "no route")) 1 0 ∷ []

none_behind_a_loss : may lone lost (goes 2 1) ≡ false
unfolding on_facts
none_behind_a_loss = refl

-- nor a task that doesn't say so
abbrev once : PlanOf
once = threes 5 (on_three runs ∷ [])

none_unless_retried : may once failed_once (goes 2 1) ≡ false
unfolding on_facts
none_unless_retried = refl

-- ---- nothing twice
-- the attempts that go out are sends that differ
abbrev sends : ℕ → SendOf
sends attempt = record { host = record { 0 = 0 }; play = 0; place = Some 0; item = 0; attempt = attempt }

two_sends : sends_from lone (first_state lone 5 256) succeeded ≡ sends 1 ∷ sends 2 ∷ []
unfolding on_facts
two_sends = refl

they_differ : NoTwice (sends 1 ∷ sends 2 ∷ [])
they_differ = (((λ same. let both : 1 ≡ 2 = ap (λ (s : SendOf). s.attempt) same in omega (arith, both)), tt), (tt, tt))

-- an attempt that is sent again would be one too many
not_again : NoTwice (sends 1 ∷ sends 1 ∷ []) → ⊥
not_again twice = twice.0.0 refl
