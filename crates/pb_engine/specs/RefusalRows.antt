-- Worked reports while a job is out: the reports of other jobs, and why they are refused.
use Rattle.std.specs.Prelude.{◌≡◌, ℕ, pos, [], ◌∷◌, codes, Some, None, refl}
use Rattle.pb_outcome.specs.declared.job.Report.{Report}
use Rattle.pb_outcome.specs.declared.outcome.Form.TheVariants.{Ran}
use Rattle.pb_plan.specs.Plan.{PlanOf, bare_play, bare_tree}
use Rattle.pb_host.specs.FactRows.{on_facts}
use Rattle.pb_state.specs.declared.event.Event.TheVariants.{Open}
use Rattle.pb_state.specs.State.{State}
use Rattle.pb_state.specs.BatchRows.{start, send, went, threes, all_three, led_to}
use Rattle.pb_state.specs.BlockRows.{runs}
use Rattle.pb_engine.specs.declared.refusal.Refusal.TheVariants.{UnknownTicket, AlreadyReported, WrongItem}
use Rattle.pb_engine.specs.Refusals.{refusal_of}

abbrev plan : PlanOf
plan = threes 5 (bare_play (codes "all") (bare_tree 0 1 0) (runs ∷ []) all_three ∷ [])

-- the jobs of the first two hosts went out, and the first came back
abbrev now : State
now = led_to plan (Open ∷ start 0 ∷ start 1 ∷ send 0 0 ∷ send 1 1 ∷ went 0 0 ∷ [])

-- a report under this ticket, of this host, item and attempt
abbrev report_of : ℕ → ℕ → ℕ → ℕ → Report
report_of ticket host item attempt = record { ticket = record { 0 = ticket }; host = record { 0 = host }; item = item; attempt = attempt; outcome = Ran (pos 0) [] [] }

its_own : refusal_of now (report_of 1 1 0 1) ≡ None
unfolding on_facts
its_own = refl

not_sent : refusal_of now (report_of 2 2 0 1) ≡ Some UnknownTicket
unfolding on_facts
not_sent = refl

came_back : refusal_of now (report_of 0 0 0 1) ≡ Some AlreadyReported
unfolding on_facts
came_back = refl

another_host : refusal_of now (report_of 1 0 0 1) ≡ Some WrongItem
unfolding on_facts
another_host = refl

another_item : refusal_of now (report_of 1 1 1 1) ≡ Some WrongItem
unfolding on_facts
another_item = refl

-- the second attempt, while the first is out
another_attempt : refusal_of now (report_of 1 1 0 2) ≡ Some WrongItem
unfolding on_facts
another_attempt = refl
