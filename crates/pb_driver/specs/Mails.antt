-- What goes to whoever runs a run's jobs, and what comes back: the jobs of the trail's sends, and the reports, in the trail's order.
use Rattle.std.specs.Prelude.{◌≡◌, ◌⊎◌, ℕ, Bool, true, nat_lt, List, [], ◌∷◌, ◌++◌, map, Some}
use Rattle.std.specs.List.{list_all}
use Rattle.std.specs.Option.{option_map_or}
use Rattle.pb_outcome.specs.declared.job.Job.{Job}
use Rattle.pb_outcome.specs.declared.job.Report.{Report}
use Rattle.pb_outcome.specs.declared.outcome.Form.{Form}
use Rattle.pb_forks.specs.declared.views.Entry.{Entry}
use Rattle.pb_forks.specs.declared.views.Entry.TheVariants.{Offered, Collected}
use Rattle.pb_runner.specs.Served.{report_of}
use Rattle.pb_state.specs.declared.event.Event.{Event}
use Rattle.pb_state.specs.declared.event.Event.TheVariants.{Open, Start, Send, Report as Reported, Turn, Close, Stop, Forks}
use Rattle.pb_plan.specs.Plan.{PlanOf}
use Rattle.pb_state.specs.State.{State}
use Rattle.pb_state.specs.Machine.{after, first_state}
use Rattle.pb_state.specs.Jobs.{job_of}
use Rattle.pb_state.specs.Run.{state_after}
use Rattle.pb_engine.specs.EngineOf.{EngineOf}
use Rattle.pb_driver.specs.Driven.{Answers}
use Rattle.pb_driver.specs.declared.driver.RunFault.{RunFault}
use Rattle.pb_driver.specs.declared.driver.RunFault.TheVariants.{Memory}

-- a job goes out, or comes back with what came of it
pub data Mail : Type 0 where
  Goes : Job → Mail
  Comes : Job → Form → Mail

-- the mail of an event: the job that a send lets go out, or the one that a report answers; none for other events
abbrev pub mail_in : PlanOf → State → Event → List Mail
mail_in plan s Open = []
mail_in plan s (Start h) = []
mail_in plan s (Send h item attempt ticket) = option_map_or (λ (job : Job). Goes job ∷ []) (job_of plan s h ticket) []
mail_in plan s (Reported r) = option_map_or (λ (job : Job). Comes job r.outcome ∷ []) (job_of plan s r.host r.ticket) []
mail_in plan s Turn = []
mail_in plan s Close = []
mail_in plan s Stop = []
mail_in plan s (Forks n) = []

-- that of all events, in order
abbrev pub mails_from : PlanOf → State → List Event → List Mail
mails_from plan s [] = []
mails_from plan s (e ∷ es) = mail_in plan s e ++ mails_from plan (after plan s e) es

-- the mails of a whole trail, with the plan's own forks and so many workers
abbrev pub mails_of : PlanOf → ℕ → List Event → List Mail
mails_of plan pool trail = mails_from plan (first_state plan plan.forks pool) trail

-- the mails of an engine's trail
abbrev pub mails_in : EngineOf → List Mail
mails_in engine = mails_of engine.plan engine.pool engine.trail

-- the jobs that came back, with what came of them
abbrev pub answers_among : List Mail → List (Job × Form)
answers_among [] = []
answers_among (Goes job ∷ mails) = answers_among mails
answers_among (Comes job outcome ∷ mails) = (job, outcome) ∷ answers_among mails

-- the same as the main seat of a pool tells it, whichever fork it is
pub data Letter : Type 0 where
  Sent : Job → Letter
  Came : Report → Letter

abbrev pub letter_at : Entry → Letter
letter_at (Offered fork job) = Sent job
letter_at (Collected fork report) = Came report

abbrev pub letter_of : Mail → Letter
letter_of (Goes job) = Sent job
letter_of (Comes job outcome) = Came (report_of (job, outcome))

-- what was offered and collected, as one list, are the trail's sends and reports in the trail's order, and behind them these reports
abbrev pub AreMails : PlanOf → ℕ → List Event → List Report → List Entry → Type 0
AreMails plan pool trail later log = map letter_at log ≡ map letter_of (mails_of plan pool trail) ++ map Came later

-- each went to one of k forks, or came from one
abbrev pub is_fork_below : ℕ → Entry → Bool
is_fork_below k (Offered fork job) = nat_lt fork k
is_fork_below k (Collected fork report) = nat_lt fork k

abbrev pub AreWithin : ℕ → List Entry → Type 0
AreWithin k log = list_all (is_fork_below k) log ≡ true

-- reports were collected, and nothing offered
abbrev pub HasDrained : List Entry → List Entry → Type 0
HasDrained old new = (later : List Report) × (map letter_at new ≡ map letter_at old ++ map Came later)

-- where a run couldn't go on, this is what went and came; or this and then one report more, where memory was refused for it
abbrev pub HasGoneTo : Answers → (List Mail → Type 0) → PlanOf → ℕ → List Event → RunFault → Type 0
HasGoneTo answers has_gone plan pool trail fault =
    has_gone (mails_of plan pool trail)
    ⊎ ((fault ≡ Memory) × ((r : Report) × (job : Job) × (job_of plan (state_after plan pool trail) r.host r.ticket ≡ Some job)
    × answers plan (state_after plan pool trail) r × has_gone (mails_of plan pool trail ++ Comes job r.outcome ∷ [])))

-- where the mails of the old engine went and came, those of the new engine do, whatever did before
abbrev pub GoesAlong : {H : Type 0} → (H → List Mail → H → Type 0) → EngineOf → EngineOf → H → H → Type 0
GoesAlong {H} went old new before after = (base : H) → went base (mails_in old) before → went base (mails_in new) after

-- the same of a run that couldn't go on
abbrev pub GoesOver : {H : Type 0} → Answers → (H → List Mail → H → Type 0) → EngineOf → EngineOf → H → H → RunFault → Type 0
GoesOver {H} answers went old new before after fault =
    (base : H) → went base (mails_in old) before → HasGoneTo answers (λ mails. went base mails after) new.plan new.pool new.trail fault
