-- What a run had its runner run: the jobs that its reports answer, and nothing else.
use Rattle.std.specs.Prelude.{◌≡◌, ◌⊎◌, ℕ, List, [], ◌∷◌, ◌++◌, Some}
use Rattle.std.specs.Option.{option_map_or}
use Rattle.pb_ids.specs.declared.numbers.HostNo.{HostNo}
use Rattle.pb_ids.specs.declared.numbers.Ticket.{Ticket}
use Rattle.pb_outcome.specs.declared.job.Job.{Job}
use Rattle.pb_outcome.specs.declared.outcome.Form.{Form}
use Rattle.pb_state.specs.declared.event.Event.{Event}
use Rattle.pb_state.specs.declared.event.Event.TheVariants.{Open, Start, Send, Report as Reported, Turn, Close, Stop, Forks}
use Rattle.pb_plan.specs.Plan.{PlanOf}
use Rattle.pb_state.specs.State.{State}
use Rattle.pb_state.specs.Machine.{after, first_state}
use Rattle.pb_state.specs.Jobs.{job_of}
use Rattle.pb_hosts.specs.Oldest.{oldest_out}
use Rattle.pb_state.specs.Run.{state_after}
use Rattle.pb_driver.specs.declared.driver.RunFault.{RunFault}
use Rattle.pb_driver.specs.declared.driver.RunFault.TheVariants.{Memory}

-- the job that a report answers, with what came of it
abbrev pub answer_in : PlanOf → State → Event → List (Job × Form)
answer_in plan s Open = []
answer_in plan s (Start h) = []
answer_in plan s (Send h item attempt ticket) = []
answer_in plan s (Reported r) = option_map_or (λ (job : Job). (job, r.outcome) ∷ []) (job_of plan s r.host r.ticket) []
answer_in plan s Turn = []
answer_in plan s Close = []
answer_in plan s Stop = []
answer_in plan s (Forks n) = []

-- those of all reports, in order
abbrev pub answers_from : PlanOf → State → List Event → List (Job × Form)
answers_from plan s [] = []
answers_from plan s (e ∷ es) = answer_in plan s e ++ answers_from plan (after plan s e) es

-- those of a whole trail, with the plan's own forks and so many workers
abbrev pub answers_of : PlanOf → ℕ → List Event → List (Job × Form)
answers_of plan pool trail = answers_from plan (first_state plan plan.forks pool) trail

-- this is the oldest of the jobs that are out
abbrev pub IsOldestJob : PlanOf → State → Job → Type 0
IsOldestJob plan s job = (host : HostNo) × (ticket : Ticket) × (oldest_out s.rows ≡ Some (host, ticket)) × (job_of plan s host ticket ≡ Some job)

-- where a run couldn't go on, exactly the jobs of its reports were run; or these and then the oldest one that is out, where memory was refused for its report
abbrev pub IsRanTo : (List (Job × Form) → Type 0) → PlanOf → ℕ → List Event → RunFault → Type 0
IsRanTo has_run plan pool trail fault =
    has_run (answers_of plan pool trail)
    ⊎ ((fault ≡ Memory) × ((job : Job) × (outcome : Form) × IsOldestJob plan (state_after plan pool trail) job × has_run (answers_of plan pool trail ++ (job, outcome) ∷ [])))
