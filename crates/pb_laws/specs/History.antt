-- What happens in a run, one thing after another, and how that is read off a plan and a trail. This is the one file of the laws that looks at the states of
-- the machine: the laws speak of what happens, and of nothing else.
use Rattle.std.specs.Prelude.{ℕ, ◌+◌, Bool, List, [], ◌∷◌, ◌++◌, Option, Some, None, map, drop, length, option_map}
use Rattle.std.specs.Option.{option_map_or}
use Rattle.pb_plan.specs.Plan.{PlayOf, PlanOf}
use Rattle.pb_tree.specs.Answer.{AnswerOf}
use Rattle.pb_tree.specs.Tree.{TreeOf}
use Rattle.pb_tree.specs.Walk.{reach}
use Rattle.pb_tree.specs.declared.answer.Kind.{Kind}
use Rattle.pb_host.specs.declared.step_result.StepResult.{StepResult}
use Rattle.pb_host.specs.declared.step_result.TaskDone.{TaskDone}
use Rattle.pb_host.specs.declared.step_result.TaskEnd.{TaskEnd}
use Rattle.pb_state.specs.declared.event.Event.{Event}
use Rattle.pb_state.specs.declared.event.Event.TheVariants.{Open, Start, Send, Report as Reported, Turn, Close, Stop, Forks}
use Rattle.pb_host.specs.Handlers.{notified_by}
use Rattle.pb_state.specs.Machine.{after, first_state, next_at, open_play}
use Rattle.pb_state.specs.Once.{place_run_by}
use Rattle.pb_host.specs.Host.{HostOf, place_of}
use Rattle.pb_state.specs.State.{State}

-- the task at a place of a play, on a host; plays and hosts have their numbers, and a place is its position in the play's tree
pub record HostTask : Type 0 where
  pub play : ℕ
  pub host : ℕ
  pub place : ℕ

-- one thing that happens in a run
pub data Happening : Type 0 where
  -- from now on so many hosts may run at once
  MayRun : ℕ → Happening
  -- a batch of this play opens: of each host by its number whether it is in it
  Opens : ℕ → List Bool → Happening
  -- a host starts a task
  Starts : HostTask → Happening
  -- the job of this item of a host's task goes out, as this attempt at it, under this ticket
  Sends : HostTask → ℕ → ℕ → ℕ → Happening
  -- what came of a job is reported: of this host, for this item, under this ticket
  Reports : ℕ → ℕ → ℕ → Happening
  -- a host's task ends so, and notifies these handlers
  Ends : HostTask → TaskEnd → List ℕ → Happening
  -- a host is given this answer at a place without running the task: that of the host that ran it for all, or that it is halted
  Given : HostTask → Kind → Happening
  -- the batch of this play closes
  Closes : ℕ → Happening
  -- the run is commanded to stop
  Stops : Happening

-- ---- how it is read
-- at its place, where a host has one
abbrev pub at_place : ℕ → ℕ → Option ℕ → (HostTask → List Happening) → List Happening
at_place play host None tells = []
at_place play host (Some place) tells = tells (record { play = play; host = host; place = place })

-- how a step ended the task that it was about, if it did
abbrev pub ended_in : Option StepResult → Option TaskEnd
ended_in step_result = option_map_or (λ (d : StepResult). option_map (λ (done : TaskDone). done.task) d.done) step_result None

-- the handlers that a task notifies as it ends so at a place of this play; none where there is no play
abbrev pub notified_in : Option PlayOf → ℕ → TaskEnd → List ℕ
notified_in play place end = option_map_or (λ (p : PlayOf). notified_by p place end) play []

-- the end of a task, if it ended
abbrev pub ends_if : Option PlayOf → Option TaskEnd → HostTask → List Happening
ends_if play None task = []
ends_if play (Some end) task = Ends task end (notified_in play task.place end) ∷ []

-- the answers that a host has beyond those that it had, each given at the place to which those before it lead in its tree
abbrev pub given_beyond : ℕ → ℕ → TreeOf → List AnswerOf → List AnswerOf → List Happening
given_beyond play host tree had [] = []
given_beyond play host tree had (answer ∷ more) =
    at_place play host (place_of (reach tree had)) (λ task. Given task answer.kind ∷ []) ++ given_beyond play host tree (had ++ answer ∷ []) more

-- what all hosts are given, the first of which has the number `host`: by their rows before, and their rows now
abbrev pub given_in : ℕ → ℕ → List HostOf → List HostOf → List Happening
given_in play host [] news = []
given_in play host (old ∷ olds) [] = []
given_in play host (old ∷ olds) (new ∷ news) =
    given_beyond play host old.tree old.answers (drop (length old.answers) new.answers) ++ given_in play (host + 1) olds news

-- the hosts of the batch
abbrev pub batch_in : List HostOf → List Bool
batch_in rows = map (λ (row : HostOf). row.in_batch) rows

-- what an event tells, by the state before it and the one after it
abbrev pub happenings : PlanOf → State → Event → State → List Happening
happenings plan s Open new = Opens new.play (batch_in new.rows) ∷ []
happenings plan s (Start h) new = at_place s.play h.0 (next_at s h.0) (λ task. Starts task ∷ ends_if (open_play plan s) (ended_in new.step_result) task)
happenings plan s (Send h item attempt ticket) new = at_place s.play h.0 (place_run_by s h) (λ task. Sends task item attempt ticket.0 ∷ [])
happenings plan s (Reported r) new =
    Reports r.host.0 r.item r.ticket.0 ∷ at_place s.play r.host.0 (place_run_by s r.host) (λ task. ends_if (open_play plan s) (ended_in new.step_result) task)
happenings plan s Turn new = given_in s.play 0 s.rows new.rows
happenings plan s Close new = Closes s.play ∷ []
happenings plan s Stop new = Stops ∷ []
happenings plan s (Forks n) new = MayRun n ∷ []

-- what the events tell one after another, from a state on; the oldest stands first
abbrev pub history_from : PlanOf → State → List Event → List Happening
history_from plan s [] = []
history_from plan s (e ∷ es) = happenings plan s e (after plan s e) ++ history_from plan (after plan s e) es

-- a run begins with so many forks
abbrev pub history : PlanOf → ℕ → ℕ → List Event → List Happening
history plan forks pool trail = MayRun forks ∷ history_from plan (first_state plan forks pool) trail
