-- Which task an event finishes.
use Rattle.std.proofs.Common.{◌≡◌, ℕ, refl}
use Rattle.std.specs.Prelude.{Option, Some, None, option_map}
use Rattle.std.specs.Option.{option_map_or}
use Rattle.pb_host.specs.declared.step_result.StepResult.{StepResult}
use Rattle.pb_host.specs.declared.step_result.TaskDone.{TaskDone}
use Rattle.pb_host.specs.declared.step_result.TaskEnd.{TaskEnd}
use Rattle.pb_state.specs.declared.event.Event.{Event}
use Rattle.pb_state.specs.declared.event.Event.TheVariants.{Open, Start, Send, Report as Reported, Turn, Close, Stop, Forks}
use Rattle.pb_state.specs.State.{State}
use Rattle.pb_recap.specs.Counting.{host_of, task_done, task_in}
use Rattle.pb_recap.specs.Recap.{FinishedTask, by_host, ended_by, finished_in}

by_done : (h : ℕ) (done : Option TaskDone) → option_map (by_host h) done ≡ option_map (λ task. record { host = h; task = task }) (option_map (λ (d : TaskDone). d.task) done)
by_done h None = refl
by_done h (Some d) = refl

by_step_result : (h : ℕ) (step_result : Option StepResult) → option_map_or (ended_by h) step_result None ≡ option_map (λ task. record { host = h; task = task }) (option_map_or task_done step_result None)
by_step_result h None = refl
by_step_result h (Some d) = by_done h d.done

abbrev pub finished_by : Option ℕ → Option TaskEnd → Option FinishedTask
finished_by None task = None
finished_by (Some h) task = option_map (λ t. record { host = h; task = t }) task

pub finishes_at : (s : State) (e : Event) → finished_in s e ≡ finished_by (host_of e) (task_in s)
finishes_at s Open = refl
finishes_at s (Start h) = by_step_result h.0 s.step_result
finishes_at s (Send h item attempt ticket) = refl
finishes_at s (Reported r) = by_step_result r.host.0 s.step_result
finishes_at s Turn = refl
finishes_at s Close = refl
finishes_at s Stop = refl
finishes_at s (Forks n) = refl
