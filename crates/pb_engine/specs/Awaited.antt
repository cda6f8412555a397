-- What is out is awaited: in every run a report of a job that is out is not refused.
use Rattle.std.specs.Prelude.{◌≡◌, ℕ, List, None}
use Rattle.pb_outcome.specs.declared.job.Job.{Job}
use Rattle.pb_outcome.specs.declared.job.Report.{Report}
use Rattle.pb_plan.specs.Plan.{PlanOf}
use Rattle.pb_state.specs.declared.event.Event.{Event}
use Rattle.pb_state.specs.Run.{IsRun}
use Rattle.pb_state.specs.State.{State}
use Rattle.pb_laws.specs.JobsOut.{IsOut, IsReportOf}
use Rattle.pb_engine.specs.Refusals.{refusal_of}

abbrev pub JobsOutAreAwaited : Type 0
JobsOutAreAwaited = (plan : PlanOf) (pool : ℕ) (trail : List Event) (s : State) (x : Job) (r : Report) → IsRun plan pool trail s → IsOut plan s x → IsReportOf x r → refusal_of s r ≡ None
