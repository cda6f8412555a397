-- What a worker has done with its seat: the jobs that it took were run, and it answered what came of them.
use Rattle.std.specs.Prelude.{◌≡◌, List, ◌++◌, map}
use Rattle.pb_outcome.specs.declared.job.Job.{Job}
use Rattle.pb_outcome.specs.declared.job.Report.{Report}
use Rattle.pb_outcome.specs.declared.outcome.Form.{Form}
use Rattle.pb_forks.specs.declared.views.ForkView.{ForkView}

-- a job that was run, with what came of it
abbrev pub job_run : Job × Form → Job
job_run run = run.0

-- the report of such a job
abbrev pub report_of : Job × Form → Report
report_of run = record { ticket = run.0.ticket; host = run.0.host; item = run.0.item; attempt = run.0.attempt; outcome = run.1 }

-- the runner ran exactly the jobs that the seat took, in their order, and the seat answered each with what came of it
abbrev pub HasServed : {R : Type 0} → (R → List (Job × Form) → R → Type 0) → R → R → ForkView → ForkView → Type 0
HasServed {R} has_run before after p q =
    (runs : List (Job × Form)) × has_run before runs after × (q.takes ≡ p.takes ++ map job_run runs) × (q.answers ≡ p.answers ++ map report_of runs)
