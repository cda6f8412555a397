-- A run goes on by an event that is possible.
use Rattle.std.proofs.Common.{◌≡◌, ℕ, Bool, true, false, List, [], ◌∷◌, ◌++◌, length, replicate, sym, ◌∙◌}
use Rattle.std.specs.Prelude.{Result, Ok, Err, OnOk, OnErr}
use Rattle.std.proofs.lemmas.List.{length-replicate}
use Rattle.pb_state.specs.declared.event.Event.{Event}
use Rattle.pb_plan.specs.Plan.{PlanOf}
use Rattle.pb_state.specs.State.{State}
use Rattle.pb_state.specs.Machine.{possible, after, first_state}
use Rattle.pb_state.specs.Run.{IsRun}
use Rattle.pb_state.specs.Once.{IsOnce}
use Rattle.pb_state.proofs.Once.{run_once}
use Rattle.pb_state.proofs.Trails.{run_more}
use Rattle.pb_hosts.proofs.FirstRows.{length-first}
use Rattle.pb_laws.specs.Kept.{KeepsLaws, RunsKeepLaws}

-- a call that takes the event or changes nothing leaves a run
pub run_on : {X Y : Type 0} (r : Result X Y) (plan : PlanOf) (pool : ℕ) (trail new_trail : List Event) (s new_s : State) (e : Event) → IsRun plan pool trail s → possible plan s e ≡ true → OnOk r ((new_s ≡ after plan s e) × (new_trail ≡ trail ++ e ∷ [])) → OnErr r ((new_s ≡ s) × (new_trail ≡ trail)) → IsRun plan pool new_trail new_s
run_on (Ok x) plan pool trail new_trail s new_s e run p ok err = rw (ok.0, ok.1) (run_more plan pool trail s e run p)
run_on (Err x) plan pool trail new_trail s new_s e run p ok err = rw (err.0, err.1) run

-- a run does nothing twice
pub once_in_run : (plan : PlanOf) (pool : ℕ) (trail : List Event) (s : State) → IsRun plan pool trail s → IsOnce plan (first_state plan plan.forks pool) trail
once_in_run plan pool trail s run = run_once plan pool trail s run

-- and keeps the laws of runs
pub laws_in_run : (plan : PlanOf) (pool : ℕ) (trail : List Event) (s : State) → RunsKeepLaws → IsRun plan pool trail s → KeepsLaws plan pool trail
laws_in_run plan pool trail s laws run = laws plan pool trail run.legal

-- a set of a plan's hosts is as wide as its first state has rows
pub first_width : (plan : PlanOf) (pool forks width : ℕ) (ready : List Bool) (s : State) → ready ≡ replicate width false → width ≡ length plan.inventory.hosts → s ≡ first_state plan forks pool → length ready ≡ length s.rows
first_width plan pool forks width ready s r w f = rw (r, f) (length-replicate width false ∙ w ∙ sym (length-first 0 (length plan.inventory.hosts)))
