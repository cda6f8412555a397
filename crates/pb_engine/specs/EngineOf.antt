-- An engine: a plan, the size of the pool, the state of the run, and the trail that led to it.
use Rattle.std.specs.Prelude.{◌≡◌, ◌<◌, ℕ, nat_lt, List, [], ◌∷◌, ◌++◌, true, Result, Ok, Err, if◌then◌else◌}
use Rattle.pb_state.specs.declared.event.Event.{Event}
use Rattle.pb_plan.specs.Plan.{PlanOf}
use Rattle.pb_state.specs.State.{State}
use Rattle.pb_state.specs.Machine.{possible, after, first_state}
use Rattle.pb_state.specs.Run.{IsRun}
use Rattle.pb_state.specs.Work.{work}
use Rattle.pb_engine.specs.declared.fault.EngineFault.{EngineFault}
use Rattle.pb_engine.specs.declared.fault.EngineFault.TheVariants.{PoolTooSmall}

pub record EngineOf : Type 0 where
  pub plan : PlanOf
  pub pool : ℕ
  pub state : State
  pub trail : List Event

-- the engine of a plan before its run; a plan may not run more hosts at once than the pool has workers
abbrev pub engine_of : PlanOf → ℕ → Result EngineOf EngineFault
engine_of plan pool =
    if nat_lt pool plan.forks then Err PoolTooSmall
    else Ok (record { plan = plan; pool = pool; state = first_state plan plan.forks pool; trail = [] })

-- the engine after one event more
abbrev pub taken : EngineOf → Event → EngineOf
taken engine e = record { plan = engine.plan; pool = engine.pool; state = after engine.plan engine.state e; trail = engine.trail ++ e ∷ [] }

-- the engine took one event that was possible
abbrev pub Takes : EngineOf → EngineOf → Event → Type 0
Takes old new e = (possible old.plan old.state e ≡ true) × (new ≡ taken old e)

-- less is left to do
abbrev pub LessWork : EngineOf → EngineOf → Type 0
LessWork old new = work new.plan new.state < work old.plan old.state

-- the trail is a legal run of the plan, and the state is the one to which it leads
abbrev pub IsSound : EngineOf → Type 0
IsSound engine = IsRun engine.plan engine.pool engine.trail engine.state
