-- What an engine keeps of its fields.
use Rattle.std.specs.Prelude.{◌≡◌, ◌<◌, length}
use Rattle.pb_state.specs.Known.{IsKnown}
use Rattle.pb_state.specs.Run.{IsRun}
use Rattle.pb_engine.specs.declared.engine.Engine.TheInside.{Inside}

-- the trail leads to the state, `ready` has an entry for each host, some host may run, and what is kept of `hostvars` is what it is now
pub record Holds (e : Inside) : Type 0 where
  pub run : IsRun e.plan e.pool e.trail.items e.state
  pub width : length e.ready ≡ length e.state.rows
  pub forks : 0 < e.state.forks
  pub known : IsKnown e.plan e.state e.known
