-- What a host that was picked does.
use Rattle.std.proofs.Common.{◌≡◌, ℕ, Bool, true, List, refl}
use Rattle.std.specs.Prelude.{Some, slice_get}
use Rattle.pb_ids.specs.declared.numbers.HostNo.{HostNo}
use Rattle.pb_state.specs.declared.event.Event.{Event}
use Rattle.pb_state.specs.declared.event.Event.TheVariants.{Open, Start, Send, Report as Reported, Turn, Close, Stop, Forks}
use Rattle.pb_plan.specs.Plan.{PlanOf}
use Rattle.pb_state.specs.State.{State}
use Rattle.pb_state.specs.Machine.{possible, ready}
use Rattle.pb_engine.specs.declared.choice.Choice.TheVariants.{Take}
use Rattle.pb_engine.specs.Choice.{IsChoice, host_of}

-- what a host that was picked does is chosen
pub picked : {P : Type 0} (plan : PlanOf) (s : State) (picks : P → List Bool → ℕ → P → Type 0) (old new : P) (host : HostNo) (e : Event) → slice_get (ready plan s) host.0 ≡ Some true → picks old (ready plan s) host.0 new → possible plan s e ≡ true → host_of e ≡ Some host → IsChoice plan s picks old new (Take e)
picked plan s picks old new host Open here pick may is = cc
picked plan s picks old new host (Start h) here pick may is = let same : h ≡ host = cc in (may, refl, (rw same here, rw same pick))
picked plan s picks old new host (Send h item attempt ticket) here pick may is = let same : h ≡ host = cc in (may, refl, (rw same here, rw same pick))
picked plan s picks old new host (Reported r) here pick may is = cc
picked plan s picks old new host Turn here pick may is = cc
picked plan s picks old new host Close here pick may is = cc
picked plan s picks old new host Stop here pick may is = cc
picked plan s picks old new host (Forks n) here pick may is = cc
