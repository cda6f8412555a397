-- What is kept of `hostvars` is put right by what hosts learnt at an event.
use Rattle.std.proofs.Common.{◌≡◌, ◌∙◌, true, List, [], Option, Some, None, sym, ap, subst}
use Rattle.std.specs.Prelude.{IfSome}
use Rattle.pb_plan.specs.Plan.{PlanOf}
use Rattle.pb_host.specs.Host.{HostOf}
use Rattle.pb_hosts.specs.Applied.{LearnInTurn}
use Rattle.pb_state.specs.declared.event.Event.{Event}
use Rattle.pb_state.specs.Known.{IsKnown, keeps_facts}
use Rattle.pb_state.specs.Learners.{IsRenewedInTurn}
use Rattle.pb_state.specs.Machine.{after, learnt_by}
use Rattle.pb_state.specs.State.{State}
use Rattle.pb_state.proofs.InTurn.{Entry, Map, nobody_learnt}
use Rattle.pb_state.proofs.KeepsFacts.{knows_same}

-- an event that surely leaves what hosts know as it was teaches nobody
pub quiet_learns : (plan : PlanOf) (s new : State) (event : Event) (log : List Entry) → keeps_facts plan s event ≡ true → new ≡ after plan s event → log ≡ [] → LearnInTurn log (learnt_by s.rows) (learnt_by new.rows)
quiet_learns plan s new event log keeps is none =
    nobody_learnt log (learnt_by s.rows) (learnt_by new.rows) none (sym (ap (λ (t : State). learnt_by t.rows) is ∙ knows_same plan s event keeps))

-- what is kept then is what would be made
pub kept_right : (plan : PlanOf) (old new : State) (rows : List HostOf) (log : List Entry) (known found : Option Map) (hosts : Map) → known ≡ Some hosts → rows ≡ new.rows
    → IfSome found (IsRenewedInTurn plan.inventory plan.extra log (learnt_by rows) hosts) → LearnInTurn log (learnt_by old.rows) (learnt_by new.rows) → IsKnown plan old known → IsKnown plan new found
kept_right plan old new rows log known None hosts k same renewed learns was = tt
kept_right plan old new rows log known (Some map) hosts k same renewed learns was =
    subst (λ (all : List HostOf). IsRenewedInTurn plan.inventory plan.extra log (learnt_by all) hosts map) same renewed (learnt_by old.rows) learns
    (subst (λ (before : Option Map). IsKnown plan old before) k was)
