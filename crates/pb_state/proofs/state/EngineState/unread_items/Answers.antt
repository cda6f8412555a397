use Rattle.std.proofs.Common.{ap}
use Rattle.pb_state.specs.declared.hostvars.Shown.{Shown}
use Rattle.pb_state.specs.Machine.{learnt_by}
use Rattle.pb_state.proofs.ReadHosts.{found_unread}
use Rattle.pb_state.proofs.state.EngineState.unread_items.Goals as goal

pub returns-clause-items : goal.returns-clause-items
returns-clause-items c =
    found_unread c.args.plan.now c.new-seen.result c.args.play.now c.args.host.0 c.args.facts.now c.args.place (learnt_by c.args.self.now.rows) _ c.in_ok-found.found
    c.new-seen.ensures (ap (λ (s : Shown). s.hosts) c.unread-none.ensures) c.in_ok-found.ensures.value c.in_ok-found.ensures.unread
