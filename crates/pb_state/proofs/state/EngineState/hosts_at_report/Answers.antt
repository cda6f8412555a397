use Rattle.std.proofs.Common.{ap}
use Rattle.pb_task_vars.proofs.ReadHosts.{attempts_not_read}
use Rattle.pb_state.specs.declared.hostvars.Shown.{Shown}
use Rattle.pb_state.specs.Machine.{learnt_by}
use Rattle.pb_state.proofs.state.EngineState.hosts_at_report.Goals as goal

pub returns-clause-same : goal.returns-clause-same
returns-clause-same c = λ value attempt item.
    attempts_not_read c.args.plan.now c.new-seen.result c.args.play.now c.args.host.0 c.args.facts.now c.args.place (learnt_by c.args.self.now.rows) _ _ c.in_ok-reads.reads c.new-seen.ensures c.if-reads.false
    c.in_ok-reads.ensures (ap (λ (s : Shown). s.hosts) c.unread-none.ensures) value attempt item
