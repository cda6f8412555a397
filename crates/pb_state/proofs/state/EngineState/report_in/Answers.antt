use Rattle.std.proofs.Common.{◌∙◌, refl}
use Rattle.pb_state.specs.Machine.{plan_seen}
use Rattle.pb_state.proofs.ReadHosts.{seen_same}
use Rattle.pb_state.proofs.state.EngineState.report_in.Goals as goal

pub returns-clause-ok : goal.returns-clause-ok
returns-clause-ok c =
    c.in_ok-learnt.ensures.ok
    ∙ seen_same _ (plan_seen c.args.plan.now c.args.self.now) c.args.self.now c.args.report.now c.args.play.now _ c.new-seen-2.ensures refl c.in_ok-shown.ensures.same
