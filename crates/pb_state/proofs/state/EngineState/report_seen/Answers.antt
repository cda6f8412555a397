use Rattle.std.proofs.Common.{◌≡◌, true, subst, sym}
use Rattle.pb_state.specs.State.{State}
use Rattle.pb_hosts.specs.Applied.{LearnInTurn}
use Rattle.pb_hosts.specs.Giving.{report_gives}
use Rattle.pb_state.specs.Machine.{learnt_by, may_report_in}
use Rattle.pb_state.proofs.Within.{report_bounded}
use Rattle.pb_state.proofs.BatchBounds.{room_at}
use Rattle.pb_state.proofs.state.EngineState.report_seen.Goals as goal

pub report_row-requires : goal.report_row-requires
report_row-requires c =
    room_at c.self.inside.batch c.self.inside.sizes_left c.self.inside.play c.self.inside.sends c.args.report.now.host.0 c.self.inside.is_open c.self.inside.rows (subst (λ (v : State). v.is_open ≡ true) (sym c.self.view_is) c.requires.open) c.self.invariant

pub invariant_of-self-2 : goal.invariant_of-self-2
invariant_of-self-2 c =
    report_bounded c.self.inside.batch c.self.inside.sizes_left c.self.inside.play c.self.inside.sends c.args.report.now.host.0 c.args.report.now.item c.args.report.now.attempt c.self.inside.is_open c.args.plan.now c.args.play.now c.args.report.now.ticket c.args.report.now.outcome (report_gives c.args.plan.now c.args.play.now c.args.report.now.outcome c.args.report.now.host.0 c.self.inside.rows) c.self.inside.rows c.report_row.new.rows c.self.invariant
    (subst (λ (v : State). v.is_open ≡ true) (sym c.self.view_is) c.requires.open)
    (subst (λ (v : State). may_report_in v c.args.report.now c.args.play.now ≡ true) (sym c.self.view_is) c.requires.may)
    c.in_ok-step_result.ensures.rows

pub returns-clause-learnt : goal.returns-clause-learnt
returns-clause-learnt c =
    subst (λ (old : State). LearnInTurn c.in_ok-step_result.learnt.items (learnt_by old.rows) (learnt_by c.report_row.new.rows)) c.self.view_is c.in_ok-step_result.ensures.learnt
