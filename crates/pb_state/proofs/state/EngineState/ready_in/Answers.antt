use Rattle.std.proofs.Common.{length, map, ◌∙◌, sym, ap}
use Rattle.pb_strategies.specs.MayStart.{ViewOf, ready as starting}
use Rattle.pb_state.specs.State.{State}
use Rattle.pb_host.specs.Runs.{has_send}
use Rattle.pb_state.proofs.Readies.{widths}
use Rattle.pb_state.proofs.state.EngineState.ready_in.Goals as goal

pub or_with-requires : goal.or_with-requires
or_with-requires c =
    ap length c.ready.ensures
    ∙ ap (λ (v : ViewOf). length (starting v)) c.view-view.ensures
    ∙ widths c.args.self.now c.args.play.now
    ∙ ap (λ (s : State). length (map has_send s.rows)) (sym c.self.view_is)
    ∙ ap length (sym c.sends.ensures)
