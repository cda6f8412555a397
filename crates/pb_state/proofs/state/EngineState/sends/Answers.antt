use Rattle.std.proofs.Common.{ap, ◌∙◌}
use Rattle.pb_state.specs.State.{State}
use Rattle.pb_state.proofs.BatchBounds.{sends_below}
use Rattle.pb_state.proofs.state.EngineState.sends.Goals as goal

pub returns-clause-few : goal.returns-clause-few
returns-clause-few c = λ opened.
    let is = ap (λ (s : State). s.is_open) c.self.view_is ∙ opened in
    sends_below c.self.inside.batch c.self.inside.sizes_left c.self.inside.play c.self.inside.sends c.self.inside.is_open c.self.inside.rows c.self.invariant is
