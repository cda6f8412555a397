use Rattle.std.proofs.Common.{◌≡◌, ◌∙◌, Bool, true, subst, sym, ap}
use Rattle.pb_state.specs.State.{State}
use Rattle.pb_state.specs.Machine.{play_behind}
use Rattle.pb_state.proofs.BatchBounds.{close_bounded}
use Rattle.pb_state.proofs.state.EngineState.close.Goals as goal

pub invariant_of-self : goal.invariant_of-self
invariant_of-self c =
    close_bounded c.self.inside.batch c.self.inside.sizes_left c.self.inside.play c.play_behind-self-inside.result c.self.inside.sends c.self.inside.is_open c.self.inside.rows c.leave_all.new.rows c.self.invariant
    (subst (λ (v : State). v.is_open ≡ true) (sym c.self.view_is) c.requires)
    (c.play_behind-self-inside.ensures ∙ ap (λ (b : Bool). play_behind b c.self.inside.play) c.has_some.ensures)
    c.leave_all.ensures
