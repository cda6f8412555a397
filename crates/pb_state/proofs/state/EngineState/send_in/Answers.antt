use Rattle.std.proofs.Common.{◌≡◌, true, subst, sym, arith}
use Rattle.pb_state.specs.State.{State}
use Rattle.pb_host.specs.Runs.{has_send}
use Rattle.pb_hosts.specs.Hosts.{at_row}
use Rattle.pb_state.specs.Machine.{may_send_in}
use Rattle.pb_state.proofs.Within.{send_bounded}
use Rattle.pb_state.proofs.BatchBounds.{sends_below}
use Rattle.pb_state.proofs.MaySend.{may_has_send}
use Rattle.pb_state.proofs.state.EngineState.send_in.Goals as goal

pub send_row-requires : goal.send_row-requires
send_row-requires c =
    subst (λ (v : State). at_row has_send v.rows c.args.host.0 ≡ true) (sym c.self.view_is)
    (may_has_send c.args.self.now c.args.host.0 c.args.item c.args.attempt c.args.ticket c.args.play.now c.requires.may)

pub overflow_add-self : goal.overflow_add-self
overflow_add-self c =
    let below = sends_below c.self.inside.batch c.self.inside.sizes_left c.self.inside.play c.self.inside.sends c.self.inside.is_open c.self.inside.rows c.self.invariant (subst (λ (v : State). v.is_open ≡ true) (sym c.self.view_is) c.requires.open) in
    omega (arith, below)

pub invariant_of-self-2 : goal.invariant_of-self-2
invariant_of-self-2 c =
    send_bounded c.self.inside.batch c.self.inside.sizes_left c.self.inside.play c.self.inside.sends c.args.host.0 c.args.item c.args.attempt c.self.inside.is_open _ c.args.ticket c.self.inside.rows c.send_row.new.rows c.self.invariant
    (subst (λ (v : State). v.is_open ≡ true) (sym c.self.view_is) c.requires.open)
    (subst (λ (v : State). may_send_in v c.args.host.0 c.args.item c.args.attempt c.args.ticket c.args.play.now ≡ true) (sym c.self.view_is) c.requires.may)
    c.in_ok-send_row.ensures.ok
