use Rattle.std.proofs.Common.{◌≡◌, true, subst, sym}
use Rattle.pb_state.specs.State.{State}
use Rattle.pb_hosts.specs.Applied.{LearnInTurn}
use Rattle.pb_hosts.specs.Hosts.{at_row}
use Rattle.pb_hosts.specs.Giving.{gifts_at}
use Rattle.pb_state.specs.Machine.{learnt_by, next_at}
use Rattle.pb_state.proofs.Stands.{stands_at, start_stands}
use Rattle.pb_state.proofs.Within.{start_there, start_in_batch, start_bounded}
use Rattle.pb_state.proofs.BatchBounds.{room_at}
use Rattle.pb_state.proofs.state.EngineState.start_with.Goals as goal

pub start_row-requires-clause-there : goal.start_row-requires-clause-there
start_row-requires-clause-there c =
    start_there c.args.host.0 (next_at c.args.self.now c.args.host.0) c.self.inside.rows
    (subst (λ (v : State). at_row (stands_at (next_at c.args.self.now c.args.host.0)) v.rows c.args.host.0 ≡ true) (sym c.self.view_is) (start_stands c.args.self.now c.args.host.0 c.args.play.now c.requires.may))

pub start_row-requires-clause-batch : goal.start_row-requires-clause-batch
start_row-requires-clause-batch c =
    start_in_batch c.args.host.0 (next_at c.args.self.now c.args.host.0) c.self.inside.rows
    (subst (λ (v : State). at_row (stands_at (next_at c.args.self.now c.args.host.0)) v.rows c.args.host.0 ≡ true) (sym c.self.view_is) (start_stands c.args.self.now c.args.host.0 c.args.play.now c.requires.may))

pub start_row-requires-clause-room : goal.start_row-requires-clause-room
start_row-requires-clause-room c =
    room_at c.self.inside.batch c.self.inside.sizes_left c.self.inside.play c.self.inside.sends c.args.host.0 c.self.inside.is_open c.self.inside.rows (subst (λ (v : State). v.is_open ≡ true) (sym c.self.view_is) c.requires.open) c.self.invariant

pub invariant_of-self-2 : goal.invariant_of-self-2
invariant_of-self-2 c =
    start_bounded c.self.inside.batch c.self.inside.sizes_left c.self.inside.play c.self.inside.sends c.args.host.0 c.self.inside.is_open (next_at c.args.self.now c.args.host.0) c.args.inventory.now c.args.play.now c.args.place c.args.items (gifts_at c.args.inventory.now c.args.play.now c.args.place c.args.host.0 c.args.items) c.self.inside.rows
    c.start_row.new.self c.numbered.ensures.most
    c.self.invariant
    (subst (λ (v : State). v.is_open ≡ true) (sym c.self.view_is) c.requires.open)
    (subst (λ (v : State). at_row (stands_at (next_at c.args.self.now c.args.host.0)) v.rows c.args.host.0 ≡ true) (sym c.self.view_is) (start_stands c.args.self.now c.args.host.0 c.args.play.now c.requires.may))
    c.in_ok-done.ensures.rows

pub returns-clause-learnt : goal.returns-clause-learnt
returns-clause-learnt c =
    subst (λ (old : State). LearnInTurn c.in_ok-done.learnt.items (learnt_by old.rows) (learnt_by c.start_row.new.self)) c.self.view_is c.in_ok-done.ensures.learnt
