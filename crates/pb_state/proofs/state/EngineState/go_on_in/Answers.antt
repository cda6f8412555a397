use Rattle.std.proofs.Common.{◌≡◌, ℕ, ◌+◌, true, false, List, subst, sym, arith}
use Rattle.pb_state.specs.Bounds.{IsBounded}
use Rattle.pb_hosts.specs.Batches.{has_batch_left}
use Rattle.pb_state.specs.State.{State}
use Rattle.pb_state.proofs.BatchBounds.{go_on_bounded, batch_below}
use Rattle.pb_state.proofs.state.EngineState.go_on_in.Goals as goal

pub overflow_add-self : goal.overflow_add-self
overflow_add-self c =
    let below = batch_below c.self.inside.batch c.self.inside.sizes_left c.self.inside.play c.self.inside.sends c.self.inside.is_open c.self.inside.rows c.self.invariant in
    omega (arith, below)

pub invariant_of-self-2 : goal.invariant_of-self-2
invariant_of-self-2 c =
    subst (λ (sizes_left : List ℕ). IsBounded true (c.self.inside.batch + 1) sizes_left c.self.inside.play c.self.inside.sends c.join_first.new.rows) (sym c.pass.ensures)
    (go_on_bounded c.self.inside.batch c.self.inside.sizes_left c.self.inside.play c.self.inside.sends c.in-Some.size c.self.inside.is_open c.laid.result.now.value.tree c.self.inside.rows c.join_first.new.rows c.self.invariant
    (rw c.laid.ensures.value c.laid.ensures.bound)
    (subst (λ (v : State). v.is_open ≡ false) (sym c.self.view_is) c.requires.closed)
    (subst (λ (v : State). has_batch_left v.sizes_left ≡ true) (sym c.self.view_is) c.requires.left)
    c.in_ok-join_first.ensures.ok)
