use Rattle.std.proofs.Common.{◌≡◌, ◌≤◌, ℕ, true, false, List, subst, sym, refl}
use Rattle.pb_state.specs.Bounds.{IsBounded}
use Rattle.pb_hosts.specs.Batches.{has_batch_left}
use Rattle.pb_state.specs.State.{State}
use Rattle.pb_state.proofs.BatchBounds.{begin_bounded}
use Rattle.pb_state.proofs.state.EngineState.begin_with.Goals as goal

pub invariant_of-self-2 : goal.invariant_of-self-2
invariant_of-self-2 c =
    subst (λ (sizes_left : List ℕ). IsBounded true 0 sizes_left c.args.number c.self.inside.sends c.begin_first.new.rows) (sym c.behind.ensures)
    (begin_bounded c.self.inside.batch c.self.inside.sizes_left c.self.inside.play c.args.number c.self.inside.sends c.args.size c.self.inside.is_open (has_batch_left c.self.inside.sizes_left) c.args.sizes.items c.laid.result.now.value.tree
    c.hosts.result.now c.self.inside.rows c.begin_first.new.rows c.self.invariant
    (rw c.laid.ensures.value c.laid.ensures.bound)
    (subst (λ (v : State). v.is_open ≡ false) (sym c.self.view_is) c.requires.closed)
    refl
    (subst (λ (v : State). has_batch_left v.sizes_left ≡ false) (sym c.self.view_is) c.requires.none)
    (subst (λ (v : State). v.play ≤ c.args.number) (sym c.self.view_is) c.requires.least)
    c.requires.below
    c.requires.few
    c.in_ok-begin_first.ensures.ok)
