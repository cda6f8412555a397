use Rattle.std.proofs.Common.{◌≡◌, ◌∙◌, ◌≤◌, true, false, length, subst, sym, refl, arith}
use Rattle.std.specs.Prelude.{Some}
use Rattle.std.specs.List.{list_any}
use Rattle.pb_state.specs.State.{State}
use Rattle.pb_host.specs.Runs.{is_running}
use Rattle.pb_state.proofs.TurnedBatch.{rows_turned, with_turn}
use Rattle.pb_state.proofs.BatchBounds.{turn_bounded}
use Rattle.pb_state.proofs.state.EngineState.turn_hosts.Goals.{then-halts, else-halts}
use Rattle.pb_state.proofs.state.EngineState.turn_hosts.Goals as goal

pub invariant_of-self-then-halts : goal.invariant_of-self-then-halts
invariant_of-self-then-halts c =
    let none : length c.drop_sizes.new.slot ≤ length c.self.inside.sizes_left = rw (c.drop_sizes.ensures, c.none.ensures) (omega arith) in
    turn_bounded c.self.inside.batch c.self.inside.sizes_left c.drop_sizes.new.slot c.self.inside.play c.self.inside.sends c.self.inside.is_open c.args.inventory.now c.args.play.now (Some c.args.place) c.self.inside.rows c.turn_rows.new.rows
    c.self.invariant (subst (λ (v : State). v.is_open ≡ true) (sym c.self.view_is) c.requires.open) (subst (λ (v : State). list_any is_running v.rows ≡ false) (sym c.self.view_is) c.requires.idle)
    (rows_turned c.args.inventory.now c.args.play.now c.args.place c.self.inside.rows c.turn_rows.new.rows c.self.inside.sizes_left c.in_ok-halts.ensures.rows) none

pub invariant_of-self-else-halts : goal.invariant_of-self-else-halts
invariant_of-self-else-halts c =
    turn_bounded c.self.inside.batch c.self.inside.sizes_left c.self.inside.sizes_left c.self.inside.play c.self.inside.sends c.self.inside.is_open c.args.inventory.now c.args.play.now (Some c.args.place) c.self.inside.rows c.turn_rows.new.rows
    c.self.invariant (subst (λ (v : State). v.is_open ≡ true) (sym c.self.view_is) c.requires.open) (subst (λ (v : State). list_any is_running v.rows ≡ false) (sym c.self.view_is) c.requires.idle)
    (rows_turned c.args.inventory.now c.args.play.now c.args.place c.self.inside.rows c.turn_rows.new.rows c.self.inside.sizes_left c.in_ok-halts.ensures.rows) (omega arith)

pub returns-clause-ok : goal.returns-clause-ok
returns-clause-ok c = elim c.if-halts.branch [
  | then-halts w ↦
      let halting : c.in_ok-halts.field-0.halts ≡ true = w.if-halts.true in
      w.self-is
      ∙ with_turn c.args.inventory.now c.args.play.now c.args.place c.args.self.now (record { rows = c.self.inside.rows; play = c.self.inside.play; batch = c.self.inside.batch; sizes_left = c.self.inside.sizes_left; is_open = c.self.inside.is_open; place = c.self.inside.place; begun = c.self.inside.begun.items; forks = c.self.inside.forks; pool = c.self.inside.pool; sends = c.self.inside.sends; stopped = c.self.inside.stopped; ended = c.self.inside.ended; step_result = c.self.inside.step_result }) c.self.inside.rows c.turn_rows.new.rows c.self.inside.sizes_left w.drop_sizes.new.slot c.in_ok-halts.field-0.halts (sym c.self.view_is) c.in_ok-halts.ensures.rows c.in_ok-halts.ensures.halts
      (rw (w.drop_sizes.ensures, w.none.ensures, halting) refl)
  | else-halts w ↦
      let halting : c.in_ok-halts.field-0.halts ≡ false = w.if-halts.false in
      w.self-is
      ∙ with_turn c.args.inventory.now c.args.play.now c.args.place c.args.self.now (record { rows = c.self.inside.rows; play = c.self.inside.play; batch = c.self.inside.batch; sizes_left = c.self.inside.sizes_left; is_open = c.self.inside.is_open; place = c.self.inside.place; begun = c.self.inside.begun.items; forks = c.self.inside.forks; pool = c.self.inside.pool; sends = c.self.inside.sends; stopped = c.self.inside.stopped; ended = c.self.inside.ended; step_result = c.self.inside.step_result }) c.self.inside.rows c.turn_rows.new.rows c.self.inside.sizes_left c.self.inside.sizes_left c.in_ok-halts.field-0.halts (sym c.self.view_is) c.in_ok-halts.ensures.rows c.in_ok-halts.ensures.halts
      (rw halting refl)
]
