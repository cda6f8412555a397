use Rattle.std.proofs.Common.{arith}
use Rattle.pb_state.proofs.BatchBounds.{first_bounded}
use Rattle.pb_state.proofs.state.EngineState.first.Goals as goal

pub invariant_of-result : goal.invariant_of-result
invariant_of-result c =
    first_bounded c.in_ok-rows.rows c.none.result c.host_count.result (omega (arith, c.host_count.ensures.value, c.host_count.ensures.bound)) (c.in_ok-rows.ensures) c.none.ensures
