use Rattle.pb_state.proofs.FewBatches.{few_sizes}
use Rattle.pb_state.proofs.state.EngineState.begin_in.Goals as goal

pub begin_with-requires-clause-few : goal.begin_with-requires-clause-few
begin_with-requires-clause-few c =
    few_sizes c.in_ok-sizes.sizes.items c.serial.result.now.entries c.hosts.result.now c.as_slice.result.now c.play_host_count-hosts.result c.in_ok-sizes.ensures.sizes c.play_host_count-hosts.ensures
    (rw c.as_slice.ensures c.self.invariant.hosts)
