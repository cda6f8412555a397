use Rattle.std.proofs.Common.{rules}
use Rattle.pb_engine.proofs.Runs.{first_width}
use Rattle.pb_engine.proofs.engine.Engine.new.Goals as goal

pub invariant_of-result : goal.invariant_of-result
invariant_of-result c = record {
  run = search rules;
  width = first_width c.args.plan c.args.pool_size c.forks-forks.result c.host_count.result c.in_ok-ready.ready c.in_ok-state.state c.in_ok-ready.ensures c.host_count.ensures.value c.in_ok-state.ensures;
  forks = search rules;
  known = search rules;
}
