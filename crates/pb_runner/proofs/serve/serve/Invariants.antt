use Rattle.pb_forks.specs.Seats.{fork_view, IsSameFork}
use Rattle.pb_runner.specs.Served.{HasServed}
use Rattle.pb_runner.proofs.serve.serve.Given as goal

abbrev pub invariant-loop : goal.invariant-loop
invariant-loop g l = record {
  same : IsSameFork l.fn.seat l.seat;
  served : HasServed g.N.Runner.ran l.fn.runner l.runner (fork_view l.fn.seat) (fork_view l.seat);
}
