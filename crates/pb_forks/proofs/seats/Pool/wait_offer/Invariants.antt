use Rattle.std.proofs.Common.{◌≡◌}
use Rattle.pb_forks.specs.Views.{fork_of, ForkStays}
use Rattle.pb_forks.proofs.seats.Pool.wait_offer.Given as goal

abbrev pub invariant-loop : goal.invariant-loop
invariant-loop g l =
    (l.fork.seat.table_id ≡ l.initial.fork.seat.table_id) × (l.fork.fork ≡ l.initial.fork.fork) × ForkStays (fork_of l.initial.fork.seat.me.0) (fork_of l.fork.seat.me.0)
