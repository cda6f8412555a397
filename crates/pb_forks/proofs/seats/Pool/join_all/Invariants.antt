use Rattle.std.proofs.Common.{◌≡◌}
use Rattle.pb_forks.specs.Views.{main_of}
use Rattle.pb_forks.specs.Seats.{rejoin}
use Rattle.pb_forks.proofs.seats.Pool.join_all.Given as goal

abbrev pub invariant-loop-fork : goal.invariant-loop-fork
invariant-loop-fork g l =
    (l.main.seat.table_id ≡ l.initial.main.seat.table_id)
    × (main_of l.main.seat.me.0 ≡ rejoin l.yielded (main_of l.initial.main.seat.me.0))
