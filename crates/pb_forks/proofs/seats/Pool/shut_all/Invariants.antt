use Rattle.std.proofs.Common.{◌≡◌}
use Rattle.pb_forks.specs.Views.{main_of, WasShut}
use Rattle.pb_forks.proofs.seats.Pool.shut_all.Given as goal

abbrev pub invariant-loop-fork : goal.invariant-loop-fork
invariant-loop-fork g l = (l.main.seat.table_id ≡ l.initial.main.seat.table_id) × WasShut l.fork (main_of l.initial.main.seat.me.0) (main_of l.main.seat.me.0)
