use Rattle.std.proofs.Common.{◌≡◌}
use Rattle.pb_forks.specs.Views.{main_of, MainStays}
use Rattle.pb_forks.proofs.seats.Pool.collect_any.Given as goal

abbrev pub invariant-loop : goal.invariant-loop
invariant-loop g l = (l.main.seat.table_id ≡ l.initial.main.seat.table_id) × MainStays (main_of l.initial.main.seat.me.0) (main_of l.main.seat.me.0)

abbrev pub invariant-loop-j : goal.invariant-loop-j
invariant-loop-j g l = (l.main.seat.table_id ≡ l.initial.main.seat.table_id) × MainStays (main_of l.initial.main.seat.me.0) (main_of l.main.seat.me.0)
