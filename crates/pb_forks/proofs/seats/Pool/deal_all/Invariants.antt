use Rattle.std.proofs.Common.{◌≡◌, ◌≤◌, map, length, vec_capacity}
use Rattle.std.specs.Prelude.{All}
use Rattle.pb_forks.specs.Views.{main_of, first_main, deals, upto}
use Rattle.pb_forks.specs.Seats.{IsFreshOf, number}
use Rattle.pb_forks.proofs.seats.Pool.deal_all.Given as goal

abbrev pub invariant-loop-fork : goal.invariant-loop-fork
invariant-loop-fork g l =
    (l.main.seat.table_id ≡ l.self.table.shared.table_id)
    × (main_of l.main.seat.me.0 ≡ deals l.fork (first_main l.self.forks))
    × All (IsFreshOf l.self) l.seats.items
    × (map number l.seats.items ≡ upto l.fork)
    × (length l.seats.items ≡ l.fork)
    × (l.self.forks ≤ vec_capacity l.seats)
