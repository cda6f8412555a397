use Rattle.std.proofs.Common.{rules, ap, ◌∙◌, sym, subst, arith}
use Rattle.atomic_table.specs.Table.{Joins}
use Rattle.pb_forks.specs.declared.views.View.{View}
use Rattle.pb_forks.specs.declared.views.View.TheVariants.{Spent}
use Rattle.pb_forks.specs.Rule.{Kept}
use Rattle.pb_forks.specs.Views.{main_of, fork_of, joined}
use Rattle.pb_forks.proofs.SplitsJoins.{joins}
use Rattle.pb_forks.proofs.seats.Pool.join.Goals as goal

pub join_seat-requires : goal.join_seat-requires
join_seat-requires g c =
    let main = c.args.main.now in
    let fork = c.args.fork in
    let seat = c.into_seat-seat.result in
    let is_fork = ap (λ z. z.me.0) c.into_seat-seat.ensures ∙ fork.is_fork in
    let pool = c.args.self.now in
    let w = pool.sized.0 in let some = pool.some_fork in (
      search rules,
      search rules,
      search rules,
      omega arith,
      subst (λ (z : View × View). Joins (Kept g.A.Allows.allows pool.table.shared.key) main.seat.id z.0 seat.id z.1 (joined z.0 z.1) Spent) (λ i. (sym main.is_main i, sym is_fork i))
          (joins g.A.Allows.allows pool.table.shared.key main.seat.id (main_of main.seat.me.0) seat.id fork.fork (fork_of fork.seat.me.0)),
    )
