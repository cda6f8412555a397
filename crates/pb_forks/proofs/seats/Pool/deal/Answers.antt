use Rattle.std.proofs.Common.{rules, ◌≡◌, ◌<◌, get_or, sym, subst, arith}
use Rattle.pb_forks.specs.declared.views.Lodged.TheVariants.{Here, Away}
use Rattle.atomic_table.specs.Table.{Splits}
use Rattle.pb_forks.specs.Rule.{Kept}
use Rattle.pb_forks.specs.Views.{main_of, fresh, dealt, next_fork}
use Rattle.pb_forks.proofs.SplitsJoins.{splits}
use Rattle.pb_forks.proofs.seats.Pool.deal.Goals as goal

pub split_seat-seat-requires : goal.split_seat-seat-requires
split_seat-seat-requires g c =
    let main = c.args.main.now in
    let pool = c.args.self.now in
    let h = pool.keyed in let f = c.requires.fork.0 in let w = pool.sized.0 in let some = pool.some_fork in
    let lt : c.args.fork < pool.table.shared.key = omega arith in
    let next = c.requires.fork.1 in (
      search rules,
      omega arith,
      subst (λ v. Splits (Kept g.A.Allows.allows pool.table.shared.key) main.seat.id v (dealt v) (next_fork v)) (sym main.is_main)
          (splits g.A.Allows.allows pool.table.shared.key main.seat.id (main_of main.seat.me.0) fresh (omega arith) (subst (λ n. get_or (main_of main.seat.me.0).parts n Away ≡ Here fresh) (sym next) c.requires.fork.2)),
    )
