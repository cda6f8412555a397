use Rattle.std.proofs.Common.{rules, ◌≡◌, ◌∙◌, ap, length, arith}
use Rattle.pb_forks.specs.Views.{main_of}
use Rattle.pb_forks.proofs.Idle.{idle_shut}
use Rattle.pb_forks.proofs.Out.{out_shut}
use Rattle.pb_forks.proofs.Moves.{main_shuts}
use Rattle.pb_forks.proofs.seats.Pool.shut.Goals as goal

pub swap-requires : goal.swap-requires
swap-requires g c =
    let main = c.args.main.now in
    let h = c.args.self.now.keyed in let f = c.requires.fork in
    (search rules, search rules, main_shuts g.A.Allows.allows _ _ _ _ _ _ (omega arith) main.is_main main.bare c.requires.idle)

pub returns-clause-idle : goal.returns-clause-idle
returns-clause-idle g c =
    let main = c.args.main.now in
    let f = c.requires.fork in
    let wide : length (main_of main.seat.me.0).seen ≡ main.seat.table_id.words = ap length main.remembers ∙ main.sees_all in
    let words : main.seat.table_id.words ≡ c.args.self.now.table.shared.table_id.words = ap (λ z. z.words) c.requires.seat in
    let sized = c.args.self.now.sized.0 in
    idle_shut c.args.fork (main_of main.seat.me.0) _ (omega arith) c.requires.idle (ap main_of c.swap.ensures.2.0)

pub returns-clause-out : goal.returns-clause-out
returns-clause-out g c =
    let main = c.args.main.now in
    let f = c.requires.fork in
    let wide : length (main_of main.seat.me.0).seen ≡ main.seat.table_id.words = ap length main.remembers ∙ main.sees_all in
    let words : main.seat.table_id.words ≡ c.args.self.now.table.shared.table_id.words = ap (λ z. z.words) c.requires.seat in
    let sized = c.args.self.now.sized.0 in
    out_shut c.args.fork (main_of main.seat.me.0) _ (omega arith) c.requires.idle (ap main_of c.swap.ensures.2.0)
