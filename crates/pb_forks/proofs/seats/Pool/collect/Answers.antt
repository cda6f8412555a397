use Rattle.std.proofs.Common.{rules, ◌≡◌, ◌%◌, length, get_or, get_or-set_same, subst, refl, sym, ap, ◌∙◌, arith}
use Rattle.pb_forks.specs.Views.{main_of, main_looked}
use Rattle.pb_forks.specs.Logs.{offers_of, Fits}
use Rattle.pb_forks.proofs.Carry.{put_in, carries, set_zero, was, collected_is, same_report}
use Rattle.pb_forks.proofs.Moves.{main_looks, main_collects, main_lays}
use Rattle.pb_forks.proofs.seats.Pool.collect.Goals as goal

pub load-found-requires : goal.load-found-requires
load-found-requires g c =
    let main = c.args.main.now in
    let h = c.args.self.now.keyed in let f = c.requires.fork in
    (search rules, search rules, main_looks g.A.Allows.allows _ _ _ _ _ _ (omega arith) main.is_main main.bare)

pub swap-requires : goal.swap-requires
swap-requires g c =
    let main = c.args.main.now in
    let h = c.args.self.now.keyed in let f = c.requires.fork in
    let stepped = c.load-found.ensures.2 in
    let three = c.if-found-ne3.false in
    let wide : length (main_of main.seat.me.0).seen ≡ main.seat.table_id.words = ap length main.remembers ∙ main.sees_all in
    let words : main.seat.table_id.words ≡ c.args.self.now.table.shared.table_id.words = ap (λ z. z.words) c.requires.seat in
    let sized = c.args.self.now.sized.0 in
    let same = get_or-set_same (main_of main.seat.me.0).seen c.args.fork c.load-found.result 0 (omega arith) in
    (search rules, search rules, main_collects g.A.Allows.allows _ _ _ _ _ (main_looked c.args.fork c.load-found.result (main_of main.seat.me.0)) (omega arith) stepped.0 (stepped.1 ∙ main.bare) (ap (λ z. z % 4) same ∙ omega arith) main.free)

pub exchange-requires : goal.exchange-requires
exchange-requires g c = (search rules, carries _ _ _ _ c.swap.ensures.2.5)

pub load-requires : goal.load-requires
load-requires g c =
    let main = c.args.main.now in
    let h = c.args.self.now.keyed in let f = c.requires.fork in
    let stepped = c.swap.ensures.2 in
    let held = put_in _ _ _ _ _ _ _ stepped.4 stepped.5 (c.load-found.ensures.2.1 ∙ main.bare) c.exchange.ensures.3 in
    (search rules, search rules, main_lays g.A.Allows.allows _ _ _ _ _ _ (omega arith) held.0 held.1 (set_zero (main_of c.load-found.new.seat.me.0).seen c.args.fork) refl)

pub returns-clause-looked : goal.returns-clause-looked
returns-clause-looked g c =
    let main = c.args.main.now in
    let stepped = c.swap.ensures.2 in
    let f = c.requires.fork in
    let wide : length (main_of main.seat.me.0).seen ≡ main.seat.table_id.words = ap length main.remembers ∙ main.sees_all in
    let words : main.seat.table_id.words ≡ c.args.self.now.table.shared.table_id.words = ap (λ z. z.words) c.requires.seat in
    let sized = c.args.self.now.sized.0 in
    let same = get_or-set_same (main_of main.seat.me.0).seen c.args.fork c.load-found.result 0 (omega arith) in
    let report = same_report stepped.0 _ _ (was _ _ _ _ _ (sym stepped.5 ∙ c.exchange.ensures.2)) c.report_in-report.ensures in
    let found = sym same ∙ (ap (λ z. get_or (main_of z).seen c.args.fork 0) (sym c.load-found.ensures.2.0) ∙ stepped.1) in
    let log = ap (λ z. offers_of c.args.fork (main_of z).log) (sym c.load-found.ensures.2.0) ∙ stepped.2.2 in
    (collected_is _ _ stepped.0 _ main.seat.me.0 _ _ _ _ c.load-found.ensures.2.0 stepped.4 (ap (λ z. z.0) c.exchange.ensures.3) c.load.ensures.2.0 found report, (stepped.2.0, stepped.2.1, log, subst (λ z. Fits g.A.Allows.allows stepped.2.1 z) report stepped.2.3))
