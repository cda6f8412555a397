use Rattle.std.proofs.Common.{◌≡◌, ◌∙◌, ℕ, ◌<◌, List, get_or, subst, sym, ap, arith, length}
use Rattle.std.specs.Prelude.{All}
use Rattle.std.specs.Mem.Slots.{slots_items}
use Rattle.pb_forks.specs.declared.seats.ForkSeat.{ForkSeat}
use Rattle.pb_forks.specs.declared.views.ForkView.{ForkView}
use Rattle.pb_forks.specs.declared.views.MainView.{MainView}
use Rattle.pb_forks.specs.declared.views.Lodged.TheVariants.{Here, Away}
use Rattle.pb_forks.specs.declared.views.View.{View}
use Rattle.pb_forks.specs.Views.{main_of, fork_of}
use Rattle.pb_forks.specs.Ends.{EndedFork, IsJoined}
use Rattle.pb_forks.specs.Logs.{Rises}
use Rattle.pb_forks.specs.Seats.{rejoin}
use Rattle.pb_forks.proofs.AtEnd.{ended_fork, equal_when_shut, rejoin_log, rejoin_seen, joined_all, joined_at, parts_at_end, rises_at_end}
use Rattle.pb_forks.proofs.seats.Pool.close.Goals as goal

pub returns-clause-main : goal.returns-clause-main
returns-clause-main g c =
    let view = ap (λ z. main_of z.me.0) (c.of-view.ensures ∙ c.into_seat-seat.ensures) ∙ c.join_all-joined.ensures.1 in
    (ap (λ (m : MainView). m.log) view ∙ rejoin_log c.args.forks.items (main_of c.args.main.seat.me.0), ap (λ (m : MainView). m.seen) view ∙ rejoin_seen c.args.forks.items (main_of c.args.main.seat.me.0))

pub returns-clause-joined : goal.returns-clause-joined
returns-clause-joined g c =
    let pool = c.args.self in
    let main = c.join_all-joined.result in
    let view = ap (λ z. main_of z.me.0) (c.of-view.ensures ∙ c.into_seat-seat.ensures) ∙ c.join_all-joined.ensures.1 in
    let keyed = pool.keyed in
    let same : c.into_table-table.result.shared.key ≡ pool.table.shared.key = ap (λ z. z.shared.key) c.into_table-table.ensures in
    let long = parts_at_end g.A.Allows.allows c.into_table-table.result.shared.key _ _ _ _ (main_of main.seat.me.0) (ap (λ z. z.me.0) c.into_seat-seat.ensures ∙ main.is_main) c.close_with-closed.ensures.values.2 in
    let rejoined = ap (λ (m : MainView). length m.parts) c.join_all-joined.ensures.1 in
    subst (λ (m : MainView). All (λ (s : ForkSeat). IsJoined m s.fork (fork_of s.seat.me.0)) c.args.forks.items) (sym view) (joined_all c.args.forks.items pool.forks _ c.requires.each_once (omega arith))

pub returns-clause-ended : goal.returns-clause-ended
returns-clause-ended g c = λ j lt.
    let pool = c.args.self in
    let main = c.join_all-joined.result in
    let view : c.of-view.result.value.me.0 ≡ main.seat.me.0 = ap (λ z. z.me.0) (c.of-view.ensures ∙ c.into_seat-seat.ensures) in
    let words : slots_items c.of-end.result.value.words ≡ slots_items c.close_with-closed.result.words = ap (λ z. slots_items z.words) c.of-end.ensures in
    let table = c.into_table-table.result in
    let keyed = pool.keyed in
    let same : table.shared.key ≡ pool.table.shared.key = ap (λ z. z.shared.key) c.into_table-table.ensures in
    let long = parts_at_end g.A.Allows.allows table.shared.key _ _ _ _ (main_of main.seat.me.0) (ap (λ z. z.me.0) c.into_seat-seat.ensures ∙ main.is_main) c.close_with-closed.ensures.values.2 in
    let rejoined = ap (λ (m : MainView). length m.parts) c.join_all-joined.ensures.1 in
    let before = main_of c.args.main.seat.me.0 in
    let wide : length (rejoin c.args.forks.items before).parts ≡ pool.forks = omega arith in
    let at : (p : ForkView) × IsJoined (rejoin c.args.forks.items before) j p = joined_at c.args.forks.items pool.forks before c.requires.each_once wide j lt in
    let below : j < table.shared.key = omega arith in
    let here : get_or (main_of main.seat.me.0).parts j Away ≡ Here at.0 = ap (λ (m : MainView). get_or m.parts j Away) c.join_all-joined.ensures.1 ∙ at.1 in
    let is = ended_fork g.A.Allows.allows table.shared.key _ _ _ _ (main_of main.seat.me.0) (ap (λ z. z.me.0) c.into_seat-seat.ensures ∙ main.is_main) c.close_with-closed.ensures.values.2 j at.0 below here in
    subst (λ (z : View × List ℕ). (p : ForkView) × IsJoined (main_of z.0) j p × EndedFork g.A.Allows.allows j (get_or z.1 j 0) (main_of z.0) p) (λ i. (sym view i, sym words i)) (at.0, here, is)

pub returns-clause-shut : goal.returns-clause-shut
returns-clause-shut g c = λ j lt four.
    let t = returns-clause-ended g c j lt in
    let view = ap (λ z. main_of z.me.0) (c.of-view.ensures ∙ c.into_seat-seat.ensures) ∙ c.join_all-joined.ensures.1 in
    let seen = ap (λ (m : MainView). get_or m.seen j 0) view ∙ ap (λ l. get_or l j 0) (rejoin_seen c.args.forks.items (main_of c.args.main.seat.me.0)) in
    let e = equal_when_shut g.A.Allows.allows j _ _ t.0 (seen ∙ four) t.2 in
    (e.0, t.0, t.1, e.1)

pub returns-clause-rises : goal.returns-clause-rises
returns-clause-rises g c =
    let main = c.join_all-joined.result in
    let view : c.of-view.result.value.me.0 ≡ main.seat.me.0 = ap (λ z. z.me.0) (c.of-view.ensures ∙ c.into_seat-seat.ensures) in
    subst (λ (z : View). Rises 0 (main_of z).log) (sym view) (rises_at_end g.A.Allows.allows c.into_table-table.result.shared.key _ _ _ _ (main_of main.seat.me.0) (ap (λ z. z.me.0) c.into_seat-seat.ensures ∙ main.is_main) c.close_with-closed.ensures.values.2)
