use Rattle.std.proofs.Common.{rules, ◌≡◌, ◌+◌, ◌*◌, set, length, refl, sym, ap, ◌∙◌, arith, length-set}
use Rattle.pb_forks.specs.Views.{main_of, main_hand, main_did}
use Rattle.pb_forks.specs.declared.views.Entry.TheVariants.{Offered}
use Rattle.pb_forks.proofs.Above.{above_offered}
use Rattle.pb_forks.proofs.Idle.{idle_offered}
use Rattle.pb_forks.proofs.Out.{out_offered}
use Rattle.pb_forks.proofs.Carry.{put_in, is_main}
use Rattle.pb_forks.proofs.Moves.{main_grabs, main_offers}
use Rattle.pb_forks.proofs.seats.Pool.offer.Goals as goal

pub load-requires : goal.load-requires
load-requires g c =
    let main = c.args.main.now in
    let h = c.args.self.now.keyed in let f = c.requires.fork in
    (search rules, search rules, main_grabs g.A.Allows.allows _ _ _ _ _ _ (omega arith) main.is_main main.bare c.requires.idle main.free)

pub swap-requires : goal.swap-requires
swap-requires g c =
    let main = c.args.main.now in
    let h = c.args.self.now.keyed in let f = c.requires.fork in
    let held = put_in _ _ _ _ _ _ _ c.load.ensures.2.0 c.load.ensures.2.1 main.bare c.exchange.ensures.3 in
    (search rules, search rules, main_offers g.A.Allows.allows _ _ _ _ _ (main_hand (c.args.fork + 1) (main_of main.seat.me.0)) c.args.job (omega arith) held.0 held.1 c.requires.idle refl c.requires.ticket.0 c.requires.ticket.1)

pub invariant_of-main : goal.invariant_of-main
invariant_of-main g c =
    let main = c.args.main.now in
    let held = put_in _ _ _ _ _ _ _ c.load.ensures.2.0 c.load.ensures.2.1 main.bare c.exchange.ensures.3 in
    let stepped = c.swap.ensures.2 c.args.job held.1 in
    let ids : c.swap.new.seat.table_id ≡ main.seat.table_id = c.swap.ensures.0 ∙ (c.exchange.ensures.0 ∙ c.load.ensures.0) in
    record {
      is_main = is_main _ _ stepped.0;
      bare = stepped.1;
      free = ap (λ z. (main_of z).hand) stepped.0;
      remembers = ap (λ z. (main_of z).seen) stepped.0 ∙ ap (λ ls. set ls c.args.fork (4 * c.args.job.ticket.0 + 1)) (ap (λ z. (main_of z).seen) held.0 ∙ main.remembers);
      sees_all = length-set main.seen.items c.args.fork (4 * c.args.job.ticket.0 + 1) ∙ (main.sees_all ∙ ap (λ z. z.words) (sym ids));
    }

pub returns-clause-idle : goal.returns-clause-idle
returns-clause-idle g c =
    let main = c.args.main.now in
    let f = c.requires.fork in
    let held = put_in _ _ _ _ _ _ _ c.load.ensures.2.0 c.load.ensures.2.1 main.bare c.exchange.ensures.3 in
    let stepped = c.swap.ensures.2 c.args.job held.1 in
    let wide : length (main_of main.seat.me.0).seen ≡ main.seat.table_id.words = ap length main.remembers ∙ main.sees_all in
    let words : main.seat.table_id.words ≡ c.args.self.now.table.shared.table_id.words = ap (λ z. z.words) c.requires.seat in
    let sized = c.args.self.now.sized.0 in
    idle_offered c.args.fork c.args.job (main_of main.seat.me.0) _ (omega arith) c.requires.idle
    (ap main_of stepped.0 ∙ ap (λ z. main_did c.args.fork (4 * c.args.job.ticket.0 + 1) 0 (Offered c.args.fork c.args.job) (main_of z)) held.0)

pub returns-clause-out : goal.returns-clause-out
returns-clause-out g c =
    let main = c.args.main.now in
    let f = c.requires.fork in
    let held = put_in _ _ _ _ _ _ _ c.load.ensures.2.0 c.load.ensures.2.1 main.bare c.exchange.ensures.3 in
    let stepped = c.swap.ensures.2 c.args.job held.1 in
    let wide : length (main_of main.seat.me.0).seen ≡ main.seat.table_id.words = ap length main.remembers ∙ main.sees_all in
    let words : main.seat.table_id.words ≡ c.args.self.now.table.shared.table_id.words = ap (λ z. z.words) c.requires.seat in
    let sized = c.args.self.now.sized.0 in
    out_offered c.args.fork c.args.job (main_of main.seat.me.0) _ (omega arith) c.requires.idle
    (ap main_of stepped.0 ∙ ap (λ z. main_did c.args.fork (4 * c.args.job.ticket.0 + 1) 0 (Offered c.args.fork c.args.job) (main_of z)) held.0)

pub returns-clause-above : goal.returns-clause-above
returns-clause-above g c =
    let main = c.args.main.now in
    let held = put_in _ _ _ _ _ _ _ c.load.ensures.2.0 c.load.ensures.2.1 main.bare c.exchange.ensures.3 in
    let stepped = c.swap.ensures.2 c.args.job held.1 in
    above_offered c.args.fork c.args.job (main_of main.seat.me.0) _ c.requires.ticket.0
    (ap main_of stepped.0 ∙ ap (λ z. main_did c.args.fork (4 * c.args.job.ticket.0 + 1) 0 (Offered c.args.fork c.args.job) (main_of z)) held.0)
