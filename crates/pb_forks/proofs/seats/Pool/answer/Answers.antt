use Rattle.std.proofs.Common.{rules, ◌≡◌, ◌+◌, ◌*◌, ◌<◌, subst, sym, ap, ◌∙◌, arith}
use Rattle.pb_forks.specs.Views.{fork_of}
use Rattle.pb_forks.proofs.Carry.{put_in, is_fork}
use Rattle.pb_forks.proofs.Moves.{fork_grabs, fork_answers}
use Rattle.pb_forks.proofs.seats.Pool.answer.Goals as goal

pub load-requires : goal.load-requires
load-requires g c = let fork = c.args.fork.now in let t = c.requires.taken in (search rules, search rules, fork_grabs g.A.Allows.allows _ _ _ _ _ _ fork.is_fork fork.bare (omega arith) fork.free)

pub swap-requires : goal.swap-requires
swap-requires g c =
    let stepped = c.load.ensures.2 in
    let t = c.requires.taken in
    let job = c.requires.answers in
    let held = put_in _ _ _ _ _ _ _ stepped.0 stepped.1 c.args.fork.now.bare c.exchange.ensures.3 in
    (search rules, search rules, fork_answers g.A.Allows.allows _ _ _ _ _ _ c.args.report job.0 job.1 _ held.0 held.1 (omega arith) (omega arith) job.2 job.3)

pub invariant_of-fork : goal.invariant_of-fork
invariant_of-fork g c =
    let fork = c.args.fork.now in
    let t = c.requires.taken in
    let low = fork.small in
    let held = put_in _ _ _ _ _ _ _ c.load.ensures.2.0 c.load.ensures.2.1 fork.bare c.exchange.ensures.3 in
    let stepped = c.swap.ensures.2 c.args.report held.1 in
    let ids : c.swap.new.seat.table_id ≡ fork.seat.table_id = c.swap.ensures.0 ∙ (c.exchange.ensures.0 ∙ c.load.ensures.0) in
    let seen : (fork_of c.swap.new.seat.me.0).seen ≡ 4 * c.args.report.ticket.0 + 3 = ap (λ z. (fork_of z).seen) stepped.0 in
    record {
      is_fork = is_fork _ _ _ stepped.0;
      bare = stepped.1;
      free = ap (λ z. (fork_of z).holds) stepped.0;
      small = omega arith;
      within = subst (λ z. fork.fork < z.words) (sym ids) fork.within;
    }
