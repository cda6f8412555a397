use Rattle.std.proofs.Common.{rules, refl, sym, ap, ◌∙◌, arith}
use Rattle.pb_forks.specs.Views.{fork_of}
use Rattle.pb_forks.proofs.Carry.{put_in, carries, was, took_is}
use Rattle.pb_forks.proofs.Moves.{fork_looks, fork_takes, fork_lays}
use Rattle.pb_forks.proofs.seats.Pool.try_take.Goals as goal

pub load-found-requires : goal.load-found-requires
load-found-requires g c = let fork = c.args.fork.now in (search rules, search rules, fork_looks g.A.Allows.allows _ _ _ _ _ _ fork.is_fork fork.bare)

pub swap-requires : goal.swap-requires
swap-requires g c = let stepped = c.load-found.ensures.2 in (search rules, search rules, fork_takes g.A.Allows.allows _ _ _ _ _ _ _ stepped.0 (stepped.1 ∙ c.args.fork.now.bare) (omega arith) refl)

pub exchange-requires : goal.exchange-requires
exchange-requires g c = (search rules, carries _ _ _ _ c.swap.ensures.2.3)

pub load-requires : goal.load-requires
load-requires g c =
    let stepped = c.swap.ensures.2 in
    let held = put_in _ _ _ _ _ _ _ stepped.2 stepped.3 (c.load-found.ensures.2.1 ∙ c.args.fork.now.bare) c.exchange.ensures.3 in
    (search rules, search rules, fork_lays g.A.Allows.allows _ _ _ _ _ _ held.0 held.1 (omega arith))

pub returns-clause-looked : goal.returns-clause-looked
returns-clause-looked g c =
    let stepped = c.swap.ensures.2 in
    took_is _ _ stepped.0 _ c.args.fork.now.seat.me.0 _ _ _ _ c.load-found.ensures.2.0 stepped.2 (ap (λ z. z.0) c.exchange.ensures.3) c.load.ensures.2.0 (ap (λ z. (fork_of z).seen) (sym c.load-found.ensures.2.0) ∙ stepped.1) _ (was _ _ _ _ _ (sym stepped.3 ∙ c.exchange.ensures.2)) c.job_in-job.ensures
