use Rattle.std.proofs.Common.{get_or, ap, ◌∙◌, le_refl}
use Rattle.pb_forks.specs.declared.views.Lodged.TheVariants.{Away}
use Rattle.pb_forks.proofs.SplitsJoins.{deals-next, deals-here}
use Rattle.pb_forks.proofs.seats.Pool.deal_all.Goals as goal

pub deal-seat-requires-clause-fork : goal.deal-seat-requires-clause-fork
deal-seat-requires-clause-fork g c =
    let view = c.loop-fork.invariant.1 in
    let lt = c.loop-fork-test.true in
    (lt, ap (λ m. m.next) view ∙ deals-next c.loop-fork.fork c.args.self.now.forks, ap (λ m. get_or m.parts c.loop-fork.fork Away) view ∙ deals-here c.loop-fork.fork c.args.self.now.forks c.loop-fork.fork (le_refl _) lt)
