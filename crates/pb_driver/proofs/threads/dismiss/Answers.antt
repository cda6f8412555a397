use Rattle.std.proofs.Common.{◌∙◌, length, sym, subst, ap}
use Rattle.std.specs.Prelude.{All}
use Rattle.pb_forks.specs.Seats.{forks_of, IsEachOnce, IsForkOf}
use Rattle.pb_driver.proofs.Working.{seats_each, seats_many, seats_once, shares}
use Rattle.pb_driver.proofs.threads.dismiss.Goals as goal

pub close-requires-clause-forks : goal.close-requires-clause-forks
close-requires-clause-forks g c = subst (All (IsForkOf c.args.pool)) (sym c.part_all.ensures.seats) (seats_each c.args.pool c.args.workers.items c.requires.workers.0)

pub close-requires-clause-each_once : goal.close-requires-clause-each_once
close-requires-clause-each_once g c = subst (IsEachOnce (forks_of c.args.pool)) (sym c.part_all.ensures.seats) (seats_once (forks_of c.args.pool) c.args.workers.items c.requires.workers.1)

pub returns-clause-many : goal.returns-clause-many
returns-clause-many g c = ap length c.part_all.ensures.runners ∙ seats_many (forks_of c.args.pool) c.args.workers.items c.requires.workers.1

pub returns-clause-shares : goal.returns-clause-shares
returns-clause-shares g c = λ before paired left.
    shares g.N.Runner.ran c.args.pool g.N.Allows.allows before c.args.workers.items c.args.main c.close.result c.part_all.new.seats.items c.part_all.new.runners.items paired left c.part_all.ensures.seats c.part_all.ensures.runners
    c.close.ensures.main.0 c.close.ensures.joined c.close.ensures.ended c.close.ensures.shut
