use Rattle.pb_engine.proofs.Members.{member}
use Rattle.pb_engine.proofs.picker.next_round.Goals as goal

pub returns-in-Some-clause-member : goal.returns-in-Some-clause-member
returns-in-Some-clause-member c = member c.args.ready.now c.args.from c.in-Some.host.0 c.in-Some.ensures.some
