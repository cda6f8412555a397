use Rattle.pb_engine.proofs.Members.{member}
use Rattle.pb_engine.proofs.picker.LowestPicker.pick.Goals as goal

pub returns-clause-member : goal.returns-clause-member
returns-clause-member c = member c.args.ready.now 0 c.in-Some.host.0 c.in-Some.ensures.some
