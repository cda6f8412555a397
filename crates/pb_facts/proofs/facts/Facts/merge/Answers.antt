use Rattle.pb_facts.proofs.Applying.{merged_in_place}
use Rattle.pb_facts.proofs.facts.Facts.merge.Goals as goal

pub returns-clause-ok : goal.returns-clause-ok
returns-clause-ok c = merged_in_place c.self.inside.layer c.in_ok-layer.layer c.self.inside.set c.args.given.now c.args.self.now c.self.view_is c.in_ok-layer.ensures
