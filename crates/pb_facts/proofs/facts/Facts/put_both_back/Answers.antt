use Rattle.pb_facts.proofs.Heard.{layer_back}
use Rattle.pb_facts.proofs.facts.Facts.put_both_back.Goals as goal

pub returns : goal.returns
returns c = layer_back c.self.inside.layer c.args.layer c.self.inside.set c.put_back.new.set c.args.self.now c.args.stood.items c.self.view_is c.put_back.ensures
