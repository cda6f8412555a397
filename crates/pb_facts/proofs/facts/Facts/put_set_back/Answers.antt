use Rattle.pb_facts.proofs.Heard.{set_back}
use Rattle.pb_facts.proofs.facts.Facts.put_set_back.Goals as goal

pub returns : goal.returns
returns c = set_back c.self.inside.layer c.self.inside.set c.put_back.new.set c.args.self.now c.args.log.items c.self.view_is c.put_back.ensures
