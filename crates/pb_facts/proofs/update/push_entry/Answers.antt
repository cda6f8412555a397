use Rattle.pb_facts.proofs.Applying.{entry_more}
use Rattle.pb_facts.proofs.update.push_entry.Goals as goal

pub returns : goal.returns
returns c =
    entry_more c.args.entries.now.items c.push.new.self.items c.in_ok-copy.copy c.args.name.now c.args.value c.in_ok-copy.ensures.ok c.in_ok-push.ensures.items
