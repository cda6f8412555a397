use Rattle.pb_facts.proofs.Applying.{gathered_on}
use Rattle.pb_facts.proofs.layer.GatheredLayer.with_entries.Goals as goal

pub returns-clause-log : goal.returns-clause-log
returns-clause-log c =
    gathered_on c.args.self.now c.in_ok-layer.layer c.in_ok-log.log.items c.in_ok-facts.facts c.put_entries.new.set c.in_ok-facts.ensures c.names_are_ordered.ensures c.in_ok-log.ensures.log c.in_ok-layer.ensures
