use Rattle.pb_facts.proofs.Ordered.{dict_ordered}
use Rattle.pb_facts.proofs.reading.names_are_ordered.Goals as goal

pub returns : goal.returns
returns c = dict_ordered c.iter.result c.args.known.now c.iter.ensures.entries c.iter.ensures.ordered
