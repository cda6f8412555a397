use Rattle.pb_tree.proofs.Ordered.{paths_rise}
use Rattle.pb_tree.proofs.tree.PlayTree.place.Goals as goal

pub returns-clause-rise : goal.returns-clause-rise
returns-clause-rise c = paths_rise c.args.self.now
