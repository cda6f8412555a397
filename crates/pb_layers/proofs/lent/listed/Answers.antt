use Rattle.std.proofs.Common.{rules, ◌≡◌}
use Rattle.pb_layers.proofs.LentMaps.{same_ordered}
use Rattle.pb_layers.proofs.lent.listed.Goals as goal

pub returns-clause-ordered : goal.returns-clause-ordered
returns-clause-ordered c =
    let same : c.loop-name.entries.items ≡ c.args.map.entries = search rules in
    same_ordered c.args.map.entries c.loop-name.entries.items same c.len.ensures.ordered
