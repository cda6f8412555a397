use Rattle.std.proofs.Common.{◌∙◌, ap}
use Rattle.pb_inventory.specs.Names.{texts}
use Rattle.pb_inventory.proofs.Texts.{texts-in_place}
use Rattle.pb_inventory.proofs.sorted.SortedNames.insert.Goals as goal

pub returns-clause-ok : goal.returns-clause-ok
returns-clause-ok c =
    rw (← c.self.view_is) (ap texts c.in_ok-insert.ensures.keys ∙ texts-in_place c.self.inside.set.keys c.args.name)
