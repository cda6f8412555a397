use Rattle.std.proofs.Common.{sym, ◌∙◌}
use Rattle.std.specs.Option.{option_copied}
use Rattle.pb_reach.proofs.OwnItems.{items_same}
use Rattle.pb_reach.proofs.reach.may_read.Goals as goal

pub returns-clause-items : goal.returns-clause-items
returns-clause-items c = λ unread program magic other same.
    items_same c.args.word.now c.requires c.args.task.now c.args.conditions.now (option_copied c.args.delegate_to) c.args.layers.now (sym c.reads.ensures ∙ unread) program magic other same
