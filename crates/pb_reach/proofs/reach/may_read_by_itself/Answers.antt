use Rattle.std.proofs.Common.{sym, ◌∙◌}
use Rattle.std.specs.Option.{option_copied}
use Rattle.pb_reach.proofs.Alone.{items_alone}
use Rattle.pb_reach.proofs.reach.may_read_by_itself.Goals as goal

pub returns-clause-items : goal.returns-clause-items
returns-clause-items c = λ unread layers none program magic other same.
    items_alone c.args.word.now c.requires c.args.task.now c.args.conditions.now (option_copied c.args.delegate_to) (sym c.own_texts_mention.ensures ∙ unread) layers none program magic other same
