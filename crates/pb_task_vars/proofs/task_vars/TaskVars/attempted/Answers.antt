use Rattle.std.proofs.Common.{◌≡◌, IfOk, subst}
use Rattle.pb_items.specs.Items.{attempted_item}
use Rattle.pb_task_vars.proofs.task_vars.TaskVars.attempted.Goals as goal

pub returns : goal.returns
returns c = subst (λ start. IfOk c.attempted.result (λ back. back ≡ attempted_item start c.args.value.now c.args.attempt c.args.item)) c.start.ensures c.attempted.ensures
