use Rattle.std.proofs.Common.{◌≡◌, IfOk, subst}
use Rattle.pb_items.specs.Items.{items_of}
use Rattle.pb_task_vars.proofs.site.Site.items_for.Goals as goal

pub returns-clause-value : goal.returns-clause-value
returns-clause-value c = subst (λ start. IfOk c.items.result (λ items. items ≡ items_of start)) c.of-sight.ensures c.items.ensures.value
