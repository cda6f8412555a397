use Rattle.std.specs.Option.{option_copied}
use Rattle.pb_task_vars.proofs.Unseeing.{constant_at}
use Rattle.pb_task_vars.proofs.site.Site.constant_items.Goals as goal

pub returns-clause-value : goal.returns-clause-value
returns-clause-value c =
    constant_at c.args.self.now.plan.now.has_facts_program c.has_facts_program.result c.args.place.now c.task.result.now c.conditions.result.now (option_copied c.delegate_to.result) c.in_ok-items.items _ _
    c.task.ensures c.conditions.ensures c.delegate_to.ensures (c.is_constant.ensures.items c.if-not-is_constant.false) c.has_facts_program.ensures c.in_ok-items.ensures.value
