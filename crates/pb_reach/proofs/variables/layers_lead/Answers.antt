use Rattle.std.proofs.Common.{refl}
use Rattle.pb_layers.specs.Merged.{merged}
use Rattle.pb_reach.proofs.Appended.{both_parts, first_part, second_part}
use Rattle.pb_reach.proofs.variables.layers_lead.Goals as goal

pub returns-then-some_lead : goal.returns-then-some_lead
returns-then-some_lead c =
    let i = c.layers.inside in
    first_part c.some_lead.result _ _ c.if-some_lead.true
    (both_parts c.args.name.now i.role_defaults.now (merged i.group_variables) i.host_variables.now i.host_facts.now i.play_variables.now i.role_variables.now i.block_variables.now i.task_variables.now i.set_facts.now
    i.role_parameters.now i.extra_variables.now c.args.layers.now c.some_lead.result _ c.layers.view_is c.some_lead.ensures refl)

pub returns-else-some_lead : goal.returns-else-some_lead
returns-else-some_lead c =
    let i = c.layers.inside in
    second_part c.some_lead.result _ _ c.if-some_lead.false
    (both_parts c.args.name.now i.role_defaults.now (merged i.group_variables) i.host_variables.now i.host_facts.now i.play_variables.now i.role_variables.now i.block_variables.now i.task_variables.now i.set_facts.now
    i.role_parameters.now i.extra_variables.now c.args.layers.now c.some_lead.result c.lowest_lead.result c.layers.view_is c.some_lead.ensures c.lowest_lead.ensures)
