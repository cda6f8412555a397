use Rattle.pb_task_vars.proofs.Layered.{layered, sighted}
use Rattle.pb_task_vars.proofs.task_vars.TaskVars.of.Goals as goal

pub returns : goal.returns
returns c =
    let plan = c.args.plan.now in
    let play = c.args.play.now in
    let facts = c.args.facts.now in
    let place = c.args.place.now in
    let own = c.args.own.now in
    sighted plan play c.args.host.0 facts place own _ _ _ _ _ c.requires.own c.has_facts_program.ensures
    (layered plan play c.args.host.0 facts place own c.inventory-inventory.result.now c.role-role.result.now c.task-task.result.now _ _ _ _ _ _ _ c.requires.own c.variables.ensures c.inventory-inventory.ensures
    c.role-role.ensures c.block_vars-block_variables.ensures c.task-task.ensures c.host_vars.ensures c.gathered_layer.ensures c.vars.ensures c.set_layer.ensures c.extra.ensures)
    c.magic.ensures c.magic-2.ensures c.magic-3.ensures
