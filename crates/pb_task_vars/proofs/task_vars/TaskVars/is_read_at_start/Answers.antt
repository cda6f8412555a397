use Rattle.pb_task_vars.proofs.ReadHosts.{items_unseen, layers_in}
use Rattle.pb_task_vars.proofs.task_vars.TaskVars.is_read_at_start.Goals as goal

pub returns-then-is_free : goal.returns-then-is_free
returns-then-is_free c = λ unread one other same.
    let sight = c.self.inside in
    items_unseen c.args.self.now sight.has_facts_program sight.place.now sight.layers sight.magic _ _ _ one other c.self.view_is c.task-task.ensures c.conditions-conditions.ensures c.delegate_to-delegate_to.ensures
    (c.may_read_by_itself.ensures.items unread sight.layers (layers_in c.args.self.now sight.has_facts_program sight.place.now sight.layers sight.magic c.self.view_is (c.requires c.if-is_free.true))
    sight.has_facts_program one other same)

pub returns : goal.returns
returns c = λ unread one other same.
    let sight = c.self.inside in
    items_unseen c.args.self.now sight.has_facts_program sight.place.now sight.layers sight.magic _ _ _ one other c.self.view_is c.task-task.ensures c.conditions-conditions.ensures c.delegate_to-delegate_to.ensures
    (c.may_read.ensures.items unread sight.has_facts_program one other same)
