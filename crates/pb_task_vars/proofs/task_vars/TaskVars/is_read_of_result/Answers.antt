use Rattle.std.proofs.Common.{refl}
use Rattle.pb_reach.specs.Reach.{start_from}
use Rattle.pb_task_vars.proofs.ReadHosts.{attempts_unseen}
use Rattle.pb_task_vars.proofs.task_vars.TaskVars.is_read_of_result.Goals as goal

pub returns : goal.returns
returns c = λ unread one other value attempt item same.
    let sight = c.self.inside in
    let place = sight.place.now in
    attempts_unseen c.args.self.now sight.has_facts_program place sight.layers sight.magic c.task.result.now one other value attempt item c.self.view_is c.task.ensures
    (c.may_read_of_result.ensures.results unread (start_from c.task.result.now place.conditions place.delegate_to sight.has_facts_program sight.layers one) other value attempt item refl refl same)
