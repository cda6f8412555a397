use Rattle.std.proofs.Common.{refl}
use Rattle.pb_reach.specs.Reach.{start_from}
use Rattle.pb_task_vars.specs.Results.{layers_within}
use Rattle.pb_task_vars.proofs.ReadHosts.{attempts_of_place, attempts_seeing}
use Rattle.pb_task_vars.proofs.AttemptsUnread.{attempts_alike}
use Rattle.pb_task_vars.proofs.site.Site.result_reads.Goals as goal

pub returns-then-not-has_result_conditions : goal.returns-then-not-has_result_conditions
returns-then-not-has_result_conditions c = λ unread one other value attempt item same.
    let site = c.args.self.now in
    let place = c.args.place.now in
    attempts_alike site.plan.now.has_facts_program place (layers_within site.plan.now site.play.now site.host.0 site.facts.now place.role place.block_vars place.task.vars)
    c.task-task.result.now one other value attempt item c.task-task.ensures (c.has_result_conditions.ensures.silent c.if-not-has_result_conditions.true)

pub returns-then-is_free : goal.returns-then-is_free
returns-then-is_free c = λ unread one other value attempt item same.
    let site = c.args.self.now in
    let place = c.args.place.now in
    let seen = layers_within site.plan.now site.play.now site.host.0 site.facts.now place.role place.block_vars place.task.vars in
    attempts_of_place site.plan.now.has_facts_program place seen c.task-task.result.now one other value attempt item c.task-task.ensures
    (c.may_read_of_result_by_itself.ensures.results unread (start_from c.task-task.result.now place.conditions place.delegate_to site.plan.now.has_facts_program seen one) other value attempt item refl
    (c.requires.is_free c.if-is_free.true) same)

pub returns : goal.returns
returns c = λ unread.
    let site = c.args.self.now in
    attempts_seeing site.plan.now site.play.now site.host.0 site.facts.now c.args.place.now _ c.of-sight.ensures (c.is_read_of_result.ensures unread)
