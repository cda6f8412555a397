use Rattle.std.proofs.Common.{◌≡◌, IfOk, subst, sym}
use Rattle.pb_items.specs.Items.{attempted_item}
use Rattle.pb_task_vars.specs.Results.{layers_within, magic_of}
use Rattle.pb_task_vars.proofs.AttemptsUnread.{left_alone}
use Rattle.pb_task_vars.proofs.site.Site.came_for.Goals as goal

pub returns-then-not-has_result_conditions : goal.returns-then-not-has_result_conditions
returns-then-not-has_result_conditions c =
    let site = c.args.self.now in
    let place = c.args.place.now in
    sym
    (left_alone site.plan.now.has_facts_program place
    (layers_within site.plan.now site.play.now site.host.0 site.facts.now place.role place.block_vars place.task.vars)
    (magic_of site.plan.now site.play.now site.host.0) c.task.result.now c.args.value.now c.args.attempt c.args.item c.task.ensures (c.has_result_conditions.ensures.silent c.if-not-has_result_conditions.true))

pub returns : goal.returns
returns c =
    subst (λ start. IfOk c.attempted.result (λ back. back ≡ attempted_item start c.args.value.now c.args.attempt c.args.item)) c.of-sight.ensures c.attempted.ensures
