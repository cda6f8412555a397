use Rattle.std.proofs.Common.{◌≡◌, ◌∙◌, List, Some, ap, is_some, subst, sym}
use Rattle.pb_facts.specs.Update.{applied, IsBetween}
use Rattle.pb_outcome.specs.declared.item.Item.{Item}
use Rattle.pb_task_vars.specs.Learning.{facts_after_end}
use Rattle.pb_host.specs.Back.{finish_run, went_on}
use Rattle.pb_host.specs.Handlers.{notified_by}
use Rattle.pb_host.specs.Host.{HostOf, finished}
use Rattle.pb_host.specs.Shown.{shown_by}
use Rattle.pb_host.specs.Walking.{answers_in, tree_in}
use Rattle.pb_host.proofs.Ending.{row_ended}
use Rattle.pb_host.proofs.host.Host.end_if_over.Goals as goal

pub returns-in_ok-gone-in-Some-clause-row : goal.returns-in_ok-gone-in-Some-clause-row
returns-in_ok-gone-in-Some-clause-row c =
    let inside = c.self.inside in
    let row : HostOf = record {
      host = inside.host.0;
      tree = tree_in inside.walk;
      answers = answers_in inside.walk;
      status = inside.status;
      in_batch = is_some inside.walk;
      awaits_batch = inside.awaits_batch;
      is_broken = inside.is_broken;
      running = inside.running;
      last = inside.last;
      facts = inside.facts;
      counts = inside.counts;
    } in
    let end = c.in_ok-end-in-Some.end in
    row_ended c.args.inventory.now c.args.play.now row c.finish.new.self c.in-Some.running end.task c.shown-shown.result.now (applied c.in_ok-update-in-Some.update inside.facts) c.in-Some.is
    (sym c.is_over.ensures ∙ c.if-not-is_over.false) c.in_ok-end-in-Some.ensures.task
    (c.shown-shown.ensures ∙ ap (λ (items : List Item). shown_by end.made items) c.as_slice-items.ensures.value ∙ c.in_ok-end-in-Some.ensures.shown)
    (c.in_ok-update-in-Some.ensures
    ∙ ap (λ (items : List Item). facts_after_end c.args.inventory.now c.args.play.now c.in-Some.running.place (Some inside.host.0) end.task.result c.shown-shown.result.now items inside.facts) c.as_slice-items.ensures.value)
    (subst
    (λ (old : HostOf).
    c.finish.new.self
    ≡ finished (finish_run c.args.play.now c.in-Some.running.place end.task old.running) end.task (notified_by c.args.play.now c.in-Some.running.place end.task) (applied c.in_ok-update-in-Some.update old.facts) old)
    (sym c.self.view_is) c.in_ok-gone-in-Some.ensures.ok)
    ∙ ap (went_on c.args.inventory.now c.args.play.now) (c.self.view_is ∙ c.share.ensures)

pub returns-in_ok-gone-in-Some-clause-past : goal.returns-in_ok-gone-in-Some-clause-past
returns-in_ok-gone-in-Some-clause-past c =
    subst (λ (old : HostOf). IsBetween c.in_ok-gone-in-Some.past old.facts c.finish.new.self.facts) c.share.ensures c.in_ok-gone-in-Some.ensures.past
