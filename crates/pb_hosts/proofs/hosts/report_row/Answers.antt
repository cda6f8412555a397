use Rattle.std.proofs.Common.{◌≡◌, ◌∙◌, ◌-◌, ◌^◌, List, ap, refl, subst, sym}
use Rattle.std.specs.Prelude.{Option, None, IfSome, slice_get}
use Rattle.std.specs.Option.{option_map_or}
use Rattle.pb_inventory.specs.InventoryOf.{InventoryOf}
use Rattle.pb_facts.specs.Facts.{FactsOf}
use Rattle.pb_host.specs.declared.step_result.Retried.{Retried}
use Rattle.pb_host.specs.declared.items.Before.{Before}
use Rattle.pb_host.specs.Back.{undone, went_on}
use Rattle.pb_host.specs.StepResults.{report_result}
use Rattle.pb_host.specs.Ends.{IsAtMost}
use Rattle.pb_host.specs.Host.{HostOf, reported}
use Rattle.pb_host.specs.Runs.{item_of}
use Rattle.pb_hosts.specs.Applied.{LearnInTurn, learnt_in}
use Rattle.pb_hosts.specs.Giving.{gives_now, report_gives, with_delegated}
use Rattle.pb_hosts.specs.Hosts.{change}
use Rattle.pb_hosts.proofs.Asked.{given_due}
use Rattle.pb_hosts.proofs.Outside.{reported_inside, reported_waits, reported_out}
use Rattle.pb_hosts.proofs.Reported.{back_learns, reported_in, room_back, step_result_in}
use Rattle.pb_hosts.proofs.TicketOrder.{reported_quiet}
use Rattle.pb_hosts.proofs.Turns.{same_due}
use Rattle.pb_hosts.proofs.hosts.report_row.Goals as goal

pub advance-requires : goal.advance-requires
advance-requires c =
    room_back c.args.plan.now c.args.play.now c.args.outcome.now c.args.host.0 c.rows.inside.rows.items c.take_back.new.rows.items c.in_ok-came.ensures.ok
    (subst (λ (all : List HostOf). IfSome (slice_get all c.args.host.0) (λ (row : HostOf). IsAtMost row.counts (2 ^ 64 - 2))) (sym c.rows.view_is) c.requires)

-- memory was refused: the row is as it was
pub invariant_of-rows : goal.invariant_of-rows
invariant_of-rows c =
    same_due c.rows.inside.sends c.rows.inside.batch c.rows.inside.awaits_batch c.rows.inside.standings c.rows.inside.standings c.rows.inside.out.items c.rows.inside.rows.items c.take_back.new.rows.items c.rows.invariant
    c.in_err-came.ensures.err refl

pub invariant_of-rows-in-Err : goal.invariant_of-rows-in-Err
invariant_of-rows-in-Err c =
    same_due c.rows.inside.sends c.rows.inside.batch c.rows.inside.awaits_batch c.rows.inside.standings c.rows.inside.standings c.rows.inside.out.items c.rows.inside.rows.items c.undo.new.rows.items c.rows.invariant
    (c.undo.ensures
    ∙ ap (λ (all : List HostOf). change all c.args.host.0 (undone c.parts-before.result.0)) c.in-Err.ensures.err
    ∙ ap (λ (p : Option Before × Option Retried). change c.take_back.new.rows.items c.args.host.0 (undone p.0)) c.parts-before.ensures
    ∙ c.in_ok-came.ensures.undo)
    refl

pub invariant_of-rows-in-Ok : goal.invariant_of-rows-in-Ok
invariant_of-rows-in-Ok c =
    given_due (report_gives c.args.plan.now c.args.play.now c.args.outcome.now c.args.host.0 c.rows.inside.rows.items) (reported c.args.plan.now c.args.play.now c.args.outcome.now)
    (reported_quiet c.args.plan.now c.args.play.now c.args.outcome.now)
    (reported_inside c.args.plan.now c.args.play.now c.args.outcome.now)
    (reported_waits c.args.plan.now c.args.play.now c.args.outcome.now) c.args.host.0 c.rows.inside.sends c.ask_one.new.sends c.rows.inside.standings c.ask_one.new.standings c.rows.inside.batch c.rows.inside.awaits_batch c.rows.inside.out.items c.drop_job.new.all.items
    c.rows.inside.rows.items c.advance.new.rows.items
    (λ row at out. reported_out c.args.plan.now c.args.play.now c.args.outcome.now row out)
    c.rows.invariant
    (reported_in c.args.plan.now c.args.play.now c.args.outcome.now c.args.host.0 c.rows.inside.rows.items c.take_back.new.rows.items c.advance.new.rows.items c.in_ok-came.ensures.ok
    (subst (λ (inventory : InventoryOf). c.advance.new.rows.items ≡ with_delegated (gives_now inventory c.args.play.now c.args.host.0 c.take_back.new.rows.items) (change c.take_back.new.rows.items c.args.host.0 (went_on inventory c.args.play.now)))
    c.inventory-inventory.ensures c.in-Ok.ensures.rows))
    c.ask_one.ensures.sends
    c.ask_one.ensures.stands
    c.drop_job.ensures

pub returns-in-Ok-clause-rows : goal.returns-in-Ok-clause-rows
returns-in-Ok-clause-rows c =
    reported_in c.args.plan.now c.args.play.now c.args.outcome.now c.args.host.0 c.rows.inside.rows.items c.take_back.new.rows.items c.advance.new.rows.items c.in_ok-came.ensures.ok
    (subst (λ (inventory : InventoryOf). c.advance.new.rows.items ≡ with_delegated (gives_now inventory c.args.play.now c.args.host.0 c.take_back.new.rows.items) (change c.take_back.new.rows.items c.args.host.0 (went_on inventory c.args.play.now)))
    c.inventory-inventory.ensures c.in-Ok.ensures.rows)
    ∙ ap (λ (all : List HostOf). with_delegated (report_gives c.args.plan.now c.args.play.now c.args.outcome.now c.args.host.0 all) (change all c.args.host.0 (reported c.args.plan.now c.args.play.now c.args.outcome.now))) c.rows.view_is

pub returns-in-Ok-clause-comes_to : goal.returns-in-Ok-clause-comes_to
returns-in-Ok-clause-comes_to c =
    step_result_in c.args.plan.now c.args.play.now c.args.outcome.now c.args.host.0 c.rows.inside.rows.items c.take_back.new.rows.items c.item_in-number.result c.parts-before.result.1 c.in-Ok.step_result c.in_ok-came.ensures.ok
    (c.item_in-number.ensures ∙ ap (λ (all : List HostOf). option_map_or item_of (slice_get all c.args.host.0) None) c.as_slice.ensures.value) (ap (λ (p : Option Before × Option Retried). p.1) c.parts-before.ensures ∙ c.in_ok-came.ensures.retried) c.in-Ok.ensures.comes_to
    ∙ ap (λ (all : List HostOf). option_map_or (report_result c.args.plan.now c.args.play.now c.args.outcome.now) (slice_get all c.args.host.0) None) c.rows.view_is

pub returns-in-Ok-clause-learnt : goal.returns-in-Ok-clause-learnt
returns-in-Ok-clause-learnt c =
    subst (λ (was : List FactsOf). LearnInTurn c.in-Ok.learnt.items was (learnt_in c.advance.new.rows.items))
    (back_learns c.args.plan.now c.args.play.now c.args.outcome.now c.args.host.0 c.rows.inside.rows.items c.take_back.new.rows.items c.in_ok-came.ensures.ok ∙ ap learnt_in c.rows.view_is)
    c.in-Ok.ensures.learnt

pub returns-in-Err-clause-err : goal.returns-in-Err-clause-err
returns-in-Err-clause-err c =
    c.undo.ensures
    ∙ ap (λ (all : List HostOf). change all c.args.host.0 (undone c.parts-before.result.0)) c.in-Err.ensures.err
    ∙ ap (λ (p : Option Before × Option Retried). change c.take_back.new.rows.items c.args.host.0 (undone p.0)) c.parts-before.ensures
    ∙ c.in_ok-came.ensures.undo
    ∙ c.rows.view_is
