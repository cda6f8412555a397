use Rattle.std.proofs.Common.{◌-◌, ◌^◌, ◌∙◌, ap, subst, sym}
use Rattle.std.specs.Prelude.{Option, None, IfSome, slice_get}
use Rattle.std.specs.Option.{option_map_or}
use Rattle.pb_host.specs.Back.{step_result_now, went_on}
use Rattle.pb_host.specs.Ends.{IsAtMost}
use Rattle.pb_host.specs.Host.{HostOf}
use Rattle.pb_hosts.specs.Giving.{gives_now}
use Rattle.pb_hosts.proofs.Applying.{leads_same}
use Rattle.pb_hosts.proofs.InTurn.{learns_last}
use Rattle.pb_hosts.proofs.Preparing.{given_then, now_others, row_kept}
use Rattle.pb_hosts.proofs.own.OwnTask.advance.Goals as goal

pub advance_own-requires : goal.advance_own-requires
advance_own-requires c =
    subst (λ (found : Option HostOf). IfSome found (λ (row : HostOf). IsAtMost row.counts (2 ^ 64 - 2)))
    (sym (row_kept c.args.host.0 (gives_now c.args.self.now.inventory.now c.args.self.now.play.now c.args.host.0 c.args.rows.now.items) c.in_ok-gifts.gifts.items c.args.rows.now.items c.apply_gifts.new.rows.items
    (now_others c.args.self.now.inventory.now c.args.self.now.play.now c.args.host.0 (slice_get c.args.rows.now.items c.args.host.0))
    (c.in_ok-gifts.ensures ∙ ap (gives_now c.args.self.now.inventory.now c.args.self.now.play.now c.args.host.0) c.as_slice.ensures.value) c.in_ok-log.ensures.ok))
    c.requires

pub returns-in-Ok-clause-rows : goal.returns-in-Ok-clause-rows
returns-in-Ok-clause-rows c =
    given_then c.args.host.0 (went_on c.args.self.now.inventory.now c.args.self.now.play.now) (gives_now c.args.self.now.inventory.now c.args.self.now.play.now c.args.host.0 c.args.rows.now.items) c.in_ok-gifts.gifts.items c.args.rows.now.items c.apply_gifts.new.rows.items
    c.advance_own.new.rows.items
    (now_others c.args.self.now.inventory.now c.args.self.now.play.now c.args.host.0 (slice_get c.args.rows.now.items c.args.host.0))
    (c.in_ok-gifts.ensures ∙ ap (gives_now c.args.self.now.inventory.now c.args.self.now.play.now c.args.host.0) c.as_slice.ensures.value) c.in_ok-log.ensures.ok c.in-Ok.ensures.rows

pub returns-in-Ok-clause-comes_to : goal.returns-in-Ok-clause-comes_to
returns-in-Ok-clause-comes_to c =
    c.in-Ok.ensures.comes_to
    ∙ ap (λ (found : Option HostOf). option_map_or (step_result_now c.args.self.now.play.now c.args.number c.args.retried) found None)
    (row_kept c.args.host.0 (gives_now c.args.self.now.inventory.now c.args.self.now.play.now c.args.host.0 c.args.rows.now.items) c.in_ok-gifts.gifts.items c.args.rows.now.items c.apply_gifts.new.rows.items
    (now_others c.args.self.now.inventory.now c.args.self.now.play.now c.args.host.0 (slice_get c.args.rows.now.items c.args.host.0))
    (c.in_ok-gifts.ensures ∙ ap (gives_now c.args.self.now.inventory.now c.args.self.now.play.now c.args.host.0) c.as_slice.ensures.value) c.in_ok-log.ensures.ok)

pub returns-in-Ok-clause-learnt : goal.returns-in-Ok-clause-learnt
returns-in-Ok-clause-learnt c =
    learns_last c.in_ok-log.log.items c.advance_own.new.log.items c.args.host c.args.rows.now.items c.apply_gifts.new.rows.items c.advance_own.new.rows.items c.in_ok-log.ensures.past c.in-Ok.ensures.log

-- memory was refused: all that were given something are as they were
pub returns-in-Err-clause-err : goal.returns-in-Err-clause-err
returns-in-Err-clause-err c =
    c.revert_all.ensures c.args.rows.now.items
    (leads_same c.in_ok-log.log.items c.advance_own.new.log.items c.apply_gifts.new.rows.items c.advance_own.new.rows.items c.in-Err.ensures.same c.in-Err.ensures.err c.args.rows.now.items c.in_ok-log.ensures.past)
