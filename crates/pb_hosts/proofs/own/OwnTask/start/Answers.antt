use Rattle.std.proofs.Common.{◌≡◌, ◌<◌, ◌-◌, ◌^◌, ◌∙◌, ℕ, List, [], true, length, ap, subst, sym}
use Rattle.std.specs.Prelude.{Option, IfSome, slice_get}
use Rattle.std.specs.Option.{option_map_or}
use Rattle.pb_host.specs.Ends.{IsAtMost}
use Rattle.pb_host.specs.Host.{HostOf, pending, progressed}
use Rattle.pb_host.specs.StepResults.{done_if}
use Rattle.pb_hosts.specs.Giving.{gifts_at}
use Rattle.pb_hosts.proofs.Applying.{leads_same}
use Rattle.pb_hosts.proofs.Giving.{length-given}
use Rattle.pb_hosts.proofs.InTurn.{learns_last}
use Rattle.pb_hosts.proofs.Preparing.{at_others, given_then, row_kept}
use Rattle.pb_hosts.proofs.own.OwnTask.start.Goals as goal

pub start_own-requires-clause-there : goal.start_own-requires-clause-there
start_own-requires-clause-there c = subst (λ (many : ℕ). c.args.host.0 < many) (sym (ap length c.in_ok-log.ensures.ok ∙ length-given c.in_ok-gifts.gifts.items c.args.rows.now.items)) c.requires.there

pub start_own-requires-clause-batch : goal.start_own-requires-clause-batch
start_own-requires-clause-batch c =
    subst (λ (found : Option HostOf). IfSome found (λ (row : HostOf). row.in_batch ≡ true))
    (sym (row_kept c.args.host.0 (gifts_at c.args.self.now.inventory.now c.args.self.now.play.now c.args.place c.args.host.0 c.args.items) c.in_ok-gifts.gifts.items c.args.rows.now.items c.apply_gifts.new.rows.items
    (at_others c.args.self.now.inventory.now c.args.self.now.play.now c.args.place c.args.host.0 c.args.items) c.in_ok-gifts.ensures c.in_ok-log.ensures.ok))
    c.requires.batch

pub start_own-requires-clause-room : goal.start_own-requires-clause-room
start_own-requires-clause-room c =
    subst (λ (found : Option HostOf). IfSome found (λ (row : HostOf). IsAtMost row.counts (2 ^ 64 - 2)))
    (sym (row_kept c.args.host.0 (gifts_at c.args.self.now.inventory.now c.args.self.now.play.now c.args.place c.args.host.0 c.args.items) c.in_ok-gifts.gifts.items c.args.rows.now.items c.apply_gifts.new.rows.items
    (at_others c.args.self.now.inventory.now c.args.self.now.play.now c.args.place c.args.host.0 c.args.items) c.in_ok-gifts.ensures c.in_ok-log.ensures.ok))
    c.requires.room

pub returns-in-Ok-clause-rows : goal.returns-in-Ok-clause-rows
returns-in-Ok-clause-rows c =
    given_then c.args.host.0 (progressed c.args.self.now.inventory.now c.args.self.now.play.now c.args.place c.args.items) (gifts_at c.args.self.now.inventory.now c.args.self.now.play.now c.args.place c.args.host.0 c.args.items) c.in_ok-gifts.gifts.items c.args.rows.now.items c.apply_gifts.new.rows.items
    c.start_own.new.rows.items (at_others c.args.self.now.inventory.now c.args.self.now.play.now c.args.place c.args.host.0 c.args.items) c.in_ok-gifts.ensures c.in_ok-log.ensures.ok c.in-Ok.ensures.rows

pub returns-in-Ok-clause-done : goal.returns-in-Ok-clause-done
returns-in-Ok-clause-done c =
    c.in-Ok.ensures.done
    ∙ ap (λ (found : Option HostOf). done_if c.args.self.now.play.now c.args.place (option_map_or pending found []) c.args.items)
    (row_kept c.args.host.0 (gifts_at c.args.self.now.inventory.now c.args.self.now.play.now c.args.place c.args.host.0 c.args.items) c.in_ok-gifts.gifts.items c.args.rows.now.items c.apply_gifts.new.rows.items
    (at_others c.args.self.now.inventory.now c.args.self.now.play.now c.args.place c.args.host.0 c.args.items) c.in_ok-gifts.ensures c.in_ok-log.ensures.ok)

pub returns-in-Ok-clause-learnt : goal.returns-in-Ok-clause-learnt
returns-in-Ok-clause-learnt c =
    learns_last c.in_ok-log.log.items c.start_own.new.log.items c.args.host c.args.rows.now.items c.apply_gifts.new.rows.items c.start_own.new.rows.items c.in_ok-log.ensures.past c.in-Ok.ensures.log

-- memory was refused: all that were given something are as they were
pub returns-in-Err-clause-err : goal.returns-in-Err-clause-err
returns-in-Err-clause-err c =
    c.revert_all.ensures c.args.rows.now.items
    (leads_same c.in_ok-log.log.items c.start_own.new.log.items c.apply_gifts.new.rows.items c.start_own.new.rows.items c.in-Err.ensures.same c.in-Err.ensures.err c.args.rows.now.items c.in_ok-log.ensures.past)
