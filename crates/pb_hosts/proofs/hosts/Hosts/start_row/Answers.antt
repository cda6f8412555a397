use Rattle.std.proofs.Common.{◌≡◌, ◌<◌, ◌-◌, ◌^◌, ◌∙◌, List, [], true, length, ap, refl, subst, sym}
use Rattle.std.specs.Prelude.{Option, IfSome, slice_get}
use Rattle.std.specs.Option.{option_map_or}
use Rattle.pb_host.specs.StepResults.{done_if}
use Rattle.pb_host.specs.Ends.{IsAtMost}
use Rattle.pb_host.specs.Host.{HostOf, pending, progressed}
use Rattle.pb_hosts.specs.Applied.{LearnInTurn, learnt_in}
use Rattle.pb_hosts.specs.Giving.{gifts_at, with_delegated}
use Rattle.pb_hosts.specs.Hosts.{change}
use Rattle.pb_hosts.proofs.Asked.{given_due}
use Rattle.pb_hosts.proofs.Outside.{progressed_inside, progressed_waits, progressed_out}
use Rattle.pb_hosts.proofs.TicketOrder.{progressed_quiet}
use Rattle.pb_hosts.proofs.Turns.{same_due}
use Rattle.pb_hosts.proofs.hosts.Hosts.start_row.Goals as goal

pub start-requires-clause-there : goal.start-requires-clause-there
start-requires-clause-there c = subst (λ (all : List HostOf). c.args.host.0 < length all) (sym c.self.view_is) c.requires.there

pub start-requires-clause-batch : goal.start-requires-clause-batch
start-requires-clause-batch c =
    subst (λ (all : List HostOf). IfSome (slice_get all c.args.host.0) (λ (row : HostOf). row.in_batch ≡ true)) (sym c.self.view_is) c.requires.batch

pub start-requires-clause-room : goal.start-requires-clause-room
start-requires-clause-room c =
    subst (λ (all : List HostOf). IfSome (slice_get all c.args.host.0) (λ (row : HostOf). IsAtMost row.counts (2 ^ 64 - 2))) (sym c.self.view_is) c.requires.room

-- memory was refused: the rows are as they were
pub invariant_of-self : goal.invariant_of-self
invariant_of-self c =
    same_due c.self.inside.sends c.self.inside.batch c.self.inside.awaits_batch c.self.inside.standings c.self.inside.standings c.self.inside.out.items c.self.inside.rows.items c.start.new.rows.items c.self.invariant c.in_err-done.ensures.err refl

pub invariant_of-self-2 : goal.invariant_of-self-2
invariant_of-self-2 c =
    given_due (gifts_at c.args.inventory.now c.args.play.now c.args.place c.args.host.0 c.args.items) (progressed c.args.inventory.now c.args.play.now c.args.place c.args.items)
    (progressed_quiet c.args.inventory.now c.args.play.now c.args.place c.args.items)
    (progressed_inside c.args.inventory.now c.args.play.now c.args.place c.args.items)
    (progressed_waits c.args.inventory.now c.args.play.now c.args.place c.args.items) c.args.host.0 c.self.inside.sends c.ask_one.new.sends c.self.inside.standings c.ask_one.new.standings c.self.inside.batch c.self.inside.awaits_batch c.self.inside.out.items c.drop_job.new.all.items
    c.self.inside.rows.items c.start.new.rows.items
    (progressed_out c.args.inventory.now c.args.play.now c.args.place c.args.items c.self.inside.rows.items c.args.host.0
    (subst (λ (all : List HostOf). IfSome (slice_get all c.args.host.0) (λ (row : HostOf). row.in_batch ≡ true)) (sym c.self.view_is) c.requires.batch))
    c.self.invariant c.in_ok-done.ensures.rows c.ask_one.ensures.sends c.ask_one.ensures.stands c.drop_job.ensures

pub returns-clause-rows : goal.returns-clause-rows
returns-clause-rows c =
    c.in_ok-done.ensures.rows
    ∙ ap (λ (all : List HostOf). with_delegated (gifts_at c.args.inventory.now c.args.play.now c.args.place c.args.host.0 c.args.items) (change all c.args.host.0 (progressed c.args.inventory.now c.args.play.now c.args.place c.args.items))) c.self.view_is

pub returns-clause-done : goal.returns-clause-done
returns-clause-done c =
    c.in_ok-done.ensures.done ∙ ap (λ (all : List HostOf). done_if c.args.play.now c.args.place (option_map_or pending (slice_get all c.args.host.0) []) c.args.items) c.self.view_is

pub returns-clause-learnt : goal.returns-clause-learnt
returns-clause-learnt c =
    subst (λ (rows : List HostOf). LearnInTurn c.in_ok-done.learnt.items (learnt_in rows) (learnt_in c.start.new.rows.items)) c.self.view_is c.in_ok-done.ensures.learnt
