use Rattle.std.proofs.Common.{◌∙◌, [], refl}
use Rattle.std.specs.Prelude.{Option}
use Rattle.std.specs.Option.{option_map_or}
use Rattle.pb_host.specs.StepResults.{done_if}
use Rattle.pb_host.specs.Host.{HostOf, pending}
use Rattle.pb_hosts.proofs.Changed.{asked, there}
use Rattle.pb_hosts.proofs.InTurn.{learns_there}
use Rattle.pb_hosts.proofs.own.OwnTask.start_at.Goals as goal

pub returns-clause-done : goal.returns-clause-done
returns-clause-done c =
    c.in_ok-done-in-Some.ensures.done
    ∙ asked (λ (found : Option HostOf). done_if c.args.self.now.play.now c.args.place (option_map_or pending found []) c.args.items) c.args.rows.now.items c.args.rows.now.items c.args.host.0 c.in-Some.row.now
    (there c.args.rows.now.items c.args.host.0 c.in-Some.row.now c.in-Some.ensures.item.3.0 c.in-Some.ensures.item.1)
    refl

pub returns-clause-past : goal.returns-clause-past
returns-clause-past c =
    learns_there c.in_ok-done-in-Some.past c.args.rows.now.items c.args.host.0 c.in-Some.row.now c.start.new.self
    (there c.args.rows.now.items c.args.host.0 c.in-Some.row.now c.in-Some.ensures.item.3.0 c.in-Some.ensures.item.1)
    c.in_ok-done-in-Some.ensures.past
