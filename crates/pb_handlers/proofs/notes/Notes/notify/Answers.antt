use Rattle.std.proofs.Common.{◌∙◌, ap, arith}
use Rattle.std.specs.Prelude.{length}
use Rattle.pb_handlers.proofs.Histories.{host_notified}
use Rattle.pb_handlers.proofs.notes.Notes.notify.Goals as goal

pub returns : goal.returns
returns c = λ n histories e.
    host_notified n c.args.host.0 histories c.self.inside.hosts.items c.index_mut.result.now c.notify.new.self c.args.handlers.now (c.self.view_is ∙ e)
    (omega (arith, c.requires, ap length c.self.view_is)) c.index_mut.ensures.value c.notify.ensures
