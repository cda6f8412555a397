use Rattle.std.proofs.Common.{◌∙◌, ap, arith}
use Rattle.std.specs.Prelude.{length, set, false}
use Rattle.pb_handlers.proofs.Histories.{host_ran, last_is_handler}
use Rattle.pb_handlers.proofs.notes.Notes.take.Goals as goal

pub returns-in-Some-clause-ran : goal.returns-in-Some-clause-ran
returns-in-Some-clause-ran c = λ above handler n histories at e.
    let same = last_is_handler above handler c.in-Some.handler.now c.as_slice.result.now (c.as_slice.ensures ∙ at) c.in-Some.ensures.value in
    host_ran n c.args.host.0 histories c.self.inside.hosts.items c.index_mut.result.now c.take.new.self handler (c.self.view_is ∙ e)
    (omega (arith, c.requires, ap length c.self.view_is)) c.index_mut.ensures.value (c.take.ensures ∙ ap (λ h. set c.index_mut.result.now h false) same)
