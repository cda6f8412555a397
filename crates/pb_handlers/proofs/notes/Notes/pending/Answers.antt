use Rattle.std.proofs.Common.{◌<◌, ◌∙◌, sym, ap, arith}
use Rattle.std.specs.Prelude.{length, []}
use Rattle.std.proofs.lemmas.List.{get_or_default}
use Rattle.pb_handlers.specs.Notes.{history_at}
use Rattle.pb_handlers.proofs.Bits.{pending_means, means_pending}
use Rattle.pb_handlers.proofs.Histories.{marked_pends}
use Rattle.pb_handlers.proofs.notes.Notes.pending.Goals as goal

pub returns-clause-pending : goal.returns-clause-pending
returns-clause-pending c = λ n handler histories e h.
    let inside : c.args.host.0 < length c.self.inside.hosts.items = omega (arith, c.requires, ap length c.self.view_is) in
    let mine = c.as_slice.ensures ∙ c.index.ensures ∙ get_or_default c.self.inside.hosts.items c.args.host.0 c.index.result.now [] inside in
    let pends = marked_pends n c.args.host.0 handler histories c.self.inside.hosts.items c.as_slice.result.now (c.self.view_is ∙ e) inside mine h in
    (λ is. pending_means handler (history_at histories c.args.host.0) (sym pends ∙ is), λ is. pends ∙ means_pending handler (history_at histories c.args.host.0) is)
