use Rattle.std.proofs.Common.{ap, ◌∙◌}
use Rattle.std.specs.Prelude.{slice_get}
use Rattle.pb_engine.proofs.Noted.{pending_is_noted}
use Rattle.pb_engine.specs.EngineOf.{EngineOf}
use Rattle.pb_engine.specs.Notes.{noted_at}
use Rattle.pb_engine.proofs.engine.Engine.pending.Goals as goal

pub returns-clause-notes : goal.returns-clause-notes
returns-clause-notes c =
    c.pending.ensures
    ∙ (pending_is_noted (slice_get c.self.inside.state.rows c.args.host.0) c.marks_are_notes.ensures.marks
    ∙ ap (λ (v : EngineOf). noted_at v.state c.args.host.0) c.self.view_is)
