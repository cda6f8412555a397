use Rattle.std.proofs.Common.{ap, ◌∙◌}
use Rattle.pb_flat.specs.Seen.{CursorOf}
use Rattle.pb_flat.proofs.Stands.{pends}
use Rattle.pb_flat.proofs.cursor.Cursor.pending.Goals as goal

pub returns : goal.returns
returns c = λ plan tree answers s. c.as_slice.ensures.value ∙ (ap (λ (v : CursorOf). v.marks) c.self.view_is ∙ pends c.args.self.now plan tree answers s)
