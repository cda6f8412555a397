use Rattle.std.proofs.Common.{◌∙◌}
use Rattle.pb_handlers.proofs.Histories.{all_closed}
use Rattle.pb_handlers.proofs.notes.Notes.clear.Goals as goal

pub returns : goal.returns
returns c = λ n histories e. c.unmark.ensures ∙ all_closed n histories _ e
