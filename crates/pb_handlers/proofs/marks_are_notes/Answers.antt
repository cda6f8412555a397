use Rattle.pb_handlers.proofs.Bits.{pending_means, means_pending}
use Rattle.pb_handlers.proofs.Walked.{marks_noted, handlers_end}
use Rattle.pb_handlers.proofs.marks_are_notes.Goals as goal

pub returns-clause-marks : goal.returns-clause-marks
returns-clause-marks c = marks_noted c.courses_are_walks.ensures.walks c.courses_are_walks.ensures.on

pub returns-clause-places : goal.returns-clause-places
returns-clause-places c = handlers_end

pub returns-clause-pending : goal.returns-clause-pending
returns-clause-pending c = λ handler history. (pending_means handler history, means_pending handler history)
