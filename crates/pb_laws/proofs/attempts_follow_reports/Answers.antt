use Rattle.pb_laws.proofs.AttemptsInOrder.{attempts_are_in_order}
use Rattle.pb_laws.proofs.attempts_follow_reports.Goals as goal

pub returns : goal.returns
returns c = attempts_are_in_order
