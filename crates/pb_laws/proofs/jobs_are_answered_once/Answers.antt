use Rattle.pb_laws.proofs.JobsInOrder.{jobs_are_in_order, all_are_answered}
use Rattle.pb_laws.proofs.jobs_are_answered_once.Goals as goal

pub returns : goal.returns
returns c = record { in_order = jobs_are_in_order; at_the_end = all_are_answered }
