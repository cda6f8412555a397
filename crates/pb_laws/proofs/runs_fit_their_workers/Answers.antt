use Rattle.pb_laws.proofs.JobsStay.{fits_workers}
use Rattle.pb_laws.proofs.runs_fit_their_workers.Goals as goal

pub returns : goal.returns
returns c = λ plan pool trail s forks run. fits_workers plan pool trail s forks run
