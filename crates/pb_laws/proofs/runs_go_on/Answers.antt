use Rattle.pb_laws.proofs.GoingOn.{run_goes_on}
use Rattle.pb_laws.proofs.runs_go_on.Goals as goal

pub returns : goal.returns
returns c = run_goes_on
