use Rattle.pb_laws.proofs.WithinForks.{forks_kept}
use Rattle.pb_laws.proofs.hosts_run_within_forks.Goals as goal

pub returns : goal.returns
returns c = forks_kept
