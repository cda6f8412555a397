use Rattle.std.proofs.Common.{◌∙◌, ap}
use Rattle.std.specs.Prelude.{Option, is_some}
use Rattle.pb_host.specs.Host.{HostOf}
use Rattle.pb_hosts.proofs.Turns.{some_copied, some_run_once_host}
use Rattle.pb_hosts.proofs.turned.some_run_once_done.Goals as goal

pub returns : goal.returns
returns c = c.is_some.ensures ∙ some_copied c.run_once_host.result ∙ ap (λ (o : Option HostOf). is_some o) c.run_once_host.ensures ∙ some_run_once_host c.args.place c.args.rows.now
