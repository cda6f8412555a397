use Rattle.std.proofs.Common.{◌≡◌, ◌∙◌, not, List, ap, subst}
use Rattle.std.specs.Prelude.{nat_eq, is_some, count_by}
use Rattle.std.specs.List.{list_any}
use Rattle.pb_strategies.specs.declared.standings.Standing.{Standing}
use Rattle.pb_strategies.specs.Hosts.{runs_in}
use Rattle.pb_host.specs.Host.{HostOf}
use Rattle.pb_host.specs.Runs.{is_running}
use Rattle.pb_hosts.proofs.Counting.{some_runs}
use Rattle.pb_hosts.proofs.hosts.Hosts.some_running.Goals as goal

pub returns : goal.returns
returns c =
    subst (λ (rows : List HostOf). not (nat_eq c.running.result 0) ≡ list_any is_running rows) c.self.view_is
    (some_runs c.self.inside.rows.items c.running.result (c.running.ensures ∙ ap (λ (hosts : List Standing). count_by is_some (runs_in hosts)) c.self.invariant.stands))
