use Rattle.std.proofs.Common.{sym}
use Rattle.std.specs.Prelude.{codes}
use Rattle.pb_layers.proofs.Hosts.{neither}
use Rattle.pb_layers.proofs.host.value_of_host.Goals as goal

pub returns-else-eq-2 : goal.returns-else-eq-2
returns-else-eq-2 c =
    rw c.in-Some.is
    (neither c.args.name.now (codes "group_names") (codes "inventory_hostname") c.in-Some.host.group_names.now c.in-Some.host.inventory_hostname.now
    (sym c.if-eq.ensures) (sym c.if-eq-2.ensures))
