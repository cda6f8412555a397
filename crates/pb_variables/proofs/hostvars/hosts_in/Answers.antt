use Rattle.std.proofs.Common.{ap}
use Rattle.std.specs.Prelude.{codes}
use Rattle.pb_value.specs.Datum.{value_at}
use Rattle.pb_layers.specs.Scope.{Map}
use Rattle.pb_variables.proofs.hostvars.hosts_in.Goals as goal

pub returns : goal.returns
returns c = λ known is. c.taken.ensures.found known (ap (λ (hosts : Map). value_at (codes "hostvars") hosts) is)
