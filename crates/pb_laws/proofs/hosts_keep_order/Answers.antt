use Rattle.pb_laws.proofs.InOrder.{hosts_keep_order}
use Rattle.pb_laws.proofs.RisingPlaces.{places_always_rise}
use Rattle.pb_laws.proofs.hosts_keep_order.Goals as goal

pub returns : goal.returns
returns c = record { order = hosts_keep_order; rise = places_always_rise }
