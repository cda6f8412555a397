use Rattle.std.proofs.Common.{refl}
use Rattle.pb_hosts.proofs.gifts.update_for.Goals as goal

pub returns : goal.returns
returns c = (refl, c.in_ok-update.ensures)
