use Rattle.std.proofs.Common.{◌≡◌, List, drop}
use Rattle.pb_host.specs.Host.{HostOf}
use Rattle.pb_hosts.specs.Applied.{with_update}
use Rattle.pb_hosts.specs.Giving.{with_delegated}
use Rattle.pb_hosts.specs.Prepared.{AreOnce}
use Rattle.pb_hosts.proofs.gifts.gift_updates.Given as goal

abbrev pub invariant-loop-gift : goal.invariant-loop-gift
invariant-loop-gift l = AreOnce l.all.items × ((rows : List HostOf) → with_delegated (drop l.gift-index l.gifts) (with_update l.all.items rows) ≡ with_delegated l.gifts rows)
