use Rattle.std.proofs.Common.{◌≡◌, ◌-◌, length}
use Rattle.std.specs.Option.{option_copied}
use Rattle.pb_hosts.specs.Applied.{with_update}
use Rattle.pb_hosts.specs.TurnMade.{copy_applied}
use Rattle.pb_hosts.proofs.Members.{part}
use Rattle.pb_hosts.proofs.turned.Copied.update_inside.Given as goal

abbrev pub invariant-loop-host : goal.invariant-loop-host
invariant-loop-host l = with_update l.all.items l.rows ≡ part (copy_applied l.self.inventory.now l.self.play.now l.self.place (option_copied l.self.from)) l.from l.rows

abbrev pub decreases-loop-host : goal.decreases-loop-host
decreases-loop-host l = length l.batch - l.from
