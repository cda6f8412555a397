use Rattle.std.proofs.Common.{◌≡◌, ◌<◌, ℕ, length, take}
use Rattle.pb_planes.specs.Set.{is_in}
use Rattle.pb_patterns.specs.Sets.{contains}
use Rattle.pb_patterns.proofs.sets.set_of_hosts.Given as goal

abbrev pub invariant-loop-host : goal.invariant-loop-host
invariant-loop-host l = (length l.set ≡ l.width) × ((h : ℕ) → h < l.width → is_in l.set h ≡ contains (take l.host-index l.hosts) h)
