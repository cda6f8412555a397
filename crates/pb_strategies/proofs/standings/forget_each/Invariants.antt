use Rattle.std.proofs.Common.{◌≡◌, ◌-◌, length}
use Rattle.pb_strategies.specs.Kept.{AreWatched}
use Rattle.pb_strategies.proofs.Members.{overwritten, forgotten}
use Rattle.pb_strategies.proofs.standings.forget_each.Given as goal

abbrev pub invariant-loop-host : goal.invariant-loop-host
invariant-loop-host l = record {
  overwritten : l.hosts.items ≡ overwritten forgotten l.from l.initial.hosts.items l.initial.hosts.items;
  watched : AreWatched l.hosts.items l.watched.sets.items;
}

abbrev pub decreases-loop-host : goal.decreases-loop-host
decreases-loop-host l = length l.somewhere - l.from
