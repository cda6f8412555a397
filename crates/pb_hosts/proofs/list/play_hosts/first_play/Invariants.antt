use Rattle.std.proofs.Common.{◌≡◌, drop}
use Rattle.pb_hosts.specs.Hosts.{first_play}
use Rattle.pb_hosts.proofs.list.play_hosts.first_play.Given as goal

abbrev pub invariant-loop-number : goal.invariant-loop-number
invariant-loop-number l = first_play l.rows l.number (drop l.number l.plays) ≡ first_play l.rows l.from (drop l.from l.plays)
