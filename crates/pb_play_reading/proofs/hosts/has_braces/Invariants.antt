use Rattle.std.proofs.Common.{◌≡◌, length}
use Rattle.pb_play_reading.specs.Hosts.{has_braces}
use Rattle.pb_play_reading.proofs.hosts.has_braces.Given as goal

abbrev pub invariant-loop-rest : goal.invariant-loop-rest
invariant-loop-rest l = has_braces l.text ≡ has_braces l.rest

abbrev pub decreases-loop-rest : goal.decreases-loop-rest
decreases-loop-rest l = length l.rest
