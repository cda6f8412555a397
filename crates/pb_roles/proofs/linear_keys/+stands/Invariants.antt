use Rattle.std.proofs.Common.{◌≡◌, drop}
use Rattle.pb_play.specs.View.{written_of}
use Rattle.pb_roles.specs.LinearKeys.{stands_in}
use Rattle.pb_roles.proofs.linear_keys.+stands.Given as goal

abbrev pub invariant-stands_in-loop-node : goal.invariant-stands_in-loop-node
invariant-stands_in-loop-node l = stands_in l.key (written_of l.nodes) ≡ stands_in l.key (written_of (drop l.node-index l.nodes))
