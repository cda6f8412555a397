use Rattle.std.proofs.Common.{◌≡◌, ◌+◌, drop}
use Rattle.pb_play.specs.View.{written_of}
use Rattle.pb_roles.specs.Seen.{places_in}
use Rattle.pb_roles.proofs.nodes.+count.Given as goal

abbrev pub invariant-places_left-loop-node : goal.invariant-places_left-loop-node
invariant-places_left-loop-node l = l.left + places_in l.handlers (written_of l.written) ≡ l.fn.places + places_in l.handlers (written_of (drop l.node-index l.written))
