use Rattle.std.proofs.Common.{drop, max, ◌≡◌}
use Rattle.pb_play.specs.View.{written_of}
use Rattle.pb_roles.specs.Seen.{depth_in}
use Rattle.pb_roles.proofs.nodes.+depth.Given as goal

abbrev pub invariant-are_deeper-loop-node : goal.invariant-are_deeper-loop-node
invariant-are_deeper-loop-node l = max l.levels (depth_in (written_of l.written)) ≡ max l.levels (depth_in (written_of (drop l.node-index l.written)))
