use Rattle.std.proofs.Common.{◌≡◌}
use Rattle.serde_json.specs.View.{members_view}
use Rattle.pb_play_reading.specs.NodeLists.{has, names_block}
use Rattle.pb_play_reading.proofs.nodes.has_block.Given as goal

abbrev pub invariant-loop-name : goal.invariant-loop-name
invariant-loop-name l = has names_block (members_view l.members.entries) ≡ has names_block (members_view l.name-iterator)
