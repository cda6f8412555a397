use Rattle.std.proofs.Common.{◌≡◌, drop}
use Rattle.pb_inventory.specs.Names.{all_in_place}
use Rattle.pb_inventory.specs.Graph.{mentioned_groups, group_names}
use Rattle.pb_inventory.proofs.numbering.group_names_of.Given as goal

abbrev pub invariant-loop-group : goal.invariant-loop-group
invariant-loop-group l = all_in_place (mentioned_groups (drop l.group-index l.listed)) l.names ≡ group_names l.listed
