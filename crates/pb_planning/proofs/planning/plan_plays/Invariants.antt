use Rattle.std.proofs.Common.{◌≡◌, ◌+◌, ◌++◌, ℕ, List, length, map}
use Rattle.std.specs.List.{All}
use Rattle.pb_inventory.specs.Vars.{strangers}
use Rattle.pb_roles.specs.Plays.{IsBuilt}
use Rattle.pb_planning.specs.Bundle.{stranger_line, unmatched_line}
use Rattle.pb_planning.proofs.Plans.{ArePlannedTo}
use Rattle.pb_planning.proofs.planning.plan_plays.Given as goal

abbrev pub invariant-loop-play : goal.invariant-loop-play
invariant-loop-play l = record {
  planned :
      (more : List (List ℕ)) × ArePlannedTo l.inventory l.limit.hosts l.fn.plays l.play-iterator.rest.items l.all more
      × (l.lines ≡ (map stranger_line (strangers l.inventory) ++ map unmatched_line l.limit.unmatched) ++ more);
  built : All IsBuilt l.play-iterator.rest.items;
  count : length l.all + length l.play-iterator.rest.items ≡ length l.fn.plays;
}
