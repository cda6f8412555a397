use Rattle.pb_groups.proofs.Filling.{Filling}
use Rattle.pb_groups.proofs.planes.join_children.Given as goal

abbrev pub invariant-loop-link : goal.invariant-loop-link
invariant-loop-link l = Filling l.ranks.links.now l.ranks.own.now l.ranks.depths.now l.ranks.hosts l.depth l.link-index l.planes
