use Rattle.std.proofs.Common.{subst}
use Rattle.pb_roles.specs.Seen.{AddsPart}
use Rattle.pb_roles.proofs.Trees.{parts_are}
use Rattle.pb_roles.proofs.nodes.nodes_of.Goals as goal

pub returns : goal.returns
returns c =
    parts_are c.new-nodes.result.items c.push_part.new.nodes.items c.push_part-2.new.nodes.items c.push_part-3.new.nodes.items c.args.play.now c.new-nodes.ensures.items
    (subst (AddsPart c.new-nodes.result.items c.push_part.new.nodes.items) c.as_slice.ensures c.in_ok-push_part.ensures)
    (subst (AddsPart c.push_part.new.nodes.items c.push_part-2.new.nodes.items) c.as_slice-2.ensures c.in_ok-push_part-2.ensures)
    (subst (AddsPart c.push_part-2.new.nodes.items c.push_part-3.new.nodes.items) c.as_slice-3.ensures c.in_ok-push_part-3.ensures)
