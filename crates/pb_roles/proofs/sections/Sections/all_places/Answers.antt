use Rattle.pb_roles.proofs.Placed.{parts_placed}
use Rattle.pb_roles.proofs.sections.Sections.all_places.Goals as goal

pub returns : goal.returns
returns c =
    parts_placed _ c.args.self c.new-places.result.items c.push_part.new.places.items c.push_part-2.new.places.items c.push_part-3.new.places.items _ c.requires
    c.in_ok-handlers.ensures c.new-places.ensures.items c.in_ok-push_part.ensures c.in_ok-push_part-2.ensures c.in_ok-push_part-3.ensures c.from_vec.ensures
