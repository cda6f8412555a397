use Rattle.std.proofs.Common.{◌∙◌, ap, length}
use Rattle.pb_planes.specs.Set.{is_in}
use Rattle.pb_groups.specs.Members.{plane_at}
use Rattle.pb_groups.proofs.Found.{plane_is}
use Rattle.pb_groups.proofs.groups.Groups.has.Goals as goal

pub returns : goal.returns
returns c =
    rw (← c.self.view_is)
    (c.has.ensures ∙ ap (λ planes. is_in (plane_at planes c.args.group.0) c.args.host.0) c.as_slice.ensures.value
    ∙ plane_is c.self.inside.links.items c.self.inside.own.items (length c.self.inside.depths.items) c.self.inside.hosts c.self.inside.depths.items c.self.inside.members.items c.self.invariant.4 c.self.invariant.5 c.args.group.0 c.args.host.0)
