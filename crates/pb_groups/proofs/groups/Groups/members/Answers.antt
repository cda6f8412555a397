use Rattle.std.proofs.Common.{◌∙◌, arith}
use Rattle.pb_groups.specs.MemberSets.{members_of}
use Rattle.pb_groups.proofs.Laws.{read_plane, members_exactly}
use Rattle.pb_groups.proofs.MemberLaws.{plane_is}
use Rattle.pb_groups.proofs.groups.Groups.members.Goals as goal

pub returns-clause-members : goal.returns-clause-members
returns-clause-members c =
    let w = rw (← c.self.view_is) at c.requires in
    rw (← c.self.view_is, read_plane c.self.inside.members.items c.args.group.0 _ (omega (arith, w, c.self.invariant.5.0.0)) c.index.ensures) (members_exactly _ _ _ _ _ c.self.invariant.5 _)

pub returns-clause-set : goal.returns-clause-set
unfolding members_of
returns-clause-set c =
    let w = rw (← c.self.view_is) at c.requires in
    rw (← c.self.view_is) (read_plane c.self.inside.members.items c.args.group.0 _ (omega (arith, w, c.self.invariant.5.0.0)) c.index.ensures
    ∙ plane_is _ _ _ _ _ _ _ c.self.invariant.4 c.self.invariant.5 w)
