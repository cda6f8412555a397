use Rattle.std.proofs.Common.{arith}
use Rattle.pb_groups.proofs.Laws.{read_depth, longest_way, way_from_top}
use Rattle.pb_groups.proofs.groups.Groups.depth.Goals as goal

pub returns-clause-reached : goal.returns-clause-reached
returns-clause-reached c =
    let w = rw (← c.self.view_is) at c.requires in
    rw (← c.self.view_is, read_depth _ _ _ w c.index.ensures) (c.self.invariant.4.1 _ _ (omega arith))

pub returns-clause-longest : goal.returns-clause-longest
returns-clause-longest c =
    let w = rw (← c.self.view_is) at c.requires in
    rw (← c.self.view_is, read_depth _ _ _ w c.index.ensures) (longest_way _ _ _ c.self.invariant.4 _)

pub returns-clause-from_top : goal.returns-clause-from_top
returns-clause-from_top c =
    let w = rw (← c.self.view_is) at c.requires in
    rw (← c.self.view_is, read_depth _ _ _ w c.index.ensures) (λ top parents. way_from_top _ _ _ c.self.invariant.3 c.self.invariant.4 _ top w parents)
