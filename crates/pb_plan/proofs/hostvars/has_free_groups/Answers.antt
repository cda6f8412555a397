use Rattle.std.proofs.Common.{◌∙◌}
use Rattle.pb_plan.proofs.Freed.{free_from_groups}
use Rattle.pb_plan.proofs.hostvars.has_free_groups.Goals as goal

pub returns-then-are_marked : goal.returns-then-are_marked
returns-then-are_marked c =
    λ _. free_from_groups c.args.inventory.now c.args.marked.now c.args.host.0 c.as_slice.result.now (c.as_slice.ensures.value ∙ c.in_ok-groups.ensures.value) c.requires.marked
    (c.are_marked.ensures c.if-are_marked.true)
