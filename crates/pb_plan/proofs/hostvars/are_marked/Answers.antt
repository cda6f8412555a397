use Rattle.std.proofs.Common.{◌≡◌, true, List, Some, slice_get, length, take, subst, arith}
use Rattle.std.proofs.lemmas.List.{take_all}
use Rattle.std.proofs.lemmas.List.Elements.{All-more}
use Rattle.pb_ids.specs.declared.numbers.GroupNo.{GroupNo}
use Rattle.pb_plan.specs.Hostvars.{AreMarked}
use Rattle.pb_plan.proofs.hostvars.are_marked.Goals as goal

pub loop-group-preserved : goal.loop-group-preserved
loop-group-preserved c =
    All-more (λ (g : GroupNo). slice_get c.args.marked.now g.0 ≡ Some true) c.args.groups.now c.loop-group.group-index _ c.loop-group-test.true c.loop-group.invariant
    (c.is_marked.ensures c.if-not-is_marked.false)

pub returns : goal.returns
returns c = λ _. subst (AreMarked c.args.marked.now) (take_all c.loop-group.group-index c.args.groups.now (omega (arith, c.loop-group-test.false))) c.loop-group.invariant
