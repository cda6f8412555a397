use Rattle.std.proofs.Common.{◌≡◌, [], arith}
use Rattle.std.proofs.lemmas.Grind.{common_steps}
use Rattle.pb_planning.proofs.Plans.{next_planned, all_planned, rest_built, first_built}
use Rattle.pb_planning.proofs.planning.plan_plays.Goals as goal

pub loop-play-preserved : goal.loop-play-preserved
loop-play-preserved c = record {
  planned =
      next_planned c.args.inventory.now c.args.limit.now.hosts c.args.plays c.loop-play.play-iterator.rest.items c.next.new.self.rest.items c.in-Some.play c.loop-play.all c.push.new.self
      c.in_ok-planned.planned _ c.loop-play.lines c.plan_play.new.lines c.in-Some.ensures.steps.0 c.in_ok-push.ensures.ok c.loop-play.invariant.planned
      c.in_ok-planned.ensures;
  built = rest_built _ _ _ c.in-Some.ensures.steps.0 c.loop-play.invariant.built;
  count = grind (arith, common_steps);
}

pub returns-clause-value : goal.returns-clause-value
returns-clause-value c =
    let none : c.loop-play.play-iterator.rest.items ≡ [] = grind (arith, common_steps) in
    all_planned c.args.inventory.now c.args.limit.now.hosts c.args.plays c.loop-play.play-iterator.rest.items c.loop-play.all _ c.loop-play.lines none c.loop-play.invariant.planned

pub plan_play-requires-clause-built : goal.plan_play-requires-clause-built
plan_play-requires-clause-built c = first_built _ _ _ c.in-Some.ensures.steps.0 c.loop-play.invariant.built
