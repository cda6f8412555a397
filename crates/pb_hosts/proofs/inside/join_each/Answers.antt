use Rattle.std.proofs.Common.{◌≡◌, [], arith}
use Rattle.std.proofs.lemmas.Grind.{common_steps}
use Rattle.pb_hosts.proofs.Joined.{opened_step, opened_end, some_joins, inside_step}
use Rattle.pb_hosts.proofs.inside.join_each.Goals as goal

pub next_of-host-requires : goal.next_of-host-requires
next_of-host-requires c =
    some_joins c.args.rows.now.items c.args.walks.items c.loop-walk.walk-iterator.rest.items _ _ c.args.awaits_batch.now c.loop-walk.from c.requires.awaits_batch c.requires.few c.loop-walk.invariant.remaining c.in-Some.ensures.steps.0

pub loop-walk-preserved : goal.loop-walk-preserved
loop-walk-preserved c =
    let step =
    opened_step c.args.rows.now.items c.loop-walk.rows.items c.join_at.new.rows.items c.args.walks.items c.loop-walk.walk-iterator.rest.items _ _ c.args.awaits_batch.now c.loop-walk.from c.next_of-host.result.0 c.behind-from.result c.requires.awaits_batch
    c.next_of-host.ensures c.behind-from.ensures c.loop-walk.invariant.joined c.loop-walk.invariant.remaining c.in-Some.ensures.steps.0 c.join_at.ensures
    in
    record {
      joined = step.0;
      remaining = step.1;
      inside = inside_step c.loop-walk.rows.items c.join_at.new.rows.items c.loop-walk.batch c.put_in.new.set _ c.next_of-host.result.0 c.loop-walk.invariant.inside c.join_at.ensures c.put_in.ensures;
    }

pub returns-clause-rows : goal.returns-clause-rows
returns-clause-rows c =
    let none : c.loop-walk.walk-iterator.rest.items ≡ [] = grind (arith, common_steps) in
    opened_end c.args.rows.now.items c.loop-walk.rows.items c.args.walks.items c.loop-walk.walk-iterator.rest.items c.loop-walk.from c.loop-walk.invariant.joined c.loop-walk.invariant.remaining none
