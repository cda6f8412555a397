use Rattle.std.proofs.Common.{rules}
use Rattle.pb_cli.proofs.playing.play_bundle.Goals as goal

pub returns-clause-bad_outcomes : goal.returns-clause-bad_outcomes
returns-clause-bad_outcomes g c e h =
    let bad_outcomes = c.give.ensures.bad_outcomes e h in
    record {
      plan = c.in-Ok.plan;
      planned = search rules;
      allowed = search rules;
      runs = bad_outcomes.0;
      unaudited = bad_outcomes.1;
      given = bad_outcomes.2;
      warned = search rules;
      untouched = bad_outcomes.3;
      fault = bad_outcomes.4;
    }

pub returns-clause-unread : goal.returns-clause-unread
returns-clause-unread g c e h =
    let unread = c.give.ensures.unread e h in
    record {
      plan = c.in-Ok.plan;
      planned = search rules;
      allowed = search rules;
      runs = unread.0;
      given = unread.1;
      warned = search rules;
      untouched = unread.2;
      fault = unread.3;
    }
