use Rattle.std.proofs.Common.{◌∙◌}
use Rattle.pb_inventory.proofs.Lasts.{put_vars_more}
use Rattle.pb_inventory.proofs.vars.put_vars.Goals as goal

pub loop-variable-preserved : goal.loop-variable-preserved
loop-variable-preserved c =
    let l = c.loop-variable in
    rw (← c.as_str.ensures, ← c.in_ok-value.ensures) c.in_ok-put.ensures.ok
    ∙ put_vars_more c.args.vars.now l.variable-index c.variable-item.result c.args.known.now l.known c.loop-variable-test.true c.variable-item.is l.invariant
