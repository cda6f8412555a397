use Rattle.std.proofs.Common.{◌∙◌, string_bytes}
use Rattle.pb_state.specs.Through.{got_through}
use Rattle.pb_cli.proofs.Left.{left_after}
use Rattle.pb_cli.proofs.failed.failed_text.Goals as goal

pub loop-host-preserved : goal.loop-host-preserved
loop-host-preserved c =
    rw (c.in_ok-others.ensures.text, c.in_ok-others.ensures.others, c.got_through-through.ensures)
    (left_after (got_through c.args.plan.now c.args.state.now) c.args.plan.now.inventory.hosts c.loop-host.host c.loop-host.others c.host_name.result.now (string_bytes c.loop-host.text) c.host_name.ensures ∙ c.loop-host.invariant)
