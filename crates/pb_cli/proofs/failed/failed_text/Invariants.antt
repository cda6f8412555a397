use Rattle.std.proofs.Common.{◌≡◌, ◌++◌, drop, string_bytes}
use Rattle.pb_state.specs.Through.{got_through}
use Rattle.pb_cli.specs.Failed.{left_from, joined, failed_text}
use Rattle.pb_cli.proofs.failed.failed_text.Given as goal

abbrev pub invariant-loop-host : goal.invariant-loop-host
invariant-loop-host l =
    string_bytes l.text ++ joined l.others (left_from (got_through l.plan l.state) l.host (drop l.host l.plan.inventory.hosts)) ≡ failed_text l.plan l.state
