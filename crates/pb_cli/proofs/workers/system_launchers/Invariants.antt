use Rattle.std.proofs.Common.{◌≡◌, length}
use Rattle.pb_cli.proofs.workers.system_launchers.Given as goal

abbrev pub invariant-loop : goal.invariant-loop
invariant-loop g l = length l.launchers.items ≡ l.counter
