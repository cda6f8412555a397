use Rattle.std.proofs.Common.{◌≡◌, drop}
use Rattle.pb_roles.specs.Unknown.{unknown_in_handlers}
use Rattle.pb_roles.proofs.unknown.in_handlers.Given as goal

abbrev pub invariant-loop-handler : goal.invariant-loop-handler
invariant-loop-handler l = unknown_in_handlers l.names l.handlers ≡ unknown_in_handlers l.names (drop l.handler-index l.handlers)
