use Rattle.std.proofs.Common.{◌≡◌, ◌++◌}
use Rattle.pb_roles.specs.Expansion.{handlers_in}
use Rattle.pb_roles.proofs.roles.push_handlers.Given as goal

abbrev pub invariant-loop-handler : goal.invariant-loop-handler
invariant-loop-handler l = l.all ++ handlers_in l.origin l.handler-iterator.rest.items ≡ l.fn.all ++ handlers_in l.origin l.fn.handlers
