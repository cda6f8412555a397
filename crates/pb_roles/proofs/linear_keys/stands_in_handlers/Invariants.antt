use Rattle.std.proofs.Common.{◌≡◌, drop}
use Rattle.std.specs.List.{list_any}
use Rattle.pb_roles.specs.LinearKeys.{handler_has}
use Rattle.pb_roles.proofs.linear_keys.stands_in_handlers.Given as goal

abbrev pub invariant-loop-handler : goal.invariant-loop-handler
invariant-loop-handler l = list_any (handler_has l.key) l.handlers ≡ list_any (handler_has l.key) (drop l.handler-index l.handlers)
