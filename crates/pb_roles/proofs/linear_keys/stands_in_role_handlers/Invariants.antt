use Rattle.std.proofs.Common.{◌≡◌, drop}
use Rattle.std.specs.List.{list_any}
use Rattle.pb_roles.specs.LinearKeys.{role_handler_has}
use Rattle.pb_roles.proofs.linear_keys.stands_in_role_handlers.Given as goal

abbrev pub invariant-loop-it : goal.invariant-loop-it
invariant-loop-it l = list_any (role_handler_has l.key) l.handlers ≡ list_any (role_handler_has l.key) (drop l.it-index l.handlers)
