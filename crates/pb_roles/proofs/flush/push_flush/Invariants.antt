use Rattle.std.proofs.Common.{◌≡◌, ◌++◌, drop}
use Rattle.pb_roles.specs.Building.{flush_from, flush_places}
use Rattle.pb_roles.proofs.flush.push_flush.Given as goal

abbrev pub invariant-loop-number : goal.invariant-loop-number
invariant-loop-number l =
    l.places.items ++ flush_from l.flushes.names l.is_caught l.number (drop l.number l.flushes.handlers) ≡ l.fn.places.items ++ flush_places l.flushes l.is_caught
