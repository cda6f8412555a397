use Rattle.std.proofs.Common.{◌≡◌, ◌+◌, length}
use Rattle.pb_value.specs.Datum.{named}
use Rattle.pb_layers.specs.Scope.{Map}
use Rattle.pb_facts.specs.Update.{LeadsTo}
use Rattle.pb_facts.proofs.update.put_back.Given as goal

abbrev pub invariant-loop : goal.invariant-loop
invariant-loop l =
    ((was : Map) → LeadsTo (named l.fn.log.items) was l.fn.set → LeadsTo (named l.left.items) was l.set) × (length l.left.items + l.counter ≡ l.count)
