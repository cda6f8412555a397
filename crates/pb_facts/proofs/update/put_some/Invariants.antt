use Rattle.std.proofs.Common.{◌≡◌}
use Rattle.pb_value.specs.Datum.{named}
use Rattle.pb_layers.specs.Scope.{Map}
use Rattle.pb_facts.specs.Facts.{put_all}
use Rattle.pb_facts.specs.Update.{LeadsTo}
use Rattle.pb_facts.proofs.update.put_some.Given as goal

abbrev pub invariant-loop-name : goal.invariant-loop-name
invariant-loop-name l =
    (put_all (named l.name-iterator.rest.items) l.set ≡ put_all (named l.fn.entries.items) l.fn.set)
    × ((was : Map) → LeadsTo (named l.fn.log.items) was l.fn.set → LeadsTo (named l.log.items) was l.set)
