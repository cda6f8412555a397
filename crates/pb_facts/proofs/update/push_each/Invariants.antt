use Rattle.std.proofs.Common.{◌≡◌, ◌++◌, drop}
use Rattle.pb_value.specs.Datum.{named}
use Rattle.pb_facts.specs.Facts.{given_in}
use Rattle.pb_facts.specs.Update.{entries_in}
use Rattle.pb_facts.proofs.update.push_each.Given as goal

abbrev pub invariant-loop-item : goal.invariant-loop-item
invariant-loop-item l = named l.entries.items ++ entries_in (given_in (drop l.item-index l.items)) ≡ named l.fn.entries.items ++ entries_in (given_in l.items)
