use Rattle.std.proofs.Common.{◌≡◌, ◌++◌}
use Rattle.pb_facts.proofs.update.joined.Given as goal

abbrev pub invariant-loop-entry : goal.invariant-loop-entry
invariant-loop-entry l = l.both.items ++ l.entry-iterator.rest.items ≡ l.fn.first.items ++ l.fn.next.items
