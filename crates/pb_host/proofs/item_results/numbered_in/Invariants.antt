use Rattle.std.proofs.Common.{◌≡◌, ◌++◌, drop}
use Rattle.pb_outcome.specs.Items.{numbered}
use Rattle.pb_host.proofs.item_results.numbered_in.Given as goal

abbrev pub invariant-loop-number : goal.invariant-loop-number
invariant-loop-number l = numbered 0 l.items ≡ l.results ++ numbered l.number (drop l.number l.items)
