use Rattle.std.proofs.Common.{◌≡◌, ◌++◌, drop}
use Rattle.pb_events.specs.Items.{item_lines}
use Rattle.pb_events.proofs.item.item_lines.Given as goal

abbrev pub invariant-loop-number : goal.invariant-loop-number
invariant-loop-number l = l.fn.lines.items ++ item_lines l.site.host l.site.path l.site.number l.results ≡ l.all.items ++ item_lines l.site.host l.site.path l.site.number (drop l.number-index l.results)
