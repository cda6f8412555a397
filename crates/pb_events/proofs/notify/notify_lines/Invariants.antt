use Rattle.std.proofs.Common.{◌≡◌, ◌++◌, drop}
use Rattle.pb_events.specs.Notify.{notify_lines}
use Rattle.pb_events.proofs.notify.notify_lines.Given as goal

abbrev pub invariant-loop-handler : goal.invariant-loop-handler
invariant-loop-handler l = l.fn.lines.items ++ notify_lines l.site.host l.site.play l.site.number l.handlers ≡ l.all.items ++ notify_lines l.site.host l.site.play l.site.number (drop l.handler-index l.handlers)
