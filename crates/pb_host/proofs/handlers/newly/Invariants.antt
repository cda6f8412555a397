use Rattle.std.proofs.Common.{◌≡◌, take}
use Rattle.pb_host.specs.Handlers.{newly}
use Rattle.pb_host.proofs.handlers.newly.Given as goal

abbrev pub invariant-loop-handler : goal.invariant-loop-handler
invariant-loop-handler l = l.new ≡ newly l.marks l.own (take l.handler-index l.handlers)
