use Rattle.std.proofs.Common.{◌-◌, length}
use Rattle.pb_strategies.proofs.Closing.{IsShut}
use Rattle.pb_strategies.proofs.starts.keep_open.Given as goal

abbrev pub invariant-loop-host : goal.invariant-loop-host
invariant-loop-host l = IsShut l.view l.fn.set l.set l.from l.last

abbrev pub decreases-loop-host : goal.decreases-loop-host
decreases-loop-host l = length l.running - l.from
