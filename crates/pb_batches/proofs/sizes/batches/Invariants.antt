use Rattle.std.proofs.Common.{◌≡◌, ◌++◌}
use Rattle.pb_batches.specs.Sizes.{sizes_from, batch_sizes}
use Rattle.pb_batches.proofs.sizes.batches.Given as goal

abbrev pub invariant-loop-left : goal.invariant-loop-left
invariant-loop-left l = batch_sizes l.serial.entries l.hosts ≡ l.sizes.items ++ sizes_from l.left l.hosts l.left l.rest

abbrev pub decreases-loop-left : goal.decreases-loop-left
decreases-loop-left l = l.left
