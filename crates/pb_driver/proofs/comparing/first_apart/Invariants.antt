use Rattle.std.proofs.Common.{◌<◌, ℕ}
use Rattle.pb_driver.specs.SameEnd.{IsSameAt}
use Rattle.pb_driver.proofs.comparing.first_apart.Given as goal

abbrev pub invariant-loop-host : goal.invariant-loop-host
invariant-loop-host l = (host : ℕ) → host < l.host → IsSameAt l.one l.two host
