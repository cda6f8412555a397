use Rattle.std.proofs.Common.{◌≡◌, ◌-◌, ◌++◌, codes}
use Rattle.std.specs.Prelude.{replicate}
use Rattle.pb_show.proofs.line.Line.put_stars.Given as goal

abbrev pub invariant-loop : goal.invariant-loop
invariant-loop l = l.self ++ replicate (76 - l.counter) 42 ≡ (l.fn.self ++ codes " ***") ++ replicate (76 - l.title) 42
