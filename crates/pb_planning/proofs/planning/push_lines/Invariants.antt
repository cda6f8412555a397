use Rattle.std.proofs.Common.{◌≡◌, ◌++◌, map, take}
use Rattle.pb_planning.proofs.planning.push_lines.Given as goal

abbrev pub invariant-loop-name : goal.invariant-loop-name
invariant-loop-name l = l.lines ≡ l.fn.lines ++ map (λ name. l.label ++ name) (take l.name-index l.names)
