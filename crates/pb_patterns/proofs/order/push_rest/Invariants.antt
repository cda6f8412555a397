use Rattle.std.proofs.Common.{◌≡◌, ◌&&◌, ◌++◌}
use Rattle.std.specs.Prelude.{filter, not}
use Rattle.std.specs.List.{range_with_len}
use Rattle.pb_planes.specs.Set.{is_in}
use Rattle.pb_patterns.proofs.order.push_rest.Given as goal

abbrev pub invariant-loop-host : goal.invariant-loop-host
invariant-loop-host l = l.order.items ≡ l.fn.order.items ++ filter (λ h. is_in l.set h && not (is_in l.seen h)) (range_with_len 0 l.host)
