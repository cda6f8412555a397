use Rattle.std.proofs.Common.{◌≡◌, drop}
use Rattle.pb_state.specs.Through.{is_selected}
use Rattle.pb_state.proofs.through.is_selected.Given as goal

abbrev pub invariant-loop-number : goal.invariant-loop-number
invariant-loop-number l = is_selected l.host.0 (drop l.number l.plays) ≡ is_selected l.host.0 (drop l.from l.plays)
