use Rattle.std.proofs.Common.{◌≡◌, ◌+◌, ◌-◌, ◌≤◌, drop, length}
use Rattle.std.specs.Prelude.{option_map}
use Rattle.pb_template.specs.Pieces.{code_size}
use Rattle.pb_template.specs.declared.pieces.State.TheVariants as state
use Rattle.pb_template.proofs.pieces.code_size.Given as goal

abbrev pub invariant-loop-n : goal.invariant-loop-n
invariant-loop-n l = (code_size state.Outside l.bytes ≡ option_map (λ k. l.n + k) (code_size l.state (drop l.n l.bytes))) × (l.n ≤ length l.bytes)

abbrev pub decreases-loop-n : goal.decreases-loop-n
decreases-loop-n l = length l.bytes - l.n
