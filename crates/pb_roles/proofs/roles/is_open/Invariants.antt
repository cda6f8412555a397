use Rattle.std.proofs.Common.{◌≡◌}
use Rattle.std.specs.VecDeque.Iter.{deque_iter_rest}
use Rattle.pb_roles.specs.Expansion.{is_open}
use Rattle.pb_roles.specs.Open.{names_of}
use Rattle.pb_roles.proofs.roles.is_open.Given as goal

abbrev pub invariant-loop-role : goal.invariant-loop-role
invariant-loop-role l = is_open l.name (names_of l.roles.items) ≡ is_open l.name (names_of (deque_iter_rest l.role-iterator))
