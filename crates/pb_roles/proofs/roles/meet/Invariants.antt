use Rattle.std.proofs.Common.{◌≡◌, []}
use Rattle.pb_roles.specs.Expansion.{meets, most_open}
use Rattle.pb_roles.specs.Files.{read_of}
use Rattle.pb_roles.specs.Open.{cost_in, rest_of}
use Rattle.pb_roles.proofs.roles.meet.Given as goal

abbrev pub invariant-loop-role : goal.invariant-loop-role
invariant-loop-role l = rest_of (read_of l.files) l.roles.items l.met ≡ meets (most_open l.files) (read_of l.files) [] [] l.entry l.fn.met

abbrev pub decreases-loop-role : goal.decreases-loop-role
decreases-loop-role l = cost_in (read_of l.files) l.roles.items
