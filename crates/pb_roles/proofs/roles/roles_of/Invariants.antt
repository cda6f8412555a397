use Rattle.std.proofs.Common.{◌≡◌, [], drop}
use Rattle.pb_roles.specs.Expansion.{in_order, meets, most_open, roles_of}
use Rattle.pb_roles.specs.Files.{read_of}
use Rattle.pb_roles.proofs.roles.roles_of.Given as goal

abbrev pub invariant-loop-entry : goal.invariant-loop-entry
invariant-loop-entry l = roles_of l.files l.entries ≡ in_order (meets (most_open l.files) (read_of l.files) [] []) (drop l.entry-index l.entries) l.met
