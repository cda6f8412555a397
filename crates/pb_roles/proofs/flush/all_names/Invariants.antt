use Rattle.std.proofs.Common.{◌≡◌, map, take}
use Rattle.pb_roles.specs.Sections.{names_of}
use Rattle.pb_roles.proofs.flush.all_names.Given as goal

abbrev pub invariant-loop-handler : goal.invariant-loop-handler
invariant-loop-handler l = l.names.items ≡ map names_of (take l.handler-index l.handlers)
