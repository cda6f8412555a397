use Rattle.std.proofs.Common.{◌≡◌, ◌++◌, drop}
use Rattle.pb_handlers.specs.Naming.{kept}
use Rattle.pb_roles.proofs.expansion.kept.Given as goal

abbrev pub invariant-loop-is_kept : goal.invariant-loop-is_kept
invariant-loop-is_kept l = l.all ++ kept (drop l.is_kept-index l.marks) l.rest ≡ kept l.fn.marks l.fn.handlers
