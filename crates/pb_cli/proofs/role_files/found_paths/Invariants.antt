use Rattle.std.proofs.Common.{map, string_bytes}
use Rattle.pb_cli.specs.RoleFiles.{AreRolePaths}
use Rattle.pb_cli.proofs.role_files.found_paths.Given as goal

abbrev pub invariant-loop-entry : goal.invariant-loop-entry
invariant-loop-entry g l = AreRolePaths (map string_bytes l.paths.items)
