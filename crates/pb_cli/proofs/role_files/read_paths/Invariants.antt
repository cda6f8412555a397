use Rattle.std.proofs.Common.{◌≡◌, ◌≤◌, take, map, string_bytes}
use Rattle.pb_value.specs.Limits.{max_bytes}
use Rattle.pb_roles.specs.declared.files.RoleFile.{RoleFile}
use Rattle.pb_cli.specs.RoleFiles.{FitIn}
use Rattle.pb_cli.proofs.RolePaths.{room_left}
use Rattle.pb_cli.proofs.role_files.read_paths.Given as goal

abbrev pub invariant-loop-path : goal.invariant-loop-path
invariant-loop-path g l =
    (map (λ (file : RoleFile). file.path) l.files.items ≡ map string_bytes (take l.path-index l.paths)) × FitIn l.room l.files.items
    × (l.left ≡ room_left l.room l.files.items) × (l.left ≤ max_bytes)
