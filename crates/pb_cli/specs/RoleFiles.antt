-- What is read of the files of roles.
use Rattle.std.specs.Prelude.{◌≡◌, ◌≤◌, ◌+◌, ◌-◌, ⊤, ℕ, false, List, [], ◌∷◌, ◌++◌, All, codes, length, map, Option, None, Some}
use Rattle.std.specs.Ordering.{is_lt, nat_cmp}
use Rattle.std.specs.Cmp.Lexicographic.{slice_cmp}
use Rattle.pb_roles.specs.declared.files.RoleFile.{RoleFile}
use Rattle.pb_cli.specs.declared.role_files.RoleFolder.{RoleFolder}
use Rattle.pb_cli.specs.declared.role_files.RoleFolder.TheVariants.{Defaults, Handlers, Meta, Tasks, Vars}

-- the folders of a role, each of which has one file
abbrev pub folder_name : RoleFolder → List ℕ
folder_name Defaults = codes "defaults"
folder_name Handlers = codes "handlers"
folder_name Meta = codes "meta"
folder_name Tasks = codes "tasks"
folder_name Vars = codes "vars"

-- the path of the file in a folder of the role of this name
abbrev pub role_path : List ℕ → RoleFolder → List ℕ
role_path name folder = name ++ codes "/" ++ folder_name folder ++ codes "/main.json"

-- a path is that of a file in one of the folders of some role
abbrev pub IsRolePath : List ℕ → Type 0
IsRolePath path = (name : List ℕ) × (folder : RoleFolder) × (path ≡ role_path name folder)

unfoldable pub AreRolePaths : List (List ℕ) → Type 0
AreRolePaths paths = All IsRolePath paths

-- paths in byte order: none is less than the one before it
abbrev pub InOrder : List (List ℕ) → Type 0
InOrder [] = ⊤
InOrder (path ∷ []) = ⊤
InOrder (path ∷ next ∷ paths) = (is_lt (slice_cmp nat_cmp next path) ≡ false) × InOrder (next ∷ paths)

-- of each file's bytes no more than there is room for behind the files before it and beside its path, and one byte that tells that there are more
abbrev pub FitIn : ℕ → List RoleFile → Type 0
FitIn room [] = ⊤
FitIn room (file ∷ files) = (length file.bytes ≤ room - length file.path + 1) × FitIn (room - length file.path - length file.bytes) files

-- the files of roles: each at a role's path, in byte order of their paths, in this room
pub record AreRoleFiles (room : ℕ) (files : List RoleFile) : Type 0 where
  pub paths : AreRolePaths (map (λ file. file.path) files)
  pub order : InOrder (map (λ file. file.path) files)
  pub fit : FitIn room files

-- the files of roles: none where no folder of them is asked for
abbrev pub AreRolesIn : ℕ → Option (List ℕ) → List RoleFile → Type 0
AreRolesIn room None files = files ≡ []
AreRolesIn room (Some dir) files = AreRoleFiles room files
