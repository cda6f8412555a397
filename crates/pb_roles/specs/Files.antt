-- The files of roles (Ansible's documentation, "Roles", Role directory structure): a role has up to five, `NAME/KIND/main.json` each.
use Rattle.std.specs.Prelude.{ℕ, Bool, false, ◌&&◌, List, [], ◌∷◌, ◌++◌, Option, Some, None, Result, Ok, Err, codes, is_none, if◌then◌else◌}
use Rattle.std.specs.Str.{bytes_eq}
use Rattle.pb_layers.specs.Scope.{Map}
use Rattle.pb_play.specs.Nodes.{Written, Nothing}
use Rattle.pb_role_files.specs.RoleFiles.{nodes_of_file, handlers_of_file, variables_of_file, meta_of_file}
use Rattle.pb_written.specs.declared.fault.LoadFault.{LoadFault}
use Rattle.pb_play_reading.specs.declared.handlers.Handler.{Handler}
use Rattle.pb_role_files.specs.declared.meta.RoleMeta.{RoleMeta}
use Rattle.pb_roles.specs.declared.fault.RoleFault.{RoleFault}
use Rattle.pb_roles.specs.declared.fault.RoleFault.TheVariants.{Load}
use Rattle.pb_roles.specs.declared.files.RoleFile.{RoleFile}
use Rattle.pb_roles.specs.declared.files.RoleFiles.{RoleFiles}

-- the path of a role's file: the role's name comes first, and then the file's kind, as `tasks`
abbrev pub main_path : List ℕ → List ℕ → List ℕ
main_path name kind = name ++ codes "/" ++ kind ++ codes "/main.json"

-- the file with this path; of several the first counts
abbrev pub file_at : List ℕ → List RoleFile → Option RoleFile
file_at path [] = None
file_at path (file ∷ files) = if bytes_eq file.path path then Some file else file_at path files

-- the file of a kind of the role of this name
abbrev pub file_of : List ℕ → RoleFiles → List ℕ → Option RoleFile
file_of kind files name = file_at (main_path name kind) files.files

-- a fault in a file is reported with the file's path
abbrev pub in_file : {A : Type 0} → List ℕ → Result A LoadFault → Result A RoleFault
in_file path (Ok x) = Ok x
in_file path (Err e) = Err (Load path e)

-- what a file says, or this where the role has no such file
abbrev pub loaded : {A : Type 0} → (List ℕ → Result A LoadFault) → A → Option RoleFile → Result A RoleFault
loaded reads otherwise None = Ok otherwise
loaded reads otherwise (Some file) = in_file file.path (reads file.bytes)

-- what is read of a role: whether it has none of its files, so that it isn't there, and what each of them says
pub record RoleRead : Type 0 where
  pub is_missing : Bool
  pub meta : Result RoleMeta RoleFault
  pub defaults : Result Map RoleFault
  pub vars : Result Map RoleFault
  pub nodes : Result Written RoleFault
  pub handlers : Result (List Handler) RoleFault

-- whether there is no file of this kind, which comes first, for the role with this name, which comes last
abbrev pub has_no : List ℕ → RoleFiles → List ℕ → Bool
has_no kind files name = is_none (file_of kind files name)

-- whether a role has none of its five files
abbrev pub has_none : RoleFiles → List ℕ → Bool
has_none files name =
    has_no (codes "meta") files name
    && (has_no (codes "defaults") files name && (has_no (codes "vars") files name && (has_no (codes "tasks") files name && has_no (codes "handlers") files name)))

-- a role without the file `meta`
abbrev pub no_meta : RoleMeta
no_meta = record { dependencies = []; allow_duplicates = false }

-- what is read of the role of this name
abbrev pub read_of : RoleFiles → List ℕ → RoleRead
read_of files name =
    record {
      is_missing = has_none files name;
      meta = loaded meta_of_file no_meta (file_of (codes "meta") files name);
      defaults = loaded variables_of_file [] (file_of (codes "defaults") files name);
      vars = loaded variables_of_file [] (file_of (codes "vars") files name);
      nodes = loaded nodes_of_file Nothing (file_of (codes "tasks") files name);
      handlers = loaded handlers_of_file [] (file_of (codes "handlers") files name);
    }
