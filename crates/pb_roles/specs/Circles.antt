-- When roles lead back to themselves (Ansible's documentation, "Roles", Using role dependencies).
use Rattle.std.specs.Prelude.{◌≡◌, ℕ, Bool, true, List, [], ◌∷◌, Err}
use Rattle.std.specs.List.{list_any}
use Rattle.std.specs.Str.{bytes_eq}
use Rattle.pb_role_entries.specs.declared.entry.RoleEntry.{RoleEntry}
use Rattle.pb_roles.specs.Expansion.{roles_of}
use Rattle.pb_roles.specs.Files.{RoleRead, read_of}
use Rattle.pb_roles.specs.Open.{dependencies_of}
use Rattle.pb_roles.specs.declared.fault.RoleFault.TheVariants.{Cycle}
use Rattle.pb_roles.specs.declared.files.RoleFiles.{RoleFiles}

-- whether an entry of this name is among these
abbrev pub is_among : List RoleEntry → List ℕ → Bool
is_among entries name = list_any (λ (entry : RoleEntry). bytes_eq name entry.name) entries

-- a role depends on another, as its file says
abbrev pub DependsOn : (List ℕ → RoleRead) → List ℕ → List ℕ → Type 0
DependsOn reads from to = is_among (dependencies_of reads from) to ≡ true

-- a role depends on another by way of these
abbrev pub LeadsTo : (List ℕ → RoleRead) → List ℕ → List (List ℕ) → List ℕ → Type 0
LeadsTo reads from [] to = DependsOn reads from to
LeadsTo reads from (name ∷ names) to = DependsOn reads from name × LeadsTo reads name names to

-- some role depends on itself, at once or by way of others
pub record IsCircle (reads : List ℕ → RoleRead) : Type 0 where
  pub name : List ℕ
  pub between : List (List ℕ)
  pub leads : LeadsTo reads name between name

-- a cycle is reported only where a role depends on itself
abbrev pub CyclesAreCircles : Type 0
CyclesAreCircles = (files : RoleFiles) (entries : List RoleEntry) → roles_of files entries ≡ Err Cycle → IsCircle (read_of files)
