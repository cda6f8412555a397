-- What holds of the roles that a play takes, whatever stands in their files (Ansible's documentation, "Roles", Using role dependencies, and Running a role
-- multiple times in one play).
use Rattle.std.specs.Prelude.{◌≡◌, ℕ, Bool, true, false, ◌||◌, not, List, [], ◌∷◌, ◌++◌, map, Ok, ⊤, ◌⊎◌}
use Rattle.std.specs.List.{AllByRecursion, list_any}
use Rattle.std.specs.Str.{bytes_eq}
use Rattle.pb_expr_syntax.specs.Tree.{Tree}
use Rattle.pb_role_entries.specs.declared.entry.RoleEntry.{RoleEntry}
use Rattle.pb_role_files.specs.declared.meta.RoleMeta.{RoleMeta}
use Rattle.pb_roles.specs.Entries.{key_of, is_again}
use Rattle.pb_roles.specs.Expansion.{handlers_in, opened, roles_of}
use Rattle.pb_roles.specs.Files.{RoleRead, read_of}
use Rattle.pb_roles.specs.declared.entry_key.EntryKey.{EntryKey}
use Rattle.pb_roles.specs.declared.files.RoleFiles.{RoleFiles}
use Rattle.pb_roles.specs.declared.collected.HandlerIn.{HandlerIn}
use Rattle.pb_roles.specs.declared.collected.Expansion.{Expansion}
use Rattle.pb_roles.specs.declared.collected.Section.{Section}
use Rattle.pb_roles.specs.declared.open_role.OpenRole.{OpenRole}

-- a role that a play takes: the entry that asks for it, what its file of dependencies says, and what it brings
pub record Taken : Type 0 where
  pub entry : RoleEntry
  pub meta : RoleMeta
  pub role : OpenRole

-- the role is there, and brings what its files say, under some conditions of the roles that depend on it
pub record IsRead (reads : List ℕ → RoleRead) (taken : Taken) : Type 0 where
  pub there : (reads taken.entry.name).is_missing ≡ false
  pub meta : (reads taken.entry.name).meta ≡ Ok taken.meta
  pub left : ℕ
  pub outer : List Tree
  pub role : opened left (reads taken.entry.name) outer taken.entry taken.meta.dependencies ≡ Ok taken.role

-- whether a role of this name is among them
abbrev pub has_role : List Taken → List ℕ → Bool
has_role taken name = list_any (λ it. bytes_eq name it.entry.name) taken

-- whether one of them was asked for by an entry like this one
abbrev pub has_alike : List Taken → EntryKey → Bool
has_alike taken entry = list_any (λ it. is_again entry (key_of it.entry)) taken

-- Each role that it depends on stands before it, and none that an entry like its own asked for, unless it may come again.
abbrev pub MayFollow : List Taken → Taken → Type 0
MayFollow before it =
    AllByRecursion (λ entry. has_role before entry.name ≡ true) it.meta.dependencies × ((it.meta.allow_duplicates || not (has_alike before (key_of it.entry))) ≡ true)

-- each may follow those before it
abbrev pub AreInOrder : List Taken → List Taken → Type 0
AreInOrder before [] = ⊤
AreInOrder before (it ∷ later) = MayFollow before it × AreInOrder (before ++ it ∷ []) later

-- the nodes that a role brings, and where they come from
abbrev pub section_of : Taken → Section
section_of it = record { origin = it.role.origin; nodes = it.role.nodes }

-- the handlers that these roles bring, role by role
abbrev pub handlers_of : List Taken → List HandlerIn
handlers_of [] = []
handlers_of (it ∷ later) = handlers_in it.role.origin it.role.handlers ++ handlers_of later

-- the entries of what these roles depend on
abbrev pub dependencies_in : List Taken → List RoleEntry
dependencies_in [] = []
dependencies_in (it ∷ later) = it.meta.dependencies ++ dependencies_in later

-- the entry is among these
abbrev pub IsOneOf : RoleEntry → List RoleEntry → Type 0
IsOneOf entry [] = ⊥
IsOneOf entry (first ∷ entries) = (entry ≡ first) ⊎ IsOneOf entry entries

-- The roles that a play takes for its entries: each entry has its role among them, nothing else is taken than what the play and these roles ask for, and what
-- they bring comes in their order.
pub record AreTaken (reads : List ℕ → RoleRead) (entries : List RoleEntry) (met : Expansion) : Type 0 where
  pub taken : List Taken
  pub read : AllByRecursion (IsRead reads) taken
  pub order : AreInOrder [] taken
  pub all : AllByRecursion (λ entry. has_role taken entry.name ≡ true) entries
  pub asked : AllByRecursion (λ it. IsOneOf it.entry (entries ++ dependencies_in taken)) taken
  pub sections : met.sections ≡ map section_of taken
  pub handlers : met.handlers ≡ handlers_of taken

-- so it is with all roles of a play that are read without a fault
abbrev pub RolesAreInOrder : Type 0
RolesAreInOrder = (files : RoleFiles) (entries : List RoleEntry) (met : Expansion) → roles_of files entries ≡ Ok met → AreTaken (read_of files) entries met
