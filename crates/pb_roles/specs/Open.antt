-- Roles that are open, the innermost first: what is still to be met of them.
use Rattle.std.specs.Prelude.{ℕ, zero, suc, ◌+◌, List, [], ◌∷◌, Option, Some, None, Result, Ok, Err}
use Rattle.pb_value.specs.Reading.{and_then}
use Rattle.pb_expr_syntax.specs.Tree.{Tree}
use Rattle.pb_role_entries.specs.declared.entry.RoleEntry.{RoleEntry}
use Rattle.pb_role_files.specs.declared.meta.RoleMeta.{RoleMeta}
use Rattle.pb_roles.specs.Expansion.{closed, in_order, meets}
use Rattle.pb_roles.specs.Files.{RoleRead}
use Rattle.pb_roles.specs.declared.fault.RoleFault.{RoleFault}
use Rattle.pb_roles.specs.declared.collected.Expansion.{Expansion}
use Rattle.pb_roles.specs.declared.open_role.OpenRole.{OpenRole}

abbrev pub names_of : List OpenRole → List (List ℕ)
names_of [] = []
names_of (role ∷ roles) = role.name ∷ names_of roles

-- how many roles may be opened inside them
abbrev pub left_in : (most : ℕ) → List OpenRole → ℕ
left_in most [] = most
left_in most (role ∷ roles) = role.left

-- the conditions under which what they depend on stands
abbrev pub conditions_in : List OpenRole → List Tree
conditions_in [] = []
conditions_in (role ∷ roles) = role.origin.conditions

-- their other dependencies, and then they themselves
abbrev pub rest_of : (List ℕ → RoleRead) → List OpenRole → Expansion → Result Expansion RoleFault
rest_of reads [] met = Ok met
rest_of reads (role ∷ roles) met =
    and_then (in_order (meets role.left reads (role.name ∷ names_of roles) role.origin.conditions) role.dependencies met) (λ after. rest_of reads roles (closed role after))

-- the roles that are open behind an entry, which opens a role or doesn't
abbrev pub pushed : Option OpenRole → List OpenRole → List OpenRole
pushed None roles = roles
pushed (Some role) roles = role ∷ roles

-- what is to be done where an entry is met inside open roles
abbrev pub to_do : (most : ℕ) → (List ℕ → RoleRead) → List OpenRole → RoleEntry → Expansion → Result Expansion RoleFault
to_do most reads roles entry met = and_then (meets (left_in most roles) reads (names_of roles) (conditions_in roles) entry met) (rest_of reads roles)

-- How much there is to be done at most, whatever is left out: this many times an entry is met, or a role closed.
abbrev pub entries_in : Result RoleMeta RoleFault → List RoleEntry
entries_in (Ok meta) = meta.dependencies
entries_in (Err fault) = []

-- the entries that the role of this name depends on, as its file says; none where that has a fault
abbrev pub dependencies_of : (List ℕ → RoleRead) → List ℕ → List RoleEntry
dependencies_of reads name = entries_in (reads name).meta

-- the costs of these entries together
abbrev pub sum_over : (RoleEntry → ℕ) → List RoleEntry → ℕ
sum_over costs [] = 0
sum_over costs (entry ∷ entries) = costs entry + sum_over costs entries

-- how much an entry costs where so many roles may be opened inside one another: to be met, to be closed, and what its dependencies cost
abbrev pub cost_of : ℕ → (List ℕ → RoleRead) → RoleEntry → ℕ
cost_of zero reads entry = 2
cost_of (suc left) reads entry = 2 + sum_over (cost_of left reads) (dependencies_of reads entry.name)

-- how much is left to do of open roles: the dependencies that each has left, and to close it
abbrev pub cost_in : (List ℕ → RoleRead) → List OpenRole → ℕ
cost_in reads [] = 0
cost_in reads (role ∷ roles) = 1 + sum_over (cost_of role.left reads) role.dependencies + cost_in reads roles
