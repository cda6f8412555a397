-- Which role entries of a play count, in what order, and what they bring (Ansible's documentation, "Roles", Using role dependencies, and Running a role
-- multiple times in one play).
use Rattle.std.specs.Prelude.{ℕ, zero, suc, Bool, ◌&&◌, not, List, [], ◌∷◌, ◌++◌, length, Option, Some, None, Result, Ok, Err, if◌then◌else◌}
use Rattle.std.specs.List.{list_any}
use Rattle.std.specs.Str.{bytes_eq}
use Rattle.pb_value.specs.Reading.{and_then, map_ok}
use Rattle.pb_expr_syntax.specs.Tree.{Tree}
use Rattle.pb_layers.specs.Scope.{Map}
use Rattle.pb_facts.specs.Facts.{put_all}
use Rattle.pb_play_reading.specs.declared.handlers.Handler.{Handler}
use Rattle.pb_role_entries.specs.declared.entry.RoleEntry.{RoleEntry}
use Rattle.pb_role_files.specs.declared.meta.RoleMeta.{RoleMeta}
use Rattle.pb_roles.specs.Entries.{key_of, has_come}
use Rattle.pb_roles.specs.Files.{RoleRead, read_of}
use Rattle.pb_roles.specs.Origins.{OriginOf}
use Rattle.pb_roles.specs.declared.fault.RoleFault.{RoleFault}
use Rattle.pb_roles.specs.declared.fault.RoleFault.TheVariants.{Unknown, Cycle}
use Rattle.pb_roles.specs.declared.files.RoleFiles.{RoleFiles}
use Rattle.pb_roles.specs.declared.entry_key.EntryKey.{EntryKey}
use Rattle.pb_roles.specs.declared.collected.HandlerIn.{HandlerIn}
use Rattle.pb_roles.specs.declared.collected.Expansion.{Expansion}
use Rattle.pb_roles.specs.declared.open_role.OpenRole.{OpenRole}

-- A role stands under the conditions of the roles that depend on it, and under its entry's own behind them. Its entry's `vars` go over the variables of its
-- files, and the entry's other keys are its parameters.
abbrev pub origin_of : List Tree → RoleEntry → Map → Map → OriginOf
origin_of outer entry defaults vars =
    record { role = record { defaults = defaults; vars = put_all entry.vars vars; params = entry.params }; conditions = outer ++ entry.conditions }

-- what a role with these dependencies brings: its other files are looked at in this order
abbrev pub opened : ℕ → RoleRead → List Tree → RoleEntry → List RoleEntry → Result OpenRole RoleFault
opened left role outer entry dependencies =
    and_then role.defaults (λ defaults.
    and_then role.vars (λ vars.
    and_then role.nodes (λ nodes.
    and_then role.handlers (λ handlers.
    Ok (record { left = left; name = entry.name; origin = origin_of outer entry defaults vars; nodes = nodes; handlers = handlers; dependencies = dependencies })))))

-- An entry that has come already in the play is left out, unless its role allows that it comes again. The other files of such a role were read without a
-- fault when it came.
abbrev pub unless_again : ℕ → RoleRead → List Tree → RoleEntry → List EntryKey → RoleMeta → Result (Option OpenRole) RoleFault
unless_again left role outer entry came meta =
    if not meta.allow_duplicates && has_come (key_of entry) came then Ok None else map_ok Some (opened left role outer entry meta.dependencies)

-- the role that an entry names, if the entry counts; a role without files isn't there
abbrev pub role_in : ℕ → RoleRead → List Tree → RoleEntry → List EntryKey → Result (Option OpenRole) RoleFault
role_in left role outer entry came =
    if role.is_missing then Err (Unknown entry.name) else and_then role.meta (unless_again left role outer entry came)

unfoldable pub role_of : ℕ → (List ℕ → RoleRead) → List Tree → RoleEntry → List EntryKey → Result (Option OpenRole) RoleFault
role_of left reads outer entry came = role_in left (reads entry.name) outer entry came

-- the entry is one more that has come
abbrev pub with_come : RoleEntry → Expansion → Expansion
with_come entry met = record met { came = met.came ++ key_of entry ∷ [] }

-- handlers, each with where it comes from
abbrev pub handlers_in : OriginOf → List Handler → List HandlerIn
handlers_in origin [] = []
handlers_in origin (handler ∷ handlers) = record { handler = handler; origin = origin } ∷ handlers_in origin handlers

-- an open role is done: what it brings comes behind what its dependencies brought
abbrev pub closed : OpenRole → Expansion → Expansion
closed role met =
    record {
      came = met.came;
      sections = met.sections ++ record { origin = role.origin; nodes = role.nodes } ∷ [];
      handlers = met.handlers ++ handlers_in role.origin role.handlers;
    }

-- entries in their order, each after what the ones before it brought
abbrev pub in_order : (RoleEntry → Expansion → Result Expansion RoleFault) → List RoleEntry → Expansion → Result Expansion RoleFault
in_order meets [] met = Ok met
in_order meets (entry ∷ entries) met = and_then (meets entry met) (in_order meets entries)

-- the entries of the roles that an open role depends on, and then the role itself
abbrev pub finished : (OpenRole → RoleEntry → Expansion → Result Expansion RoleFault) → Option OpenRole → Expansion → Result Expansion RoleFault
finished meets None met = Ok met
finished meets (Some role) met = map_ok (closed role) (in_order (meets role) role.dependencies met)

-- whether a role of this name is open
abbrev pub is_open : List ℕ → List (List ℕ) → Bool
is_open name names = list_any (bytes_eq name) names

-- An entry is met while the roles of these names are open, under these conditions: one whose role is open is a cycle. The names of open roles differ, and
-- each has a file, so there are never more than there are files: where so many are open, a further one can't be known from a cycle.
unfoldable pub meets : (left : ℕ) → (List ℕ → RoleRead) → (names : List (List ℕ)) → List Tree → RoleEntry → Expansion → Result Expansion RoleFault
meets zero reads names outer entry met = Err Cycle
meets (suc left) reads names outer entry met =
    if is_open entry.name names then Err Cycle
    else and_then (role_of left reads outer entry met.came) (λ found.
    finished (λ role. meets left reads (role.name ∷ names) role.origin.conditions) found (with_come entry met))

-- nothing has come yet
abbrev pub nothing_met : Expansion
nothing_met = record { came = []; sections = []; handlers = [] }

-- one more than there are files: since each open role has a file, so many are never open
abbrev pub most_open : RoleFiles → ℕ
most_open files = suc (length files.files)

-- what the roles of a play bring, where so many may be open, and this is read of each
abbrev pub roles_with : ℕ → (List ℕ → RoleRead) → List RoleEntry → Result Expansion RoleFault
roles_with most reads entries = in_order (meets most reads [] []) entries nothing_met

-- what the roles of a play bring, as these files say, or the first fault
abbrev pub roles_of : RoleFiles → List RoleEntry → Result Expansion RoleFault
roles_of files entries = roles_with (most_open files) (read_of files) entries
