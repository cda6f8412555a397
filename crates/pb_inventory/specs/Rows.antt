-- Worked inventories.
use Rattle.std.specs.Prelude.{◌≡◌, refl, ⊤, ℕ, ℤ, pos, List, [], ◌∷◌, Ok, Err, codes}
use Rattle.std.specs.Fmt.{digits}
use Rattle.serde_json.specs.Data as json
use Rattle.pb_value.specs.Datum.{int, text}
use Rattle.pb_value.specs.FromJson.{value_of}
use Rattle.pb_reading.specs.Fields.{field, field_or, others}
use Rattle.pb_groups.specs.Ways.{link}
use Rattle.pb_groups.specs.Members.{own_of as own}
use Rattle.pb_inventory.specs.declared.listed.Listed.{Listed}
use Rattle.pb_inventory.specs.declared.vars.GroupVars.{GroupVars}
use Rattle.pb_inventory.specs.declared.fault.InvFault.TheVariants.{Cycle, WrongShape}
use Rattle.pb_inventory.specs.InventoryOf.{InventoryOf}
use Rattle.pb_inventory.specs.Group.{fields}
use Rattle.pb_inventory.specs.Meta.{meta}
use Rattle.pb_inventory.specs.Reading.{graph_in, file, file_in}
use Rattle.pb_inventory.specs.Vars.{no_vars, vars_from_groups, vars_of_host, strangers, names_of_groups}

abbrev pub group : List ℕ → List (List ℕ) → List (List ℕ) → Listed
group name hosts children = record { name = name; hosts = hosts; children = children }

-- {"ungrouped":["b"],"web":["a","b"]}: b is host 0 and a host 1, and `ungrouped` is empty
pub listed_again : graph_in (group (codes "ungrouped") (codes "b" ∷ []) [] ∷ group (codes "web") (codes "a" ∷ codes "b" ∷ []) [] ∷ [])
    ≡ Ok (record {
      hosts = codes "b" ∷ codes "a" ∷ [];
      groups = codes "all" ∷ codes "ungrouped" ∷ codes "web" ∷ [];
      own = own 2 1 ∷ own 2 0 ∷ own 0 0 ∷ own 0 1 ∷ [];
      links = link 0 1 ∷ link 0 2 ∷ [];
    })
listed_again = refl

-- {"a":{"children":["b"]},"b":{"children":["a"]}}
pub round : graph_in (group (codes "a") [] (codes "b" ∷ []) ∷ group (codes "b") [] (codes "a" ∷ []) ∷ []) ≡ Err Cycle
round = refl

-- {"web":{"children":["all"]}}: `all` is nobody's child
pub all_as_child : graph_in (group (codes "web") [] (codes "all" ∷ []) ∷ []) ≡ Err Cycle
all_as_child = refl

-- {"X":{"children":["y"]},"all":{"hosts":["c"]},"y":["a"]}: groups are numbered in byte order, c is ungrouped, and X alone is a child of `all`
pub nested : graph_in (group (codes "X") [] (codes "y" ∷ []) ∷ group (codes "all") (codes "c" ∷ []) [] ∷ group (codes "y") (codes "a" ∷ []) [] ∷ [])
    ≡ Ok (record {
      hosts = codes "c" ∷ codes "a" ∷ [];
      groups = codes "X" ∷ codes "all" ∷ codes "ungrouped" ∷ codes "y" ∷ [];
      own = own 3 1 ∷ own 1 0 ∷ own 1 1 ∷ own 2 0 ∷ [];
      links = link 0 3 ∷ link 1 0 ∷ link 1 2 ∷ [];
    })
nested = refl

-- host a in `all` (x 1), `db` (x 9) and `web` (x 2), with a priority of `db`
abbrev pub x_is : ℤ → ℤ → GroupVars
x_is priority x = record { priority = priority; vars = record { name = codes "x"; value = int x } ∷ [] }

abbrev pub with_priority : ℤ → InventoryOf
with_priority priority = record {
  hosts = codes "a" ∷ [];
  groups = codes "all" ∷ codes "db" ∷ codes "ungrouped" ∷ codes "web" ∷ [];
  own = own 1 0 ∷ own 3 0 ∷ own 0 0 ∷ [];
  links = link 0 1 ∷ link 0 2 ∷ link 0 3 ∷ [];
  group_vars = (codes "all", x_is (pos 1) (pos 1)) ∷ (codes "db", x_is priority (pos 9)) ∷ (codes "web", x_is (pos 1) (pos 2)) ∷ [];
  host_vars = (codes "a", (codes "x", int (pos 3)) ∷ []) ∷ (codes "b", []) ∷ [];
}

-- of equal depth and priority the later name overrides
pub later_name : vars_from_groups (with_priority (pos 1)) 0 ≡ (codes "x", int (pos 2)) ∷ []
later_name = refl

-- the priority orders before the name
pub higher_priority : vars_from_groups (with_priority (pos 10)) 0 ≡ (codes "x", int (pos 9)) ∷ []
higher_priority = refl

-- the host's own variable stands apart, in its own layer
pub of_host : vars_of_host (with_priority (pos 10)) 0 ≡ (codes "x", int (pos 3)) ∷ []
of_host = refl

-- b has variables and is no host
pub no_host : strangers (with_priority (pos 1)) ≡ codes "b" ∷ []
no_host = refl

pub group_names : names_of_groups (with_priority (pos 1)) 0 ≡ codes "db" ∷ codes "web" ∷ []
group_names = refl

-- what the rows below unfold
unfoldable on_files : ⊤
unfolding file meta fields field field_or others value_of digits
on_files = tt

abbrev pub one : json.Data
one = json.string (codes "1")

abbrev pub object : List ℕ → json.Data → json.Data
object key d = json.object (json.member key d json.no_members)

-- {"_meta":{"hostvars":{"b":{"y":"1"}},"x":5},"db":{"vars":{"ansible_group_priority":"1","x":"1"}}}: a priority that is no number is 1, and it
-- is no variable; what stands beside `hostvars` doesn't count
pub read_vars : file_in (json.object (json.member (codes "_meta") (json.object (json.member (codes "hostvars") (object (codes "b") (object (codes "y") one)) (json.member (codes "x") json.null json.no_members)))
    (json.member (codes "db") (object (codes "vars") (json.object (json.member (codes "ansible_group_priority") one (json.member (codes "x") one json.no_members)))) json.no_members)))
    ≡ Ok (record {
      groups = group (codes "db") [] [] ∷ [];
      group_vars = (codes "db", record { priority = pos 1; vars = record { name = codes "x"; value = text (codes "1") } ∷ [] }) ∷ [];
      host_vars = (codes "b", (codes "y", text (codes "1")) ∷ []) ∷ [];
    })
unfolding on_files
read_vars = refl

-- {"_meta":{"hostvars":5}}, {"_meta":{"hostvars":{"a":5}}}, {"web":{"vars":5}}
pub no_object : file_in (object (codes "_meta") (object (codes "hostvars") json.null)) ≡ Err (WrongShape (codes "_meta/hostvars"))
unfolding on_files
no_object = refl

pub no_vars_object : file_in (object (codes "_meta") (object (codes "hostvars") (object (codes "a") json.null))) ≡ Err (WrongShape (codes "_meta/hostvars/a"))
unfolding on_files
no_vars_object = refl

pub no_group_object : file_in (object (codes "web") (object (codes "vars") json.null)) ≡ Err (WrongShape (codes "web/vars"))
unfolding on_files
no_group_object = refl

-- {"DB":["b"],"_meta":{"a":"1","hostvars":{"b":{"y":"1"}},"x":"1"},"web":{"children":["DB"],"hosts":["a"],"vars":{"x":"1"}}}: each key that an
-- object may have, and groups on both sides of `_meta`
abbrev pub names : List ℕ → json.Data
names name = json.array (json.item (json.string name) json.no_items)

abbrev pub whole_meta : json.Data
whole_meta = json.object (json.member (codes "a") one (json.member (codes "hostvars") (object (codes "b") (object (codes "y") one)) (json.member (codes "x") one json.no_members)))

abbrev pub whole_group : json.Data
whole_group = json.object (json.member (codes "children") (names (codes "DB")) (json.member (codes "hosts") (names (codes "a")) (json.member (codes "vars") (object (codes "x") one) json.no_members)))

pub every_key : file_in (json.object (json.member (codes "DB") (names (codes "b")) (json.member (codes "_meta") whole_meta (json.member (codes "web") whole_group json.no_members))))
    ≡ Ok (record {
      groups = group (codes "DB") (codes "b" ∷ []) [] ∷ group (codes "web") (codes "a" ∷ []) (codes "DB" ∷ []) ∷ [];
      group_vars = (codes "DB", no_vars) ∷ (codes "web", record { priority = pos 1; vars = record { name = codes "x"; value = text (codes "1") } ∷ [] }) ∷ [];
      host_vars = (codes "b", (codes "y", text (codes "1")) ∷ []) ∷ [];
    })
unfolding on_files
every_key = refl

-- a key that a group may not have, in front of those that it may have and behind them
pub unknown_key : file_in (object (codes "web") (json.object (json.member (codes "child") one (json.member (codes "vars") json.null json.no_members)))) ≡ Err (WrongShape (codes "web/child"))
unfolding on_files
unknown_key = refl

pub unknown_last_key : file_in (object (codes "web") (json.object (json.member (codes "hosts") (names (codes "a")) (json.member (codes "x") one json.no_members)))) ≡ Err (WrongShape (codes "web/x"))
unfolding on_files
unknown_last_key = refl

-- `ungrouped` has no children, and is a child of `all` alone
pub child_of_ungrouped : file_in (object (codes "ungrouped") (object (codes "children") (names (codes "web")))) ≡ Err (WrongShape (codes "ungrouped/children/0"))
unfolding on_files
child_of_ungrouped = refl

pub ungrouped_as_child : file_in (object (codes "web") (object (codes "children") (names (codes "ungrouped")))) ≡ Err (WrongShape (codes "web/children/0"))
unfolding on_files
ungrouped_as_child = refl

pub ungrouped_in_all : file_in (object (codes "all") (object (codes "children") (names (codes "ungrouped"))))
    ≡ Ok (record { groups = group (codes "all") [] (codes "ungrouped" ∷ []) ∷ []; group_vars = (codes "all", no_vars) ∷ []; host_vars = [] })
unfolding on_files
ungrouped_in_all = refl
