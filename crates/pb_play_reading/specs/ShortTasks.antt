-- Tasks that say no more than their module, and maybe their name: what they are, told without the keys that they lack.
use Rattle.std.specs.Prelude.{◌≡◌, ℕ, List, [], Option, Some, None, codes}
use Rattle.std.specs.Ordering.{nat_cmp}
use Rattle.std.specs.declared.cmp.Ordering.TheVariants.{Less}
use Rattle.std.specs.Cmp.Lexicographic.{slice_cmp}
use Rattle.serde_json.specs.Data as json
use Rattle.serde_json.specs.View.{view}
use Rattle.pb_value.specs.Reading.{and_then, map_ok, below}
use Rattle.pb_reading.specs.Reading.{Reading}
use Rattle.pb_reading.specs.Simple.{text}
use Rattle.pb_play.specs.Modules.{module_name}
use Rattle.pb_play.specs.Tasks.{plain_task}
use Rattle.pb_play.specs.declared.modules.Module.{Module}
use Rattle.pb_play.specs.declared.task.Task.{Task}
use Rattle.pb_play_reading.specs.Modules.{module_key, module_of}
use Rattle.pb_play_reading.specs.declared.short.Call.{Call}
use Rattle.pb_play_reading.specs.declared.short.Short.{Short}
use Rattle.pb_play_reading.specs.declared.short.Short.TheVariants.{Nameless, NameFirst, NameLast}
use Rattle.pb_written.specs.declared.fault.LoadFault.{LoadFault}

-- the key at which a task's name stands
abbrev pub name : List ℕ
name = codes "name"

-- the member that calls a module, in front of others
abbrev pub calling : Call → json.Members → json.Members
calling call ms = json.member call.key.now (view call.json.now) ms

-- the members of such a task, in the order of their keys
abbrev pub members_of : Short → json.Members
members_of (Nameless call) = calling call json.no_members
members_of (NameFirst d call) = json.member name (view d.now) (calling call json.no_members)
members_of (NameLast call d) = calling call (json.member name (view d.now) json.no_members)

-- the key of this member names the module that it calls
abbrev pub Calls : Call → Type 0
Calls call = module_key call.key.now ≡ Some call.named

-- its key names its module, and stands in front of its name where it is the first
abbrev pub InOrder : Short → Type 0
InOrder (Nameless call) = Calls call
InOrder (NameFirst _ call) = Calls call
InOrder (NameLast call _) = Calls call × slice_cmp nat_cmp call.key.now name ≡ Less

-- what one member was found to be, what two were, and what all members of an object were
abbrev pub IsCall : Option Call → List ℕ → json.Data → Type 0
IsCall (Some call) k d = json.member k d json.no_members ≡ calling call json.no_members × Calls call
IsCall None k d = Unit {0}

abbrev pub IsShort : Option Short → json.Members → Type 0
IsShort (Some short) ms = ms ≡ members_of short × InOrder short
IsShort None ms = Unit {0}

abbrev pub IsBoth : Option Short → List ℕ → json.Data → List ℕ → json.Data → Type 0
IsBoth short k d l e = IsShort short (json.member k d (json.member l e json.no_members))

-- the module that a task at a path calls, and its name
abbrev pub called : List ℕ → Call → Reading Module LoadFault
called path call = module_of call.named (below path call.key.now) (view call.json.now)

abbrev pub name_at : List ℕ → json.Data → Reading (List ℕ) LoadFault
name_at path d = text (below path name) d

-- Such a task at a path. The first fault counts, in the order of its keys; without a name it has that of its module.
abbrev pub short_task : List ℕ → Short → Reading Task LoadFault
short_task path (Nameless call) = map_ok (λ m. plain_task (module_name m) [] m) (called path call)
short_task path (NameFirst d call) = and_then (name_at path (view d.now)) (λ n. map_ok (plain_task n []) (called path call))
short_task path (NameLast call d) = and_then (called path call) (λ m. map_ok (λ n. plain_task n [] m) (name_at path (view d.now)))
