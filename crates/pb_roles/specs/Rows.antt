-- Worked examples: each is proved by computing both sides.
use Rattle.std.specs.Prelude.{◌≡◌, ℕ, pos, Bool, true, false, List, [], ◌∷◌, map, Option, Some, None, Result, Ok, Err, codes, refl, if◌then◌else◌}
use Rattle.std.specs.Str.{bytes_eq}
use Rattle.pb_value.specs.Datum.{dict, int, no_members, text}
use Rattle.pb_value.specs.Reading.{map_ok}
use Rattle.pb_expr_syntax.specs.Tree.{Tree, Name}
use Rattle.pb_layers.specs.Scope.{Map}
use Rattle.pb_play_reading.specs.Batches.{sizes}
use Rattle.pb_play.specs.Couplings.{uncoupled}
use Rattle.pb_play.specs.Nodes.{Written, Nothing, Task, Block, Flush}
use Rattle.pb_written.specs.declared.fault.LoadFault.TheVariants.{NotJson}
use Rattle.pb_play.specs.declared.modules.Module.TheVariants.{Debug}
use Rattle.pb_play.specs.declared.node.BlockKeys.{BlockKeys}
use Rattle.pb_role_entries.specs.declared.entry.EntryAsWritten.{EntryAsWritten}
use Rattle.pb_play.specs.declared.couplings.Couplings.{Couplings}
use Rattle.pb_play_reading.specs.declared.handlers.Handler.{Handler}
use Rattle.pb_play_reading.specs.declared.play.Play.{Play}
use Rattle.pb_role_entries.specs.declared.entry.RoleEntry.{RoleEntry}
use Rattle.pb_play.specs.declared.task.Task.{Task as OneTask}
use Rattle.pb_places.specs.Place.{PlaceOf, bare_task, no_role, place_of}
use Rattle.pb_places.specs.declared.surroundings.Role.{Role}
use Rattle.pb_tree.specs.Tree.{paths}
use Rattle.pb_roles.specs.Building.{all_places, tree_of}
use Rattle.pb_roles.specs.Expansion.{handlers_in, meets, nothing_met, role_of, roles_with}
use Rattle.pb_roles.specs.Files.{RoleRead, no_meta}
use Rattle.pb_roles.specs.LinearKeys.{linear_keys_of}
use Rattle.pb_roles.specs.Origins.{from_play}
use Rattle.pb_roles.specs.Sections.{counted, own}
use Rattle.pb_roles.specs.Unknown.{unknown_of}
use Rattle.pb_roles.specs.declared.fault.RoleFault.{RoleFault}
use Rattle.pb_roles.specs.declared.fault.RoleFault.TheVariants.{Unknown, Cycle, Load}
use Rattle.pb_roles.specs.declared.collected.HandlerIn.{HandlerIn}
use Rattle.pb_roles.specs.declared.collected.Expansion.{Expansion}
use Rattle.pb_roles.specs.declared.collected.Section.{Section}
use Rattle.pb_roles.specs.declared.sections.Sections.{Sections}
use Rattle.pb_strategies.specs.declared.strategy.Strategy.TheVariants.{Free}

abbrev said : List ℕ → OneTask
said name = bare_task name (Debug (text (codes "hi")))

abbrev one : List ℕ → Written
one name = Task (said name) Nothing

-- ---- which entries count

abbrev as_a_text : EntryAsWritten
as_a_text = record { vars = None; when = None; tags = None }

abbrev asked : List ℕ → RoleEntry
asked name = record { name = name; vars = []; conditions = []; params = []; as_written = as_a_text }

-- a role with one task, of its own name, that depends on these
abbrev role : List ℕ → List RoleEntry → Bool → RoleRead
role name dependencies allows =
    record {
      is_missing = false;
      meta = Ok (record { dependencies = dependencies; allow_duplicates = allows });
      defaults = Ok [];
      vars = Ok [];
      nodes = Ok (one name);
      handlers = Ok [];
    }

abbrev missing : RoleRead
missing = record { is_missing = true; meta = Ok no_meta; defaults = Ok []; vars = Ok []; nodes = Ok Nothing; handlers = Ok [] }

abbrev app : List ℕ
app = codes "app"

abbrev base : List ℕ
base = codes "base"

-- two roles, of which there is no other one
abbrev two_roles : RoleRead → RoleRead → List ℕ → RoleRead
two_roles a b name = if bytes_eq name app then a else (if bytes_eq name base then b else missing)

abbrev first_name : Written → List ℕ
first_name (Task task rest) = task.name
first_name _ = []

abbrev title : Section → List ℕ
title section = first_name section.nodes

-- the names of the tasks that the roles bring
abbrev titles : Result Expansion RoleFault → Result (List (List ℕ)) RoleFault
titles = map_ok (λ (met : Expansion). map title met.sections)

abbrev brought : (List ℕ → RoleRead) → List RoleEntry → Result (List (List ℕ)) RoleFault
brought reads entries = titles (roles_with 3 reads entries)

-- a role comes behind those that it depends on, and once
dependency_first : brought (two_roles (role app (asked base ∷ []) false) (role base [] false)) (asked app ∷ asked app ∷ []) ≡ Ok (base ∷ app ∷ [])
unfolding meets role_of
dependency_first = refl

allowed_twice : brought (two_roles (role app (asked base ∷ []) true) (role base [] false)) (asked app ∷ asked app ∷ []) ≡ Ok (base ∷ app ∷ app ∷ [])
unfolding meets role_of
allowed_twice = refl

-- one that came as a dependency has come, and one that is left out doesn't bring its dependencies again
came_inside : brought (two_roles (role app (asked base ∷ []) false) (role base [] false)) (asked app ∷ asked base ∷ []) ≡ Ok (base ∷ app ∷ [])
unfolding meets role_of
came_inside = refl

left_out_whole : brought (two_roles (role app (asked base ∷ []) false) (role base [] true)) (asked app ∷ asked app ∷ []) ≡ Ok (base ∷ app ∷ [])
unfolding meets role_of
left_out_whole = refl

-- with other parameters it is another entry, and so it is with `vars` without members in place of none
abbrev with_port : ℕ → RoleEntry
with_port n = record (asked base) { params = (codes "port", int (pos n)) ∷ [] }

abbrev with_no_vars : RoleEntry
with_no_vars = record (asked base) { as_written = record as_a_text { vars = Some (dict no_members) } }

kept_apart : brought (two_roles missing (role base [] false)) (with_port 1 ∷ with_port 2 ∷ with_port 1 ∷ with_no_vars ∷ asked base ∷ with_no_vars ∷ [])
    ≡ Ok (base ∷ base ∷ base ∷ base ∷ [])
unfolding meets role_of
kept_apart = refl

-- two roles that depend on each other, and one on itself, though its entry has come
cycle_of_two : brought (two_roles (role app (asked base ∷ []) false) (role base (asked app ∷ []) false)) (asked app ∷ []) ≡ Err Cycle
unfolding meets role_of
cycle_of_two = refl

cycle_of_one : brought (two_roles (role app (asked app ∷ []) false) missing) (asked app ∷ []) ≡ Err Cycle
unfolding meets role_of
cycle_of_one = refl

-- a role without files, also as a dependency
unknown_role : brought (two_roles missing missing) (asked app ∷ []) ≡ Err (Unknown app)
unfolding meets role_of
unknown_role = refl

unknown_dependency : brought (two_roles (role app (asked base ∷ []) false) missing) (asked app ∷ []) ≡ Err (Unknown base)
unfolding meets role_of
unknown_dependency = refl

-- ---- the first fault

abbrev at : List ℕ → RoleFault
at path = Load path NotJson

abbrev all_faulty : RoleRead
all_faulty =
    record {
      is_missing = false;
      meta = Err (at (codes "m"));
      defaults = Err (at (codes "d"));
      vars = Err (at (codes "v"));
      nodes = Err (at (codes "t"));
      handlers = Err (at (codes "h"));
    }

abbrev fault_of : RoleRead → Result (List (List ℕ)) RoleFault
fault_of read = brought (two_roles read missing) (asked app ∷ [])

abbrev needs_base : RoleRead
needs_base = record all_faulty { meta = Ok (record { dependencies = asked base ∷ []; allow_duplicates = false }) }

-- the files of a role in their order, and then its dependencies
meta_first : fault_of all_faulty ≡ Err (at (codes "m"))
unfolding meets role_of
meta_first = refl

then_defaults : fault_of needs_base ≡ Err (at (codes "d"))
unfolding meets role_of
then_defaults = refl

then_vars : fault_of (record needs_base { defaults = Ok [] }) ≡ Err (at (codes "v"))
unfolding meets role_of
then_vars = refl

then_tasks : fault_of (record needs_base { defaults = Ok []; vars = Ok [] }) ≡ Err (at (codes "t"))
unfolding meets role_of
then_tasks = refl

then_handlers : fault_of (record needs_base { defaults = Ok []; vars = Ok []; nodes = Ok Nothing }) ≡ Err (at (codes "h"))
unfolding meets role_of
then_handlers = refl

then_dependencies : fault_of (record needs_base { defaults = Ok []; vars = Ok []; nodes = Ok Nothing; handlers = Ok [] }) ≡ Err (Unknown base)
unfolding meets role_of
then_dependencies = refl

-- ---- what roles bring

abbrev when : List ℕ → List Tree
when name = Name name ∷ []

abbrev number : ℕ → Map
number n = (codes "x", int (pos n)) ∷ []

-- an entry's variables go over those of the role's file, and its other keys are parameters
abbrev full_entry : RoleEntry
full_entry = record (asked app) { vars = number 3; conditions = when (codes "a"); params = number 4 }

abbrev full_role : RoleRead
full_role = record (role app (record (asked base) { conditions = when (codes "b") } ∷ []) false) { defaults = Ok (number 1); vars = Ok ((codes "w", int (pos 0)) ∷ number 2) }

abbrev origins : Result Expansion RoleFault → Result (List (Role × List Tree)) RoleFault
origins = map_ok (λ (met : Expansion). map (λ (s : Section). (s.origin.role, s.origin.conditions)) met.sections)

-- a dependency has the conditions of the role in front of its own, and none of the role's variables
what_they_bring : origins (roles_with 3 (two_roles full_role (role base [] false)) (full_entry ∷ []))
    ≡ Ok
    ((no_role, Name (codes "a") ∷ Name (codes "b") ∷ [])
    ∷ (record { defaults = number 1; vars = (codes "w", int (pos 0)) ∷ number 3; params = number 4 }, when (codes "a"))
    ∷ [])
unfolding meets role_of
what_they_bring = refl

-- ---- handlers

abbrev handler : List ℕ → List (List ℕ) → Handler
handler name listens = record { task = said name; listens = listens }

abbrev notifier : List ℕ → List (List ℕ) → OneTask
notifier name words = record (said name) { notify = words }

-- handlers come as their roles do
abbrev handling : List ℕ → RoleRead → RoleRead
handling name read = record read { handlers = Ok (handler name [] ∷ []) }

abbrev handler_names : List HandlerIn → List (List ℕ)
handler_names handlers = map (λ (h : HandlerIn). h.handler.task.name) handlers

handlers_as_roles : map_ok (λ (met : Expansion). handler_names met.handlers)
    (roles_with 3 (two_roles (handling (codes "h1") (role app (asked base ∷ []) false)) (handling (codes "h2") (role base [] false))) (asked app ∷ []))
    ≡ Ok (codes "h2" ∷ codes "h1" ∷ [])
unfolding meets role_of
handlers_as_roles = refl

-- of those with one name the last counts, at its own position
last_counts : handler_names (counted (handlers_in from_play (handler (codes "a") (codes "x" ∷ []) ∷ handler (codes "b") [] ∷ handler (codes "a") [] ∷ [])))
    ≡ codes "b" ∷ codes "a" ∷ []
last_counts = refl

-- a play with these tasks, and with handlers that come from no role
abbrev playing : Written → List Handler → Sections
playing tasks handlers =
    record {
      keys = record { any_errors_fatal = None; ignore_errors = false };
      pre = own Nothing ∷ [];
      tasks = own tasks ∷ [];
      post = own Nothing ∷ [];
      handlers = counted (handlers_in from_play handlers);
      force_handlers = false;
    }

-- a name or a topic that no handler has: the first, in the order of places, and of handlers behind them
abbrev named : List Handler
named = handler (codes "h1") (codes "web" ∷ []) ∷ handler (codes "h2") [] ∷ []

all_are_known : unknown_of (playing (Task (notifier (codes "t") (codes "h2" ∷ codes "web" ∷ [])) Nothing) named) ≡ None
all_are_known = refl

first_unknown_name : unknown_of (playing (Task (notifier (codes "t") (codes "h2" ∷ codes "u" ∷ codes "v" ∷ [])) Nothing) named) ≡ Some (codes "u")
first_unknown_name = refl

abbrev no_keys : BlockKeys
no_keys = record { conditions = []; vars = []; ignore_errors = None; throttle = None; couplings = uncoupled }

unknown_in_place : unknown_of
    (playing
    (Block no_keys (one (codes "t")) (Task (notifier (codes "t") (codes "u" ∷ [])) Nothing) (Task (notifier (codes "t") (codes "v" ∷ [])) Nothing)
    (Task (notifier (codes "t") (codes "w" ∷ [])) Nothing)) named)
    ≡ Some (codes "u")
unknown_in_place = refl

unknown_of_handler : unknown_of (playing (one (codes "t")) (record { task = notifier (codes "h") (codes "u" ∷ []); listens = [] } ∷ [])) ≡ Some (codes "u")
unknown_of_handler = refl

-- one that is dropped isn't looked at
dropped_handler : unknown_of (playing (one (codes "t")) (record { task = notifier (codes "h") (codes "u" ∷ []); listens = [] } ∷ handler (codes "h") [] ∷ [])) ≡ None
dropped_handler = refl

-- ---- trees and places

-- two handlers have places in each Flush, also in one that is written: behind pre_tasks, in the tasks and behind them, and behind post_tasks
abbrev flushing : Sections
flushing = playing (Task (notifier (codes "t") (codes "web" ∷ [])) (Flush Nothing)) named

flush_paths : paths (tree_of flushing)
    ≡ (0 ∷ 0 ∷ []) ∷ (0 ∷ 1 ∷ []) ∷ (1 ∷ []) ∷ (2 ∷ 0 ∷ []) ∷ (2 ∷ 1 ∷ []) ∷ (3 ∷ 0 ∷ []) ∷ (3 ∷ 1 ∷ []) ∷ (4 ∷ 0 ∷ []) ∷ (4 ∷ 1 ∷ []) ∷ []
flush_paths = refl

abbrev numbers : List PlaceOf → List (Option ℕ)
numbers places = map (λ (p : PlaceOf). p.handler) places

flush_numbers : numbers (all_places flushing) ≡ Some 0 ∷ Some 1 ∷ None ∷ Some 0 ∷ Some 1 ∷ Some 0 ∷ Some 1 ∷ Some 0 ∷ Some 1 ∷ []
flush_numbers = refl

abbrev notified : List PlaceOf → List (List ℕ)
notified places = map (λ (p : PlaceOf). p.notifies) places

a_topic_notifies : notified (all_places flushing) ≡ [] ∷ [] ∷ (0 ∷ []) ∷ [] ∷ [] ∷ [] ∷ [] ∷ [] ∷ [] ∷ []
a_topic_notifies = refl

-- what stands round a Flush isn't round its handlers, but a failure there is caught where the Flush is
abbrev in_a_block : Sections
in_a_block =
    playing (Block (record no_keys { conditions = when (codes "a"); vars = number 1; ignore_errors = Some true; throttle = Some 2 }) (Flush Nothing) (one (codes "r")) Nothing Nothing)
    (handler (codes "h") [] ∷ [])

abbrev only_caught : PlaceOf
only_caught = record (place_of (said (codes "h"))) { is_caught = true; handler = Some 0 }

abbrev flush_inherited : List PlaceOf → Option PlaceOf
flush_inherited (before ∷ inside ∷ others) = Some inside
flush_inherited _ = None

only_the_catch : flush_inherited (all_places in_a_block) ≡ Some only_caught
only_the_catch = refl

-- how many hosts may run a task at once its own key says, or else that of the nearest block round it; 0, which is any number, counts as it is written. A
-- handler has its own key alone
abbrev throttled : Option ℕ → Written → Written
throttled own rest = Task (record (said (codes "t")) { throttle = own }) rest

abbrev throttling : Sections
throttling =
    playing
    (Block (record no_keys { throttle = Some 2 })
    (throttled None (throttled (Some 0) (throttled (Some 5) (Block no_keys (throttled None Nothing) Nothing Nothing (Flush Nothing)))))
    Nothing
    (Block (record no_keys { throttle = Some 0 }) (throttled None Nothing) Nothing Nothing Nothing)
    (throttled None Nothing))
    (record { task = record (said (codes "h")) { throttle = Some 3 }; listens = [] } ∷ [])

throttles_handed_down : map (λ (p : PlaceOf). p.throttle) (all_places throttling) ≡ 3 ∷ 2 ∷ 0 ∷ 5 ∷ 2 ∷ 3 ∷ 0 ∷ 0 ∷ 3 ∷ 3 ∷ []
throttles_handed_down = refl

-- how the hosts of a task are coupled its own keys say, or else those of the nearest block round it, and which failures end a play for all hosts the play
-- at last; a handler has its own keys and its play's, and never those of a block
abbrev coupling : Sections
coupling =
    record (playing
    (Block (record no_keys { couplings = record { any_errors_fatal = Some false; delegate_facts = Some true; delegate_to = Some (codes "b"); run_once = Some true } })
    (Task (said (codes "t")) (Task (record (said (codes "t")) { couplings = record uncoupled { any_errors_fatal = Some true; delegate_to = Some (codes "c"); run_once = Some false } }) (Flush Nothing)))
    Nothing Nothing (one (codes "t")))
    (handler (codes "h") [] ∷ []))
    { keys = record { any_errors_fatal = Some true; ignore_errors = false } }

fatal_handed_down : map (λ (p : PlaceOf). p.any_errors_fatal) (all_places coupling) ≡ true ∷ false ∷ true ∷ true ∷ true ∷ true ∷ true ∷ []
fatal_handed_down = refl

once_handed_down : map (λ (p : PlaceOf). p.run_once) (all_places coupling) ≡ false ∷ true ∷ false ∷ false ∷ false ∷ false ∷ false ∷ []
once_handed_down = refl

delegates_handed_down : map (λ (p : PlaceOf). p.delegate_to) (all_places coupling) ≡ None ∷ Some (codes "b") ∷ Some (codes "c") ∷ None ∷ None ∷ None ∷ None ∷ []
delegates_handed_down = refl

facts_handed_down : map (λ (p : PlaceOf). p.delegate_facts) (all_places coupling) ≡ false ∷ true ∷ true ∷ false ∷ false ∷ false ∷ false ∷ []
facts_handed_down = refl

-- ---- keys that linear plays alone heed

-- a play with these tasks and handlers
abbrev writing : Written → List Handler → Play
writing tasks handlers =
    record {
      name = codes "p";
      hosts = [];
      vars = [];
      any_errors_fatal = None;
      ignore_errors = false;
      max_fail_percentage = None;
      pre_tasks = Nothing;
      tasks = tasks;
      post_tasks = Nothing;
      roles = [];
      handlers = handlers;
      force_handlers = false;
      strategy = Free;
      serial = sizes [];
    }

none_is_written : linear_keys_of (writing (one (codes "t")) (handler (codes "h") [] ∷ [])) nothing_met ≡ record { any_errors_fatal = false; max_fail_percentage = false; run_once = false }
none_is_written = refl

-- whatever their values, on the play and on a block without tasks
written_on_play_and_block : linear_keys_of
    (record (writing (Block (record no_keys { couplings = record uncoupled { run_once = Some false } }) Nothing Nothing Nothing Nothing) []) { any_errors_fatal = Some false; max_fail_percentage = Some 100 }) nothing_met
    ≡ record { any_errors_fatal = true; max_fail_percentage = true; run_once = true }
written_on_play_and_block = refl

-- on a handler that doesn't count, since a later one has its name
written_on_dropped_handler : linear_keys_of
    (writing Nothing (record { task = record (said (codes "h")) { couplings = record uncoupled { run_once = Some true } }; listens = [] } ∷ handler (codes "h") [] ∷ [])) nothing_met
    ≡ record { any_errors_fatal = false; max_fail_percentage = false; run_once = true }
written_on_dropped_handler = refl

-- on a task and on a handler that roles bring
abbrev coupled_task : Couplings → OneTask
coupled_task couplings = record (said (codes "t")) { couplings = couplings }

written_in_roles : linear_keys_of (writing Nothing [])
    (record nothing_met {
      sections = own (Block no_keys Nothing Nothing (Task (coupled_task (record uncoupled { any_errors_fatal = Some true })) Nothing) Nothing) ∷ [];
      handlers = handlers_in from_play (record { task = coupled_task (record uncoupled { run_once = Some true }); listens = [] } ∷ []);
    })
    ≡ record { any_errors_fatal = true; max_fail_percentage = false; run_once = true }
written_in_roles = refl
