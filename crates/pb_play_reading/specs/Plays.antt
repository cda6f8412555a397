-- The plays of a playbook. See Ansible's documentation, "Playbook Keywords", Play.
use Rattle.std.specs.Prelude.{ℕ, true, false, List, [], Ok, Option, Some, None, codes, unwrap_or}
use Rattle.serde_json.specs.Data as json
use Rattle.pb_value.specs.Datum.{Datum}
use Rattle.pb_value.specs.Reading.{below}
use Rattle.pb_patterns.specs.declared.element.Element.{Element}
use Rattle.pb_reading.specs.Fields.{◌>>=◌, Part, others, object, rule, value_at}
use Rattle.pb_reading.specs.Reading.{Reading, each_of, required}
use Rattle.pb_reading.specs.Simple.{text}
use Rattle.pb_role_entries.specs.RoleEntries.{role_entry}
use Rattle.pb_play_reading.specs.Batches.{serial, sizes}
use Rattle.pb_play_reading.specs.Gathering.{begun}
use Rattle.pb_play_reading.specs.Handlers.{handler}
use Rattle.pb_play_reading.specs.Hosts.{hosts, expressions_of_hosts}
use Rattle.pb_play_reading.specs.NodeLists.{node_list}
use Rattle.pb_play.specs.Nodes.{Nothing}
use Rattle.pb_play_reading.specs.NoEffect.{has_no_effect, key, key_or}
use Rattle.pb_play_reading.specs.Percentages.{percentage}
use Rattle.pb_play_reading.specs.Refusals.{Placed, met_behind}
use Rattle.pb_written.specs.Simple.{switched}
use Rattle.pb_play_reading.specs.Strategies.{strategy}
use Rattle.pb_play_reading.specs.Variables.{variables}
use Rattle.pb_written.specs.declared.fault.LoadFault.{LoadFault}
use Rattle.pb_play_reading.specs.declared.hosts.PlayHosts.{PlayHosts}
use Rattle.pb_play_reading.specs.declared.other_keys.WithoutEffect.{WithoutEffect}
use Rattle.pb_play_reading.specs.declared.play.AfterHosts.{AfterHosts}
use Rattle.pb_play_reading.specs.declared.play.BeforeHosts.{BeforeHosts}
use Rattle.pb_play_reading.specs.declared.play.Lists.{Lists}
use Rattle.pb_play_reading.specs.declared.play.Manner.{Manner}
use Rattle.pb_play_reading.specs.declared.play.OnFailure.{OnFailure}
use Rattle.pb_play_reading.specs.declared.play.Play.{Play}
use Rattle.pb_play_reading.specs.declared.play.Tolerance.{Tolerance}
use Rattle.pb_strategies.specs.declared.strategy.Strategy.TheVariants.{Linear}

-- what comes of a failure: whether it ends the play for all hosts, and whether handlers run behind it
abbrev pub on_failure : Part WithoutEffect LoadFault OnFailure
on_failure = do
  any_errors_fatal ← key (codes "any_errors_fatal") switched
  force_handlers ← key_or (codes "force_handlers") switched false
  rule (Ok (record { any_errors_fatal = any_errors_fatal; force_handlers = force_handlers }))

-- what the keys in front of `hosts` say; a play that doesn't say whether it gathers facts does (Ansible's documentation, "Playbook Keywords", gather_facts)
abbrev pub before_hosts : Part WithoutEffect LoadFault BeforeHosts
before_hosts = do
  on_failure ← on_failure
  gathers ← key_or (codes "gather_facts") switched true
  handlers ← key_or (codes "handlers") (each_of handler) []
  rule (Ok (record { on_failure = on_failure; gathers = gathers; handlers = handlers }))

-- which failures it bears: whether they are ignored, and how many of a batch's hosts in a hundred may fail
abbrev pub tolerance : Part WithoutEffect LoadFault Tolerance
tolerance = do
  ignore_errors ← key_or (codes "ignore_errors") switched false
  max_fail_percentage ← key (codes "max_fail_percentage") percentage
  rule (Ok (record { ignore_errors = ignore_errors; max_fail_percentage = max_fail_percentage }))

-- how the hosts go through a play: a play that doesn't say so goes over all of them at once, task by task
abbrev pub manner : Part WithoutEffect LoadFault Manner
manner = do
  serial ← key_or (codes "serial") serial (sizes [])
  strategy ← key_or (codes "strategy") strategy Linear
  rule (Ok (record { serial = serial; strategy = strategy }))

-- the lists of nodes, and the one of roles, with what stands between their keys
abbrev pub lists : Part WithoutEffect LoadFault Lists
lists = do
  post_tasks ← key_or (codes "post_tasks") node_list Nothing
  pre_tasks ← key_or (codes "pre_tasks") node_list Nothing
  roles ← key_or (codes "roles") (each_of role_entry) []
  manner ← manner
  tasks ← key_or (codes "tasks") node_list Nothing
  rule (Ok (record { post_tasks = post_tasks; pre_tasks = pre_tasks; roles = roles; manner = manner; tasks = tasks }))

-- where it gathers facts, it begins with that
abbrev pub play_of : BeforeHosts → List ℕ → List Element → List (List ℕ × Datum) → Tolerance → Lists → Play
play_of before name hosts vars tolerance lists =
    record {
      name = name;
      hosts = hosts;
      vars = vars;
      any_errors_fatal = before.on_failure.any_errors_fatal;
      ignore_errors = tolerance.ignore_errors;
      max_fail_percentage = tolerance.max_fail_percentage;
      pre_tasks = begun before.gathers lists.pre_tasks;
      tasks = lists.tasks;
      post_tasks = lists.post_tasks;
      roles = lists.roles;
      handlers = before.handlers;
      force_handlers = before.on_failure.force_handlers;
      strategy = lists.manner.strategy;
      serial = lists.manner.serial;
    }

-- what its keys between `hosts` and `vars` say
abbrev pub after_hosts : Part WithoutEffect LoadFault AfterHosts
after_hosts = do
  tolerance ← tolerance
  name ← key (codes "name") text
  lists ← lists
  rule (Ok (record { tolerance = tolerance; name = name; lists = lists }))

-- a play over these hosts; one without a name has its pattern's text as it is written
abbrev pub play_over : BeforeHosts → AfterHosts → List (List ℕ × Datum) → PlayHosts → Play
play_over before after vars hosts = play_of before (unwrap_or after.name hosts.text) hosts.pattern vars after.tolerance after.lists

-- a play behind its hosts; one without variables has none
abbrev pub rest_of_play : List ℕ → BeforeHosts → Option PlayHosts → Part WithoutEffect LoadFault Play
rest_of_play path before hosts = do
  after ← after_hosts
  vars ← key_or (codes "vars") variables []
  _ ← others has_no_effect
  h ← rule (required path hosts)
  rule (Ok (play_over before after vars h))

-- a play
unfoldable pub play : List ℕ → json.Data → Reading Play LoadFault
play path = object (record {}) (do
  before ← before_hosts
  hosts ← key (codes "hosts") hosts
  rest_of_play path before hosts) path

-- the regular expressions that are met in a play: those of its hosts, where the keys before them have no fault
abbrev pub expressions_at : List ℕ → Option json.Data → List Placed
expressions_at path None = []
expressions_at path (Some d) = expressions_of_hosts path d

unfoldable pub expressions_of_play : List ℕ → json.Data → List Placed
expressions_of_play path (json.object ms) =
    met_behind (before_hosts (record { path = path; members = ms; told = record {} })) (λ before.
    met_behind (value_at has_no_effect (codes "hosts") before.ahead) (λ hosts. expressions_at (below path (codes "hosts")) hosts.value))
expressions_of_play path d = []
