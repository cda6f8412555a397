-- Readers of objects, once their first parts are read: what stops a part stops the reader, and what is read is handed on.
use Rattle.std.proofs.Common.{◌≡◌, ℕ, Bool, true, List, [], Result, Ok, Err, refl, ap, sym, subst, ◌∙◌}
use Rattle.std.specs.Prelude.{Option, codes}
use Rattle.std.specs.Result.{IsErrAnd}
use Rattle.pb_expr_syntax.specs.Tree.{Tree}
use Rattle.pb_value.specs.Datum.{Datum}
use Rattle.pb_value.specs.Reading.{and_then, map_ok}
use Rattle.pb_reading.specs.Ahead.{Takes}
use Rattle.pb_reading.specs.Fields.{Ahead, Part, Read, field, field_or, others, rule, value_of}
use Rattle.pb_reading.specs.Reading.{Reading, Stops, Gives, each_of, required}
use Rattle.pb_reading.specs.Simple.{text}
use Rattle.pb_reading.specs.declared.stop.Stop.{Stop}
use Rattle.pb_role_entries.specs.RoleEntries.{role_entry}
use Rattle.pb_role_entries.specs.declared.entry.RoleEntry.{RoleEntry}
use Rattle.pb_reading.specs.declared.stop.Stop.TheVariants as stop
use Rattle.pb_written.specs.Conditions.{conditions}
use Rattle.pb_written.specs.Simple.{switched, variable_name}
use Rattle.pb_written.specs.Texts.{texts}
use Rattle.pb_play_reading.specs.Arguments.{argument}
use Rattle.pb_play_reading.specs.Assert.{said}
use Rattle.pb_play_reading.specs.Handlers.{handler, rest_of_handler}
use Rattle.pb_play_reading.specs.NoEffect.{has_no_effect, key, key_or}
use Rattle.pb_play_reading.specs.NodeLists.{node_list}
use Rattle.pb_play.specs.Nodes.{Written, Nothing}
use Rattle.pb_play_reading.specs.Plays.{on_failure, before_hosts, tolerance, manner, lists, after_hosts, play_over, rest_of_play}
use Rattle.pb_written.specs.Values.{template_value}
use Rattle.pb_play_reading.specs.Retrying.{tries}
use Rattle.pb_play_reading.specs.Tasks.{tells_of_task, looping, middle, begun_task, module_at, last_of_task, rest_of_task}
use Rattle.pb_play_reading.specs.Variables.{variables}
use Rattle.pb_play_reading.specs.declared.assert.Said.{Said}
use Rattle.pb_written.specs.declared.fault.LoadFault.{LoadFault}
use Rattle.pb_play_reading.specs.declared.handlers.Handler.{Handler}
use Rattle.pb_play_reading.specs.declared.hosts.PlayHosts.{PlayHosts}
use Rattle.pb_play.specs.declared.loops.Loop.{Loop}
use Rattle.pb_play.specs.declared.modules.Module.{Module}
use Rattle.pb_play_reading.specs.declared.other_keys.NoArguments.{NoArguments}
use Rattle.pb_play_reading.specs.declared.other_keys.WithoutEffect.{WithoutEffect}
use Rattle.pb_play_reading.specs.declared.play.AfterHosts.{AfterHosts}
use Rattle.pb_play_reading.specs.declared.play.BeforeHosts.{BeforeHosts}
use Rattle.pb_play_reading.specs.declared.play.Lists.{Lists}
use Rattle.pb_play_reading.specs.declared.play.Manner.{Manner}
use Rattle.pb_play_reading.specs.declared.play.OnFailure.{OnFailure}
use Rattle.pb_play_reading.specs.declared.play.Tolerance.{Tolerance}
use Rattle.pb_play_reading.specs.declared.play.Play.{Play}
use Rattle.pb_play_reading.specs.declared.task.Begun.{Begun}
use Rattle.pb_play_reading.specs.declared.retrying.Tries.{Tries}
use Rattle.pb_play_reading.specs.declared.task.Middle.{Middle}
use Rattle.pb_play_reading.specs.declared.task.Modules.{Modules}
use Rattle.pb_play.specs.declared.task.Task.{Task}
use Rattle.pb_play_reading.specs.declared.task.Head.{Head}

-- what a stop is handed out as
pub stopped : {A : Type 0} (result : Result A (Stop LoadFault)) (s : Stop LoadFault) (r : Reading A LoadFault) → IsErrAnd result (λ e. e ≡ s) → Stops s r → Gives result r
stopped (Ok x) s r same stops = absurd same
stopped (Err e) s r same stops = subst (λ e. Stops e r) (sym same) stops

pub part_stopped : {A S : Type 0} (result : Result A (Stop LoadFault)) (s : Stop LoadFault) (after : Ahead S) (r : Reading (Read A S) LoadFault) → IsErrAnd result (λ e. e ≡ s) → Stops s r
    → Takes (λ v. v) result after r
part_stopped (Ok x) s after r same stops = absurd same
part_stopped (Err e) s after r same stops = subst (λ e. Stops e r) (sym same) stops

-- what stops a part stops what follows it
stops_then : {A B : Type 0} (s : Stop LoadFault) (first : Reading A LoadFault) (next : A → Reading B LoadFault) → Stops s first → Stops s (and_then first next)
stops_then stop.Memory first next stops = stops
stops_then (stop.WrongShape path) first next stops = ap (λ r. and_then r next) stops
stops_then (stop.Fault f) first next stops = ap (λ r. and_then r next) stops

stops_value : {A S : Type 0} (s : Stop LoadFault) (r : Reading (Read A S) LoadFault) → Stops s r → Stops s (value_of r)
stops_value stop.Memory r stops = stops
stops_value (stop.WrongShape path) r stops = ap value_of stops
stops_value (stop.Fault f) r stops = ap value_of stops

-- two parts, one behind the other, and what is made of them
abbrev pub both_parts : {S A B C : Type 0} → (A → B → C) → Part S LoadFault A → Part S LoadFault B → Part S LoadFault C
both_parts made first second a = and_then (first a) (λ x. and_then (second x.ahead) (λ y. rule (Ok (made x.value y.value)) y.ahead))

behind_first : {S A B C : Type 0} (made : A → B → C) (first : Part S LoadFault A) (second : Part S LoadFault B) (a b : Ahead S) (x : A) → first a ≡ Ok (record { value = x; ahead = b })
    → both_parts made first second a ≡ and_then (second b) (λ y. rule (Ok (made x y.value)) y.ahead)
behind_first made first second a b x e = ap (λ r. and_then r (λ x. and_then (second x.ahead) (λ y. rule (Ok (made x.value y.value)) y.ahead))) e

pub first_stops : {S A B C : Type 0} (made : A → B → C) (first : Part S LoadFault A) (second : Part S LoadFault B) (a : Ahead S) (s : Stop LoadFault) → Stops s (first a) → Stops s (both_parts made first second a)
first_stops made first second a s stops = stops_then s (first a) (λ x. and_then (second x.ahead) (λ y. rule (Ok (made x.value y.value)) y.ahead)) stops

pub second_stops : {S A B C : Type 0} (made : A → B → C) (first : Part S LoadFault A) (second : Part S LoadFault B) (a b : Ahead S) (x : A) (s : Stop LoadFault) → first a ≡ Ok (record { value = x; ahead = b })
    → Stops s (second b) → Stops s (both_parts made first second a)
second_stops made first second a b x s e stops =
    subst (Stops s) (sym (behind_first made first second a b x e)) (stops_then s (second b) (λ y. rule (Ok (made x y.value)) y.ahead) stops)

pub both_are : {S A B C : Type 0} (made : A → B → C) (first : Part S LoadFault A) (second : Part S LoadFault B) (a b d : Ahead S) (x : A) (y : B) → first a ≡ Ok (record { value = x; ahead = b })
    → second b ≡ Ok (record { value = y; ahead = d }) → both_parts made first second a ≡ Ok (record { value = made x y; ahead = d })
both_are made first second a b d x y e f = behind_first made first second a b x e ∙ ap (λ r. and_then r (λ y. rule (Ok (made x y.value)) y.ahead)) f

-- what `assert` says, behind `msg`
abbrev with_messages : Option Datum → Option Datum → Read (Option Datum) NoArguments → Reading (Read Said NoArguments) LoadFault
with_messages fail_msg msg x = rule (Ok (record { fail_msg = fail_msg; msg = msg; success_msg = x.value })) x.ahead

behind_msg : (a b d : Ahead NoArguments) (fail_msg msg : Option Datum) → argument (codes "fail_msg") template_value a ≡ Ok (record { value = fail_msg; ahead = b })
    → argument (codes "msg") template_value b ≡ Ok (record { value = msg; ahead = d }) → said a ≡ and_then (argument (codes "success_msg") template_value d) (with_messages fail_msg msg)
behind_msg a b d fail_msg msg e f =
    ap (λ r. and_then r (λ x. and_then (argument (codes "msg") template_value x.ahead) (λ y. and_then (argument (codes "success_msg") template_value y.ahead) (with_messages x.value y.value)))) e
    ∙ ap (λ r. and_then r (λ y. and_then (argument (codes "success_msg") template_value y.ahead) (with_messages fail_msg y.value))) f

pub success_msg_stops : (a b d : Ahead NoArguments) (fail_msg msg : Option Datum) (s : Stop LoadFault) → argument (codes "fail_msg") template_value a ≡ Ok (record { value = fail_msg; ahead = b })
    → argument (codes "msg") template_value b ≡ Ok (record { value = msg; ahead = d }) → Stops s (argument (codes "success_msg") template_value d) → Stops s (said a)
success_msg_stops a b d fail_msg msg s e f stops =
    subst (Stops s) (sym (behind_msg a b d fail_msg msg e f)) (stops_then s (argument (codes "success_msg") template_value d) (with_messages fail_msg msg) stops)

pub said_is : (a b d g : Ahead NoArguments) (fail_msg msg success_msg : Option Datum) → argument (codes "fail_msg") template_value a ≡ Ok (record { value = fail_msg; ahead = b })
    → argument (codes "msg") template_value b ≡ Ok (record { value = msg; ahead = d }) → argument (codes "success_msg") template_value d ≡ Ok (record { value = success_msg; ahead = g })
    → said a ≡ Ok (record { value = record { fail_msg = fail_msg; msg = msg; success_msg = success_msg }; ahead = g })
said_is a b d g fail_msg msg success_msg e f h = behind_msg a b d fail_msg msg e f ∙ ap (λ r. and_then r (with_messages fail_msg msg)) h

-- the lists of a play, part by part
abbrev with_tasks : Written → Written → List RoleEntry → Manner → Read Written WithoutEffect → Reading (Read Lists WithoutEffect) LoadFault
with_tasks post pre roles manner x = rule (Ok (record { post_tasks = post; pre_tasks = pre; roles = roles; manner = manner; tasks = x.value })) x.ahead

abbrev with_manner : Written → Written → List RoleEntry → Read Manner WithoutEffect → Reading (Read Lists WithoutEffect) LoadFault
with_manner post pre roles x = and_then (key_or (codes "tasks") node_list Nothing x.ahead) (with_tasks post pre roles x.value)

abbrev with_roles : Written → Written → Read (List RoleEntry) WithoutEffect → Reading (Read Lists WithoutEffect) LoadFault
with_roles post pre x = and_then (manner x.ahead) (with_manner post pre x.value)

abbrev with_pre_tasks : Written → Read Written WithoutEffect → Reading (Read Lists WithoutEffect) LoadFault
with_pre_tasks post x = and_then (key_or (codes "roles") (each_of role_entry) [] x.ahead) (with_roles post x.value)

abbrev with_post_tasks : Read Written WithoutEffect → Reading (Read Lists WithoutEffect) LoadFault
with_post_tasks x = and_then (key_or (codes "pre_tasks") node_list Nothing x.ahead) (with_pre_tasks x.value)

behind_post_tasks : (a b : Ahead WithoutEffect) (post : Written) → key_or (codes "post_tasks") node_list Nothing a ≡ Ok (record { value = post; ahead = b })
    → lists a ≡ and_then (key_or (codes "pre_tasks") node_list Nothing b) (with_pre_tasks post)
behind_post_tasks a b post e = ap (λ r. and_then r with_post_tasks) e

behind_pre_tasks : (a b d : Ahead WithoutEffect) (post pre : Written) → key_or (codes "post_tasks") node_list Nothing a ≡ Ok (record { value = post; ahead = b })
    → key_or (codes "pre_tasks") node_list Nothing b ≡ Ok (record { value = pre; ahead = d }) → lists a ≡ and_then (key_or (codes "roles") (each_of role_entry) [] d) (with_roles post pre)
behind_pre_tasks a b d post pre e f = behind_post_tasks a b post e ∙ ap (λ r. and_then r (with_pre_tasks post)) f

behind_roles : (a b d g : Ahead WithoutEffect) (post pre : Written) (roles : List RoleEntry) → key_or (codes "post_tasks") node_list Nothing a ≡ Ok (record { value = post; ahead = b })
    → key_or (codes "pre_tasks") node_list Nothing b ≡ Ok (record { value = pre; ahead = d }) → key_or (codes "roles") (each_of role_entry) [] d ≡ Ok (record { value = roles; ahead = g })
    → lists a ≡ and_then (manner g) (with_manner post pre roles)
behind_roles a b d g post pre roles e f h = behind_pre_tasks a b d post pre e f ∙ ap (λ r. and_then r (with_roles post pre)) h

behind_manner : (a b d g k : Ahead WithoutEffect) (post pre : Written) (roles : List RoleEntry) (by : Manner) → key_or (codes "post_tasks") node_list Nothing a ≡ Ok (record { value = post; ahead = b })
    → key_or (codes "pre_tasks") node_list Nothing b ≡ Ok (record { value = pre; ahead = d }) → key_or (codes "roles") (each_of role_entry) [] d ≡ Ok (record { value = roles; ahead = g })
    → manner g ≡ Ok (record { value = by; ahead = k }) → lists a ≡ and_then (key_or (codes "tasks") node_list Nothing k) (with_tasks post pre roles by)
behind_manner a b d g k post pre roles by e f h i = behind_roles a b d g post pre roles e f h ∙ ap (λ r. and_then r (with_manner post pre roles)) i

pub pre_tasks_stop : (a b : Ahead WithoutEffect) (post : Written) (s : Stop LoadFault) → key_or (codes "post_tasks") node_list Nothing a ≡ Ok (record { value = post; ahead = b })
    → Stops s (key_or (codes "pre_tasks") node_list Nothing b) → Stops s (lists a)
pre_tasks_stop a b post s e stops = subst (Stops s) (sym (behind_post_tasks a b post e)) (stops_then s (key_or (codes "pre_tasks") node_list Nothing b) (with_pre_tasks post) stops)

pub roles_stop : (a b d : Ahead WithoutEffect) (post pre : Written) (s : Stop LoadFault) → key_or (codes "post_tasks") node_list Nothing a ≡ Ok (record { value = post; ahead = b })
    → key_or (codes "pre_tasks") node_list Nothing b ≡ Ok (record { value = pre; ahead = d }) → Stops s (key_or (codes "roles") (each_of role_entry) [] d) → Stops s (lists a)
roles_stop a b d post pre s e f stops =
    subst (Stops s) (sym (behind_pre_tasks a b d post pre e f)) (stops_then s (key_or (codes "roles") (each_of role_entry) [] d) (with_roles post pre) stops)

pub manner_stops : (a b d g : Ahead WithoutEffect) (post pre : Written) (roles : List RoleEntry) (s : Stop LoadFault) → key_or (codes "post_tasks") node_list Nothing a ≡ Ok (record { value = post; ahead = b })
    → key_or (codes "pre_tasks") node_list Nothing b ≡ Ok (record { value = pre; ahead = d }) → key_or (codes "roles") (each_of role_entry) [] d ≡ Ok (record { value = roles; ahead = g })
    → Stops s (manner g) → Stops s (lists a)
manner_stops a b d g post pre roles s e f h stops = subst (Stops s) (sym (behind_roles a b d g post pre roles e f h)) (stops_then s (manner g) (with_manner post pre roles) stops)

pub tasks_stop : (a b d g k : Ahead WithoutEffect) (post pre : Written) (roles : List RoleEntry) (by : Manner) (s : Stop LoadFault) → key_or (codes "post_tasks") node_list Nothing a ≡ Ok (record { value = post; ahead = b })
    → key_or (codes "pre_tasks") node_list Nothing b ≡ Ok (record { value = pre; ahead = d }) → key_or (codes "roles") (each_of role_entry) [] d ≡ Ok (record { value = roles; ahead = g })
    → manner g ≡ Ok (record { value = by; ahead = k }) → Stops s (key_or (codes "tasks") node_list Nothing k) → Stops s (lists a)
tasks_stop a b d g k post pre roles by s e f h i stops =
    subst (Stops s) (sym (behind_manner a b d g k post pre roles by e f h i)) (stops_then s (key_or (codes "tasks") node_list Nothing k) (with_tasks post pre roles by) stops)

pub lists_are : (a b d g k m : Ahead WithoutEffect) (post pre tasks : Written) (roles : List RoleEntry) (by : Manner) → key_or (codes "post_tasks") node_list Nothing a ≡ Ok (record { value = post; ahead = b })
    → key_or (codes "pre_tasks") node_list Nothing b ≡ Ok (record { value = pre; ahead = d }) → key_or (codes "roles") (each_of role_entry) [] d ≡ Ok (record { value = roles; ahead = g })
    → manner g ≡ Ok (record { value = by; ahead = k }) → key_or (codes "tasks") node_list Nothing k ≡ Ok (record { value = tasks; ahead = m })
    → lists a ≡ Ok (record { value = record { post_tasks = post; pre_tasks = pre; roles = roles; manner = by; tasks = tasks }; ahead = m })
lists_are a b d g k m post pre tasks roles by e f h i j = behind_manner a b d g k post pre roles by e f h i ∙ ap (λ r. and_then r (with_tasks post pre roles by)) j

-- what a play says in front of its hosts, behind what comes of a failure
abbrev with_handlers : OnFailure → Bool → Read (List Handler) WithoutEffect → Reading (Read BeforeHosts WithoutEffect) LoadFault
with_handlers failure gathers x = rule (Ok (record { on_failure = failure; gathers = gathers; handlers = x.value })) x.ahead

abbrev with_gathers : OnFailure → Read Bool WithoutEffect → Reading (Read BeforeHosts WithoutEffect) LoadFault
with_gathers failure x = and_then (key_or (codes "handlers") (each_of handler) [] x.ahead) (with_handlers failure x.value)

behind_failure : (a b : Ahead WithoutEffect) (failure : OnFailure) → on_failure a ≡ Ok (record { value = failure; ahead = b })
    → before_hosts a ≡ and_then (key_or (codes "gather_facts") switched true b) (with_gathers failure)
behind_failure a b failure e = ap (λ r. and_then r (λ x. and_then (key_or (codes "gather_facts") switched true x.ahead) (with_gathers x.value))) e

behind_gathers : (a b d : Ahead WithoutEffect) (failure : OnFailure) (gathers : Bool) → on_failure a ≡ Ok (record { value = failure; ahead = b })
    → key_or (codes "gather_facts") switched true b ≡ Ok (record { value = gathers; ahead = d })
    → before_hosts a ≡ and_then (key_or (codes "handlers") (each_of handler) [] d) (with_handlers failure gathers)
behind_gathers a b d failure gathers e f = behind_failure a b failure e ∙ ap (λ r. and_then r (with_gathers failure)) f

pub gathers_stop : (a b : Ahead WithoutEffect) (failure : OnFailure) (s : Stop LoadFault) → on_failure a ≡ Ok (record { value = failure; ahead = b })
    → Stops s (key_or (codes "gather_facts") switched true b) → Stops s (before_hosts a)
gathers_stop a b failure s e stops =
    subst (Stops s) (sym (behind_failure a b failure e)) (stops_then s (key_or (codes "gather_facts") switched true b) (with_gathers failure) stops)

pub handlers_stop : (a b d : Ahead WithoutEffect) (failure : OnFailure) (gathers : Bool) (s : Stop LoadFault) → on_failure a ≡ Ok (record { value = failure; ahead = b })
    → key_or (codes "gather_facts") switched true b ≡ Ok (record { value = gathers; ahead = d })
    → Stops s (key_or (codes "handlers") (each_of handler) [] d) → Stops s (before_hosts a)
handlers_stop a b d failure gathers s e f stops =
    subst (Stops s) (sym (behind_gathers a b d failure gathers e f))
    (stops_then s (key_or (codes "handlers") (each_of handler) [] d) (with_handlers failure gathers) stops)

pub before_is : (a b d g : Ahead WithoutEffect) (failure : OnFailure) (gathers : Bool) (handlers : List Handler)
    → on_failure a ≡ Ok (record { value = failure; ahead = b })
    → key_or (codes "gather_facts") switched true b ≡ Ok (record { value = gathers; ahead = d })
    → key_or (codes "handlers") (each_of handler) [] d ≡ Ok (record { value = handlers; ahead = g })
    → before_hosts a ≡ Ok (record { value = record { on_failure = failure; gathers = gathers; handlers = handlers }; ahead = g })
before_is a b d g failure gathers handlers e f h = behind_gathers a b d failure gathers e f ∙ ap (λ r. and_then r (with_handlers failure gathers)) h

-- what a play says between its hosts and its variables
abbrev with_lists : Tolerance → Option (List ℕ) → Read Lists WithoutEffect → Reading (Read AfterHosts WithoutEffect) LoadFault
with_lists borne name x = rule (Ok (record { tolerance = borne; name = name; lists = x.value })) x.ahead

abbrev with_name : Tolerance → Read (Option (List ℕ)) WithoutEffect → Reading (Read AfterHosts WithoutEffect) LoadFault
with_name borne x = and_then (lists x.ahead) (with_lists borne x.value)

behind_tolerance : (a b : Ahead WithoutEffect) (borne : Tolerance) → tolerance a ≡ Ok (record { value = borne; ahead = b }) → after_hosts a ≡ and_then (key (codes "name") text b) (with_name borne)
behind_tolerance a b borne e = ap (λ r. and_then r (λ x. and_then (key (codes "name") text x.ahead) (with_name x.value))) e

behind_name : (a b d : Ahead WithoutEffect) (borne : Tolerance) (name : Option (List ℕ)) → tolerance a ≡ Ok (record { value = borne; ahead = b }) → key (codes "name") text b ≡ Ok (record { value = name; ahead = d })
    → after_hosts a ≡ and_then (lists d) (with_lists borne name)
behind_name a b d borne name e f = behind_tolerance a b borne e ∙ ap (λ r. and_then r (with_name borne)) f

pub name_stops : (a b : Ahead WithoutEffect) (borne : Tolerance) (s : Stop LoadFault) → tolerance a ≡ Ok (record { value = borne; ahead = b }) → Stops s (key (codes "name") text b) → Stops s (after_hosts a)
name_stops a b borne s e stops = subst (Stops s) (sym (behind_tolerance a b borne e)) (stops_then s (key (codes "name") text b) (with_name borne) stops)

pub lists_stop : (a b d : Ahead WithoutEffect) (borne : Tolerance) (name : Option (List ℕ)) (s : Stop LoadFault) → tolerance a ≡ Ok (record { value = borne; ahead = b })
    → key (codes "name") text b ≡ Ok (record { value = name; ahead = d }) → Stops s (lists d) → Stops s (after_hosts a)
lists_stop a b d borne name s e f stops = subst (Stops s) (sym (behind_name a b d borne name e f)) (stops_then s (lists d) (with_lists borne name) stops)

pub after_is : (a b d g : Ahead WithoutEffect) (borne : Tolerance) (name : Option (List ℕ)) (ls : Lists) → tolerance a ≡ Ok (record { value = borne; ahead = b })
    → key (codes "name") text b ≡ Ok (record { value = name; ahead = d }) → lists d ≡ Ok (record { value = ls; ahead = g })
    → after_hosts a ≡ Ok (record { value = record { tolerance = borne; name = name; lists = ls }; ahead = g })
after_is a b d g borne name ls e f h = behind_name a b d borne name e f ∙ ap (λ r. and_then r (with_lists borne name)) h

-- a play behind that: its variables, then its other keys, then the rules over what was read
abbrev with_hosts : BeforeHosts → AfterHosts → List (List ℕ × Datum) → Read PlayHosts WithoutEffect → Reading (Read Play WithoutEffect) LoadFault
with_hosts before after vars x = rule (Ok (play_over before after vars x.value)) x.ahead

abbrev with_others : List ℕ → BeforeHosts → Option PlayHosts → AfterHosts → List (List ℕ × Datum) → Read WithoutEffect WithoutEffect → Reading (Read Play WithoutEffect) LoadFault
with_others path before hosts after vars x = and_then (rule (required path hosts) x.ahead) (with_hosts before after vars)

abbrev with_variables : List ℕ → BeforeHosts → Option PlayHosts → AfterHosts → Read (List (List ℕ × Datum)) WithoutEffect → Reading (Read Play WithoutEffect) LoadFault
with_variables path before hosts after x = and_then (others has_no_effect x.ahead) (with_others path before hosts after x.value)

abbrev with_after : List ℕ → BeforeHosts → Option PlayHosts → Read AfterHosts WithoutEffect → Reading (Read Play WithoutEffect) LoadFault
with_after path before hosts x = and_then (key_or (codes "vars") variables [] x.ahead) (with_variables path before hosts x.value)

behind_after : (path : List ℕ) (before : BeforeHosts) (hosts : Option PlayHosts) (a b : Ahead WithoutEffect) (after : AfterHosts) → after_hosts a ≡ Ok (record { value = after; ahead = b })
    → rest_of_play path before hosts a ≡ and_then (key_or (codes "vars") variables [] b) (with_variables path before hosts after)
behind_after path before hosts a b after e = ap (λ r. and_then r (with_after path before hosts)) e

behind_variables : (path : List ℕ) (before : BeforeHosts) (hosts : Option PlayHosts) (a b d : Ahead WithoutEffect) (after : AfterHosts) (vars : List (List ℕ × Datum)) → after_hosts a ≡ Ok (record { value = after; ahead = b })
    → key_or (codes "vars") variables [] b ≡ Ok (record { value = vars; ahead = d })
    → rest_of_play path before hosts a ≡ and_then (others has_no_effect d) (with_others path before hosts after vars)
behind_variables path before hosts a b d after vars e f = behind_after path before hosts a b after e ∙ ap (λ r. and_then r (with_variables path before hosts after)) f

pub after_stops : (path : List ℕ) (before : BeforeHosts) (hosts : Option PlayHosts) (a : Ahead WithoutEffect) (s : Stop LoadFault) → Stops s (after_hosts a) → Stops s (value_of (rest_of_play path before hosts a))
after_stops path before hosts a s stops = stops_value s (rest_of_play path before hosts a) (stops_then s (after_hosts a) (with_after path before hosts) stops)

pub variables_stop : (path : List ℕ) (before : BeforeHosts) (hosts : Option PlayHosts) (a b : Ahead WithoutEffect) (after : AfterHosts) (s : Stop LoadFault) → after_hosts a ≡ Ok (record { value = after; ahead = b })
    → Stops s (key_or (codes "vars") variables [] b) → Stops s (value_of (rest_of_play path before hosts a))
variables_stop path before hosts a b after s e stops =
    stops_value s (rest_of_play path before hosts a)
    (subst (Stops s) (sym (behind_after path before hosts a b after e)) (stops_then s (key_or (codes "vars") variables [] b) (with_variables path before hosts after) stops))

pub others_stop : (path : List ℕ) (before : BeforeHosts) (hosts : Option PlayHosts) (a b d : Ahead WithoutEffect) (after : AfterHosts) (vars : List (List ℕ × Datum)) (s : Stop LoadFault) → after_hosts a ≡ Ok (record { value = after; ahead = b })
    → key_or (codes "vars") variables [] b ≡ Ok (record { value = vars; ahead = d }) → Stops s (others has_no_effect d) → Stops s (value_of (rest_of_play path before hosts a))
others_stop path before hosts a b d after vars s e f stops =
    stops_value s (rest_of_play path before hosts a)
    (subst (Stops s) (sym (behind_variables path before hosts a b d after vars e f)) (stops_then s (others has_no_effect d) (with_others path before hosts after vars) stops))

value_ruled : {A B S : Type 0} (f : A → B) (r : Reading A LoadFault) (a : Ahead S) → value_of (and_then (rule r a) (λ x. rule (Ok (f x.value)) x.ahead)) ≡ map_ok f r
value_ruled f (Ok x) a = refl
value_ruled f (Err e) a = refl

pub play_is : (path : List ℕ) (before : BeforeHosts) (hosts : Option PlayHosts) (a b d g : Ahead WithoutEffect) (after : AfterHosts) (vars : List (List ℕ × Datum)) (none : WithoutEffect) → after_hosts a ≡ Ok (record { value = after; ahead = b })
    → key_or (codes "vars") variables [] b ≡ Ok (record { value = vars; ahead = d }) → others has_no_effect d ≡ Ok (record { value = none; ahead = g })
    → value_of (rest_of_play path before hosts a) ≡ map_ok (play_over before after vars) (required path hosts)
play_is path before hosts a b d g after vars none e f o =
    ap value_of (behind_variables path before hosts a b d after vars e f ∙ ap (λ r. and_then r (with_others path before hosts after vars)) o)
    ∙ value_ruled (play_over before after vars) (required path hosts) g

-- a value that is made of what a part gives
value_made : {A B S : Type 0} (f : A → B) (r : Reading (Read A S) LoadFault) → value_of (and_then r (λ x. rule (Ok (f x.value)) x.ahead)) ≡ map_ok f (value_of r)
value_made f (Ok x) = refl
value_made f (Err e) = refl

pub stops_made : {A B : Type 0} (s : Stop LoadFault) (f : A → B) (r : Reading A LoadFault) → Stops s r → Stops s (map_ok f r)
stops_made stop.Memory f r stops = stops
stops_made (stop.WrongShape path) f r stops = ap (map_ok f) stops
stops_made (stop.Fault fault) f r stops = ap (map_ok f) stops

-- what a task's keys between `loop_control` and `vars` say, part by part
abbrev with_tries : Option (List ℕ) → List (List ℕ) → Option (List ℕ) → Read Tries Modules → Reading (Read Middle Modules) LoadFault
with_tries name notify register x = rule (Ok (record { name = name; notify = notify; register = register; tries = x.value })) x.ahead

abbrev with_register : Option (List ℕ) → List (List ℕ) → Read (Option (List ℕ)) Modules → Reading (Read Middle Modules) LoadFault
with_register name notify x = and_then (tries tells_of_task x.ahead) (with_tries name notify x.value)

abbrev with_topics : Option (List ℕ) → Read (List (List ℕ)) Modules → Reading (Read Middle Modules) LoadFault
with_topics name x = and_then (field tells_of_task (codes "register") variable_name x.ahead) (with_register name x.value)

abbrev with_task_name : Read (Option (List ℕ)) Modules → Reading (Read Middle Modules) LoadFault
with_task_name x = and_then (field_or tells_of_task (codes "notify") texts [] x.ahead) (with_topics x.value)

behind_task_name : (a b : Ahead Modules) (name : Option (List ℕ)) → field tells_of_task (codes "name") text a ≡ Ok (record { value = name; ahead = b }) → middle a ≡ and_then (field_or tells_of_task (codes "notify") texts [] b) (with_topics name)
behind_task_name a b name e = ap (λ r. and_then r with_task_name) e

behind_topics : (a b d : Ahead Modules) (name : Option (List ℕ)) (notify : List (List ℕ)) → field tells_of_task (codes "name") text a ≡ Ok (record { value = name; ahead = b })
    → field_or tells_of_task (codes "notify") texts [] b ≡ Ok (record { value = notify; ahead = d }) → middle a ≡ and_then (field tells_of_task (codes "register") variable_name d) (with_register name notify)
behind_topics a b d name notify e f = behind_task_name a b name e ∙ ap (λ r. and_then r (with_topics name)) f

behind_register : (a b d g : Ahead Modules) (name : Option (List ℕ)) (notify : List (List ℕ)) (register : Option (List ℕ)) → field tells_of_task (codes "name") text a ≡ Ok (record { value = name; ahead = b })
    → field_or tells_of_task (codes "notify") texts [] b ≡ Ok (record { value = notify; ahead = d }) → field tells_of_task (codes "register") variable_name d ≡ Ok (record { value = register; ahead = g })
    → middle a ≡ and_then (tries tells_of_task g) (with_tries name notify register)
behind_register a b d g name notify register e f h = behind_topics a b d name notify e f ∙ ap (λ r. and_then r (with_register name notify)) h

pub topics_stop : (a b : Ahead Modules) (name : Option (List ℕ)) (s : Stop LoadFault) → field tells_of_task (codes "name") text a ≡ Ok (record { value = name; ahead = b })
    → Stops s (field_or tells_of_task (codes "notify") texts [] b) → Stops s (middle a)
topics_stop a b name s e stops = subst (Stops s) (sym (behind_task_name a b name e)) (stops_then s (field_or tells_of_task (codes "notify") texts [] b) (with_topics name) stops)

pub register_stops : (a b d : Ahead Modules) (name : Option (List ℕ)) (notify : List (List ℕ)) (s : Stop LoadFault) → field tells_of_task (codes "name") text a ≡ Ok (record { value = name; ahead = b })
    → field_or tells_of_task (codes "notify") texts [] b ≡ Ok (record { value = notify; ahead = d }) → Stops s (field tells_of_task (codes "register") variable_name d) → Stops s (middle a)
register_stops a b d name notify s e f stops =
    subst (Stops s) (sym (behind_topics a b d name notify e f)) (stops_then s (field tells_of_task (codes "register") variable_name d) (with_register name notify) stops)

pub tries_stop : (a b d g : Ahead Modules) (name : Option (List ℕ)) (notify : List (List ℕ)) (register : Option (List ℕ)) (s : Stop LoadFault) → field tells_of_task (codes "name") text a ≡ Ok (record { value = name; ahead = b })
    → field_or tells_of_task (codes "notify") texts [] b ≡ Ok (record { value = notify; ahead = d }) → field tells_of_task (codes "register") variable_name d ≡ Ok (record { value = register; ahead = g })
    → Stops s (tries tells_of_task g) → Stops s (middle a)
tries_stop a b d g name notify register s e f h stops =
    subst (Stops s) (sym (behind_register a b d g name notify register e f h)) (stops_then s (tries tells_of_task g) (with_tries name notify register) stops)

pub middle_is : (a b d g k : Ahead Modules) (name : Option (List ℕ)) (notify : List (List ℕ)) (register : Option (List ℕ)) (tried : Tries) → field tells_of_task (codes "name") text a ≡ Ok (record { value = name; ahead = b })
    → field_or tells_of_task (codes "notify") texts [] b ≡ Ok (record { value = notify; ahead = d }) → field tells_of_task (codes "register") variable_name d ≡ Ok (record { value = register; ahead = g })
    → tries tells_of_task g ≡ Ok (record { value = tried; ahead = k })
    → middle a ≡ Ok (record { value = record { name = name; notify = notify; register = register; tries = tried }; ahead = k })
middle_is a b d g k name notify register tried e f h i = behind_register a b d g name notify register e f h ∙ ap (λ r. and_then r (with_tries name notify register)) i

-- a task behind its keys up to `until`
abbrev called_by : Begun → List (List ℕ × Datum) → List Tree → Module → Task
called_by begun vars asked m = begun_task begun vars m asked

abbrev with_module : List ℕ → Begun → List (List ℕ × Datum) → Read (List Tree) Modules → Reading (Read Task Modules) LoadFault
with_module path begun vars x = and_then (module_at path begun.middle.tries x.ahead) (λ y. rule (Ok (begun_task begun vars y.value x.value)) y.ahead)

abbrev with_conditions : List ℕ → Begun → Read (List (List ℕ × Datum)) Modules → Reading (Read Task Modules) LoadFault
with_conditions path begun x = and_then (field_or tells_of_task (codes "when") conditions [] x.ahead) (with_module path begun x.value)

task_behind : (path : List ℕ) (begun : Begun) (a b d : Ahead Modules) (vars : List (List ℕ × Datum)) (asked : List Tree) → field_or tells_of_task (codes "vars") variables [] a ≡ Ok (record { value = vars; ahead = b })
    → field_or tells_of_task (codes "when") conditions [] b ≡ Ok (record { value = asked; ahead = d })
    → value_of (last_of_task path begun a) ≡ map_ok (called_by begun vars asked) (value_of (module_at path begun.middle.tries d))
task_behind path begun a b d vars asked e f =
    ap (λ r. value_of (and_then r (with_conditions path begun))) e
    ∙ ap (λ r. value_of (and_then r (with_module path begun vars))) f
    ∙ value_made (called_by begun vars asked) (module_at path begun.middle.tries d)

pub module_stops : (path : List ℕ) (begun : Begun) (a b d : Ahead Modules) (vars : List (List ℕ × Datum)) (asked : List Tree) (s : Stop LoadFault)
    → field_or tells_of_task (codes "vars") variables [] a ≡ Ok (record { value = vars; ahead = b }) → field_or tells_of_task (codes "when") conditions [] b ≡ Ok (record { value = asked; ahead = d })
    → Stops s (value_of (module_at path begun.middle.tries d)) → Stops s (value_of (last_of_task path begun a))
module_stops path begun a b d vars asked s e f stops =
    subst (Stops s) (sym (task_behind path begun a b d vars asked e f)) (stops_made s (called_by begun vars asked) (value_of (module_at path begun.middle.tries d)) stops)

pub task_is : (path : List ℕ) (begun : Begun) (a b d : Ahead Modules) (vars : List (List ℕ × Datum)) (asked : List Tree) (m : Module) → field_or tells_of_task (codes "vars") variables [] a ≡ Ok (record { value = vars; ahead = b })
    → field_or tells_of_task (codes "when") conditions [] b ≡ Ok (record { value = asked; ahead = d }) → value_of (module_at path begun.middle.tries d) ≡ Ok m
    → value_of (last_of_task path begun a) ≡ Ok (begun_task begun vars m asked)
task_is path begun a b d vars asked m e f is = task_behind path begun a b d vars asked e f ∙ ap (map_ok (called_by begun vars asked)) is

-- a handler behind its topics and its loop
abbrev listening : List (List ℕ) → Task → Handler
listening topics task = record { task = task; listens = topics }

abbrev with_task : List (List ℕ) → Read Task Modules → Reading (Read Handler Modules) LoadFault
with_task topics x = rule (Ok (record { task = x.value; listens = topics })) x.ahead

handler_behind : (path : List ℕ) (t : Head) (a b d : Ahead Modules) (topics : List (List ℕ)) (repeated : Option Loop) → field_or tells_of_task (codes "listen") texts [] a ≡ Ok (record { value = topics; ahead = b })
    → looping b ≡ Ok (record { value = repeated; ahead = d }) → value_of (rest_of_handler path t a) ≡ map_ok (listening topics) (value_of (rest_of_task path t repeated d))
handler_behind path t a b d topics repeated e f =
    ap (λ r. value_of (and_then r (λ x. and_then (looping x.ahead) (λ y. and_then (rest_of_task path t y.value y.ahead) (with_task x.value))))) e
    ∙ ap (λ r. value_of (and_then r (λ y. and_then (rest_of_task path t y.value y.ahead) (with_task topics)))) f
    ∙ value_made (listening topics) (rest_of_task path t repeated d)

pub handler_stops : (path : List ℕ) (t : Head) (a b d : Ahead Modules) (topics : List (List ℕ)) (repeated : Option Loop) (s : Stop LoadFault)
    → field_or tells_of_task (codes "listen") texts [] a ≡ Ok (record { value = topics; ahead = b }) → looping b ≡ Ok (record { value = repeated; ahead = d })
    → Stops s (value_of (rest_of_task path t repeated d)) → Stops s (value_of (rest_of_handler path t a))
handler_stops path t a b d topics repeated s e f stops = subst (Stops s) (sym (handler_behind path t a b d topics repeated e f)) (stops_made s (listening topics) (value_of (rest_of_task path t repeated d)) stops)

pub handler_is : (path : List ℕ) (t : Head) (a b d : Ahead Modules) (topics : List (List ℕ)) (repeated : Option Loop) (task : Task)
    → field_or tells_of_task (codes "listen") texts [] a ≡ Ok (record { value = topics; ahead = b }) → looping b ≡ Ok (record { value = repeated; ahead = d })
    → value_of (rest_of_task path t repeated d) ≡ Ok task → value_of (rest_of_handler path t a) ≡ Ok (record { task = task; listens = topics })
handler_is path t a b d topics repeated task e f is = handler_behind path t a b d topics repeated e f ∙ ap (map_ok (listening topics)) is
