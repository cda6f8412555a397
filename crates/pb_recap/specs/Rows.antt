-- Worked recaps.
use Rattle.std.specs.Prelude.{◌≡◌, ⊤, ℕ, pos, true, false, List, [], ◌∷◌, ◌++◌, codes, None, refl}
use Rattle.std.specs.Fmt.{digits}
use Rattle.serde_json.proofs.OnLiterals.{serde_json_on_literals}
use Rattle.pb_value.specs.Datum.{text}
use Rattle.pb_state.specs.FromTaskVars.{on_tasks}
use Rattle.pb_host.specs.declared.step_result.TaskEnd.{TaskEnd}
use Rattle.pb_outcome.specs.declared.outcome.Form.{Form}
use Rattle.pb_outcome.specs.declared.outcome.Form.TheVariants.{Ran, Unreachable as NoAnswer}
use Rattle.pb_play.specs.declared.modules.Module.TheVariants.{Debug, Shell}
use Rattle.pb_state.specs.declared.event.Event.{Event}
use Rattle.pb_state.specs.declared.event.Event.TheVariants.{Open, Start, Send, Report as Reported, Turn, Close}
use Rattle.pb_host.specs.declared.host.Counts.{Counts}
use Rattle.pb_places.specs.Place.{bare_place}
use Rattle.pb_plan.specs.Plan.{PlanOf, bare_play, bare_plan, bare_tree}
use Rattle.pb_host.specs.Host.{none_counted}
use Rattle.pb_state.specs.Run.{IsLegalUnder}
use Rattle.pb_lanes.specs.declared.kind.CountKind.TheVariants.{Okay, Changed, Unreachable, Failed, Ignored}
use Rattle.pb_lanes.specs.ColumnsOf.{ColumnsOf, bumped, no_counts}
use Rattle.pb_recap.specs.InColumns.{counts_of, rows_of, with_counts}
use Rattle.pb_recap.specs.Kinds.{count_of, status_of}
use Rattle.pb_recap.specs.Recap.{recap, counts_under}
use Rattle.pb_recap.specs.Text.{recap_text}
use Rattle.pb_recap.specs.Stats.{stats_line, line_data}

-- what computes a row
unfoldable on_literals : ⊤
unfolding line_data digits serde_json_on_literals on_tasks
on_literals = tt

-- two hosts, and a play with one task
abbrev two_hosts : PlanOf
two_hosts =
    bare_plan (codes "b" ∷ codes "a" ∷ [])
    (bare_play (codes "all") (bare_tree 0 1 0) (bare_place (codes "hi") (Debug (text (codes "hello"))) ∷ []) (true ∷ true ∷ []) ∷ [])

abbrev one_okay : Counts
one_okay = record none_counted { ok = 1 }

abbrev one_failed : Counts
one_failed = record none_counted { failed = 1 }

abbrev one_lost : Counts
one_lost = record none_counted { unreachable = 1 }

both_ran : recap two_hosts 5 (Open ∷ Start (record { 0 = 0 }) ∷ Start (record { 0 = 1 }) ∷ Turn ∷ Close ∷ []) ≡ one_okay ∷ one_okay ∷ []
unfolding on_tasks
both_ran = refl

one_ran : recap two_hosts 5 (Open ∷ Start (record { 0 = 1 }) ∷ []) ≡ none_counted ∷ one_okay ∷ []
unfolding on_tasks
one_ran = refl

-- hosts stand in the order of their numbers
text_of_both : recap_text two_hosts.inventory.hosts (one_okay ∷ one_okay ∷ [])
    ≡ codes "PLAY RECAP\nb : ok=1 changed=0 unreachable=0 failed=0 skipped=0 rescued=0 ignored=0\na : ok=1 changed=0 unreachable=0 failed=0 skipped=0 rescued=0 ignored=0\n"
unfolding on_literals
text_of_both = refl

-- a host without a count isn't named
text_of_one : recap_text two_hosts.inventory.hosts (none_counted ∷ one_okay ∷ [])
    ≡ codes "PLAY RECAP\na : ok=1 changed=0 unreachable=0 failed=0 skipped=0 rescued=0 ignored=0\n"
unfolding on_literals
text_of_one = refl

-- here hosts stand in byte order
stats_of_both : stats_line two_hosts.inventory.hosts (one_okay ∷ one_okay ∷ [])
    ≡ codes "{\"event\":\"playbook_on_stats\",\"stats\":{"
    ++ codes "\"a\":{\"changed\":0,\"failed\":0,\"ignored\":0,\"ok\":1,\"rescued\":0,\"skipped\":0,\"unreachable\":0},"
    ++ codes "\"b\":{\"changed\":0,\"failed\":0,\"ignored\":0,\"ok\":1,\"rescued\":0,\"skipped\":0,\"unreachable\":0}}}\n"
unfolding on_literals
stats_of_both = refl

stats_of_none : stats_line two_hosts.inventory.hosts (none_counted ∷ none_counted ∷ []) ≡ codes "{\"event\":\"playbook_on_stats\",\"stats\":{}}\n"
unfolding on_literals
stats_of_none = refl

text_of_none : recap_text [] [] ≡ codes "PLAY RECAP\n"
text_of_none = refl

status_of_failure : status_of (one_lost ∷ one_failed ∷ []) ≡ 2
status_of_failure = refl

status_of_loss : status_of (one_okay ∷ one_lost ∷ []) ≡ 4
status_of_loss = refl

status_of_good : status_of (one_okay ∷ none_counted ∷ []) ≡ 0
status_of_good = refl

-- columns of three hosts, of which the last one has a task that went well and the one before it a failure
abbrev three_hosts : ColumnsOf
three_hosts = bumped Failed 1 (bumped Okay 2 (no_counts 3))

rows_of_three : rows_of three_hosts ≡ none_counted ∷ one_failed ∷ one_okay ∷ []
rows_of_three = refl

rows_of_none : rows_of (no_counts 0) ≡ []
rows_of_none = refl

-- what is put down of a host stands in its row alone
rows_with_loss : rows_of (with_counts 1 one_lost three_hosts) ≡ none_counted ∷ one_lost ∷ one_okay ∷ []
rows_with_loss = refl

count_of_the_last : count_of Okay (counts_of three_hosts 2) ≡ 1
count_of_the_last = refl

-- a number that is no host's has no counts
counts_past : counts_of three_hosts 3 ≡ none_counted
counts_past = refl

-- a command on both hosts, and then a message
abbrev commanded : PlanOf
commanded =
    bare_plan (codes "a" ∷ codes "b" ∷ [])
    (bare_play (codes "all") (bare_tree 0 2 0)
    (bare_place (codes "one") (Shell (codes "true")) ∷ bare_place (codes "two") (Debug (text (codes "hello"))) ∷ [])
    (true ∷ true ∷ []) ∷ [])

abbrev comes : ℕ → Form → Event
comes h outcome = Reported (record { ticket = record { 0 = h }; host = record { 0 = h }; item = 0; attempt = 1; outcome = outcome })

-- the first host's command goes well, and the second's so
abbrev ends_so : Form → List Event
ends_so outcome =
    Open ∷ Start (record { 0 = 0 }) ∷ Send (record { 0 = 0 }) 0 1 (record { 0 = 0 }) ∷ Start (record { 0 = 1 }) ∷ Send (record { 0 = 1 }) 0 1 (record { 0 = 1 })
    ∷ comes 0 (Ran (pos 0) [] []) ∷ comes 1 outcome ∷ Turn ∷ Start (record { 0 = 0 }) ∷ Turn ∷ Close ∷ []

may_end_so : IsLegalUnder commanded 5 5 (ends_so (Ran (pos 1) [] []))
unfolding on_tasks
may_end_so = refl

-- a host whose task failed takes no further part
with_a_failure : recap commanded 5 (ends_so (Ran (pos 1) [] [])) ≡ record none_counted { ok = 2; changed = 1 } ∷ one_failed ∷ []
unfolding on_tasks
with_a_failure = refl

with_a_loss : recap commanded 5 (ends_so (NoAnswer (codes "no route"))) ≡ record none_counted { ok = 2; changed = 1 } ∷ one_lost ∷ []
unfolding on_tasks
with_a_loss = refl

-- as long as a job is out its task counts nowhere
still_out : recap commanded 5 (Open ∷ Start (record { 0 = 0 }) ∷ Send (record { 0 = 0 }) 0 1 (record { 0 = 0 }) ∷ []) ≡ none_counted ∷ none_counted ∷ []
unfolding on_tasks
still_out = refl

-- a failure that is ignored counts as a task that went well, and as ignored
abbrev ignored_change : TaskEnd
ignored_change = record { result = record { unreachable = false; failed = true; skipped = false; changed = true; ignored = true }; is_caught = false; meta = None }

ignored_is_okay : counts_under Okay ignored_change ≡ true
ignored_is_okay = refl

ignored_is_changed : counts_under Changed ignored_change ≡ true
ignored_is_changed = refl

ignored_is_ignored : counts_under Ignored ignored_change ≡ true
ignored_is_ignored = refl

ignored_is_no_failure : counts_under Failed ignored_change ≡ false
ignored_is_no_failure = refl

-- what changed before the host was lost isn't counted
abbrev lost_after_change : TaskEnd
lost_after_change = record { result = record { unreachable = true; failed = false; skipped = false; changed = true; ignored = false }; is_caught = false; meta = None }

lost_is_unreachable : counts_under Unreachable lost_after_change ≡ true
lost_is_unreachable = refl

lost_is_not_changed : counts_under Changed lost_after_change ≡ false
lost_is_not_changed = refl
