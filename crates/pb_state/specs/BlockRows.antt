-- Worked runs through blocks, and of tasks of `meta`.
use Rattle.std.specs.Prelude.{◌≡◌, ℕ, pos, true, false, List, [], ◌∷◌, ◌++◌, map, codes, Option, Some, refl}
use Rattle.pb_value.specs.Datum.{text}
use Rattle.pb_expr_syntax.specs.Tree as tree
use Rattle.pb_outcome.specs.declared.outcome.Form.{Form}
use Rattle.pb_outcome.specs.declared.outcome.Form.TheVariants.{Ran, Unreachable as NoAnswer}
use Rattle.pb_play.specs.declared.modules.Meta.TheVariants.{Noop, EndHost}
use Rattle.pb_play.specs.declared.modules.Module.TheVariants.{Debug, Fail, Meta as CalledMeta, Shell}
use Rattle.pb_places.specs.Place.{PlaceOf, bare_place}
use Rattle.pb_plan.specs.Plan.{PlayOf, PlanOf, bare_play, bare_plan}
use Rattle.pb_tree.specs.Tree.{Nodes, Nothing, Task, Block, Flush}
use Rattle.pb_tree.specs.declared.tree.Status.{Status}
use Rattle.pb_tree.specs.declared.tree.Status.TheVariants as status
use Rattle.pb_state.specs.declared.event.Event.{Event}
use Rattle.pb_state.specs.declared.event.Event.TheVariants.{Open, Start, Send, Report as Reported, Turn, Close}
use Rattle.pb_host.specs.FactRows.{on_facts}
use Rattle.pb_state.specs.Machine.{first_state}
use Rattle.pb_state.specs.Once.{StartOf, starts_from}
use Rattle.pb_host.specs.Host.{HostOf}
use Rattle.pb_state.specs.Run.{IsLegalUnder, state_after_under}
use Rattle.pb_state.specs.State.{State}

abbrev pub says : PlaceOf
says = bare_place (codes "debug") (Debug (text (codes "hi")))

abbrev pub runs : PlaceOf
runs = bare_place (codes "shell") (Shell (codes "run"))

abbrev pub refuses : PlaceOf
refuses = bare_place (codes "fail") (Fail (text (codes "no")))

abbrev pub ends : PlaceOf
ends = bare_place (codes "meta") (CalledMeta EndHost)

-- a task of `meta` whose condition can't be read
abbrev pub unread : PlaceOf
unread = record ends { conditions = tree.Name (codes "x") ∷ [] }

abbrev pub caught : PlaceOf → PlaceOf
caught place = record place { is_caught = true }

-- one host, and a play with these nodes behind its first Flush
abbrev pub a_play : Nodes → List PlaceOf → PlayOf
a_play nodes places = bare_play (codes "all") (record { nodes = Flush nodes; handlers = 0; force_handlers = false }) places (true ∷ [])

abbrev pub alone : List PlayOf → PlanOf
alone plays = bare_plan (codes "a" ∷ []) plays

-- the last two Flushes of a play without post_tasks
abbrev pub last : Nodes
last = Flush (Flush Nothing)

abbrev pub start : Event
start = Start (record { 0 = 0 })

abbrev pub comes : Form → Event
comes outcome = Reported (record { ticket = record { 0 = 0 }; host = record { 0 = 0 }; item = 0; attempt = 1; outcome = outcome })

abbrev pub after_of : PlanOf → List Event → State
after_of plan events = state_after_under plan 5 5 events

abbrev pub statuses : PlanOf → List Event → List Status
statuses plan events = map (λ (row : HostOf). row.status) (after_of plan events).rows

abbrev pub starts_at : PlanOf → List Event → List (Option ℕ)
starts_at plan events = map (λ (x : StartOf). x.place) (starts_from plan (first_state plan 5 5) events)

-- ---- a rescue
-- a block of a message and a command, with a rescue of one task, and an always part and then a task of a message each
abbrev pub rescued_by : PlaceOf → PlanOf
rescued_by rescue = alone (a_play (Block (Task (Task Nothing)) (Task Nothing) (Task Nothing) (Task last)) (caught says ∷ caught runs ∷ rescue ∷ says ∷ says ∷ []) ∷ [])

-- the command comes to this
abbrev pub body_ends : Form → List Event
body_ends outcome = Open ∷ start ∷ Turn ∷ start ∷ Send (record { 0 = 0 }) 0 1 (record { 0 = 0 }) ∷ comes outcome ∷ []

-- and then comes the rest
abbrev pub body_comes : Form → List Event → List Event
body_comes outcome rest = body_ends outcome ++ Turn ∷ rest

abbrev pub rescued_run : List Event
rescued_run = body_comes (Ran (pos 1) [] []) (start ∷ Turn ∷ start ∷ Turn ∷ start ∷ Turn ∷ Close ∷ [])

may_be_rescued : IsLegalUnder (rescued_by says) 5 5 rescued_run
unfolding on_facts
may_be_rescued = refl

-- a completed rescue clears the failure
is_rescued : statuses (rescued_by says) rescued_run ≡ status.Active ∷ []
unfolding on_facts
is_rescued = refl

rescued_at : starts_at (rescued_by says) rescued_run ≡ Some 0 ∷ Some 1 ∷ Some 2 ∷ Some 3 ∷ Some 4 ∷ []
unfolding on_facts
rescued_at = refl

-- a rescue that fails
abbrev pub failed_run : List Event
failed_run = body_comes (Ran (pos 1) [] []) (start ∷ Turn ∷ start ∷ Turn ∷ Close ∷ [])

may_fail : IsLegalUnder (rescued_by refuses) 5 5 failed_run
unfolding on_facts
may_fail = refl

has_failed : statuses (rescued_by refuses) failed_run ≡ status.Failed ∷ []
unfolding on_facts
has_failed = refl

-- until its walk is over the host is active, also before the always part
still_active : statuses (rescued_by refuses) (body_comes (Ran (pos 1) [] []) (start ∷ [])) ≡ status.Active ∷ []
unfolding on_facts
still_active = refl

-- a host that can't be reached enters neither part
abbrev pub lost_run : List Event
lost_run = body_comes (NoAnswer (codes "no route")) (Close ∷ [])

may_be_lost : IsLegalUnder (rescued_by says) 5 5 lost_run
unfolding on_facts
may_be_lost = refl

is_lost : statuses (rescued_by says) lost_run ≡ status.Gone ∷ []
unfolding on_facts
is_lost = refl

-- an always part that fails, behind what went well: its failure isn't cleared, and what stands behind the block isn't walked
abbrev pub always_fails : PlanOf
always_fails = alone (a_play (Block (Task Nothing) Nothing (Task Nothing) (Task last)) (says ∷ refuses ∷ says ∷ []) ∷ [])

abbrev pub always_fails_run : List Event
always_fails_run = Open ∷ start ∷ Turn ∷ start ∷ Turn ∷ Close ∷ []

may_fail_in_always : IsLegalUnder always_fails 5 5 always_fails_run
unfolding on_facts
may_fail_in_always = refl

fails_in_always : statuses always_fails always_fails_run ≡ status.Failed ∷ []
unfolding on_facts
fails_in_always = refl

-- ---- tasks of `meta`
-- a host that ends its play by itself is active in the next one
abbrev pub ends_between : PlaceOf → PlayOf
ends_between place = a_play (Task (Task (Task last))) (says ∷ place ∷ says ∷ [])

abbrev pub two_plays : PlanOf
two_plays = alone (ends_between ends ∷ ends_between ends ∷ [])

abbrev pub ending_run : List Event
ending_run = Open ∷ start ∷ Turn ∷ start ∷ Turn ∷ Close ∷ Open ∷ start ∷ Turn ∷ start ∷ Turn ∷ Close ∷ []

may_end_twice : IsLegalUnder two_plays 5 5 ending_run
unfolding on_facts
may_end_twice = refl

ends_active : statuses two_plays ending_run ≡ status.Active ∷ []
unfolding on_facts
ends_active = refl

-- one that is left out ends nothing, nor does `noop`
abbrev pub goes_on_run : List Event
goes_on_run = Open ∷ start ∷ Turn ∷ start ∷ Turn ∷ start ∷ Turn ∷ Close ∷ []

abbrev pub left_out : PlanOf
left_out = alone (ends_between (record ends { conditions = tree.Truth false ∷ [] }) ∷ [])

may_be_left_out : IsLegalUnder left_out 5 5 goes_on_run
unfolding on_facts
may_be_left_out = refl

abbrev pub does_nothing : PlanOf
does_nothing = alone (ends_between (bare_place (codes "meta") (CalledMeta Noop)) ∷ [])

may_do_nothing : IsLegalUnder does_nothing 5 5 goes_on_run
unfolding on_facts
may_do_nothing = refl

-- an always part that ends the play leaves a host active that had failed before it
abbrev pub ends_after : PlanOf
ends_after = alone (a_play (Block (Task Nothing) Nothing (Task Nothing) last) (refuses ∷ ends ∷ []) ∷ [])

abbrev pub ends_after_run : List Event
ends_after_run = Open ∷ start ∷ Turn ∷ start ∷ Turn ∷ Close ∷ []

stays_active : statuses ends_after ends_after_run ≡ status.Active ∷ []
unfolding on_facts
stays_active = refl

-- one whose condition can't be read fails, where a rescue clears that and where none does
abbrev pub unread_rescued : PlanOf
unread_rescued = alone (a_play (Block (Task Nothing) (Task Nothing) Nothing last) (caught unread ∷ says ∷ []) ∷ [])

abbrev pub unread_rescued_run : List Event
unread_rescued_run = Open ∷ start ∷ Turn ∷ start ∷ Turn ∷ Close ∷ []

may_read_nothing : IsLegalUnder unread_rescued 5 5 unread_rescued_run
unfolding on_facts
may_read_nothing = refl

abbrev pub unread_alone : PlanOf
unread_alone = alone (a_play (Task (Task last)) (unread ∷ says ∷ []) ∷ [])

abbrev pub unread_run : List Event
unread_run = Open ∷ start ∷ Turn ∷ Close ∷ []

unread_fails : statuses unread_alone unread_run ≡ status.Failed ∷ []
unfolding on_facts
unread_fails = refl
