-- Worked runs: plays with hosts of their own.
use Rattle.std.specs.Prelude.{◌≡◌, Bool, true, false, List, [], ◌∷◌, map, codes, Some, None, refl}
use Rattle.pb_value.specs.Datum.{text}
use Rattle.pb_tree.specs.declared.tree.Status.TheVariants as stays
use Rattle.pb_play.specs.declared.modules.Module.TheVariants.{Debug}
use Rattle.pb_task_vars.specs.Results.{on_tasks}
use Rattle.pb_state.specs.declared.event.Event.{Event}
use Rattle.pb_state.specs.declared.event.Event.TheVariants.{Open, Start, Turn, Close}
use Rattle.pb_places.specs.Place.{bare_place}
use Rattle.pb_plan.specs.Plan.{PlayOf, PlanOf, bare_play, bare_plan, bare_tree}
use Rattle.pb_host.specs.Host.{HostOf, first_row}
use Rattle.pb_state.specs.State.{State}
use Rattle.pb_hosts.specs.Hosts.{first_play}
use Rattle.pb_state.specs.Machine.{possible}
use Rattle.pb_state.specs.Run.{IsLegalUnder, state_after_under}

-- a play with one task
abbrev play_on : List Bool → PlayOf
play_on hosts = bare_play (codes "p") (bare_tree 0 1 0) (bare_place (codes "hi") (Debug (text (codes "hello"))) ∷ []) hosts

-- three plays for two hosts: the first is the first host's, the second has no hosts, and the third is the second host's
abbrev three_plays : PlanOf
three_plays = bare_plan (codes "a" ∷ codes "b" ∷ []) (play_on (true ∷ []) ∷ play_on (false ∷ false ∷ []) ∷ play_on (false ∷ true ∷ []) ∷ [])

abbrev led_to : List Event → State
led_to events = state_after_under three_plays 5 5 events

abbrev a : Event
a = Start (record { 0 = 0 })

abbrev b : Event
b = Start (record { 0 = 1 })

abbrev batch_of : State → List Bool
batch_of s = map (λ (row : HostOf). row.in_batch) s.rows

abbrev whole : List Event
whole = Open ∷ a ∷ Turn ∷ Close ∷ Open ∷ b ∷ Turn ∷ Close ∷ []

is_whole_run : IsLegalUnder three_plays 5 5 whole
unfolding on_tasks
is_whole_run = refl

-- the second host isn't in the first play
first_batch : batch_of (led_to (Open ∷ [])) ≡ true ∷ false ∷ []
unfolding on_tasks
first_batch = refl

starts_outside : possible three_plays (led_to (Open ∷ [])) b ≡ false
unfolding on_tasks
starts_outside = refl

-- the second play is passed over
passes_over : (led_to (Open ∷ a ∷ Turn ∷ Close ∷ Open ∷ [])).play ≡ 2
unfolding on_tasks
passes_over = refl

last_batch : batch_of (led_to (Open ∷ a ∷ Turn ∷ Close ∷ Open ∷ [])) ≡ false ∷ true ∷ []
unfolding on_tasks
last_batch = refl

no_play_left : possible three_plays (led_to whole) Open ≡ false
unfolding on_tasks
no_play_left = refl

-- so is a play whose hosts failed
abbrev failed_row : HostOf
failed_row = record (first_row 0) { status = stays.Failed }

passes_failed : first_play (failed_row ∷ first_row 1 ∷ []) 0 (play_on (true ∷ []) ∷ play_on (true ∷ true ∷ []) ∷ []) ≡ Some 1
passes_failed = refl

no_hosts : first_play (failed_row ∷ first_row 1 ∷ []) 0 (play_on (true ∷ false ∷ []) ∷ []) ≡ None
no_hosts = refl
