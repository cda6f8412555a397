-- What a line becomes, and what is kept of it for the next one.
use Rattle.std.specs.Prelude.{ℕ, ◌+◌, ◌-◌, ◌^◌, min, nat_eq, decimal, ◌==◌, Bool, true, false, not, ◌&&◌, List, [], ◌∷◌, ◌++◌, length, slice_get, Option, Some, None, is_some, option_map, option_and_then, codes, if◌then◌else◌}
use Rattle.std.specs.Option.{option_map_or}
use Rattle.std.specs.Str.{bytes_eq}
use Rattle.serde_json.specs.Data.{Data}
use Rattle.pb_value.specs.Bytes.{json_in}
use Rattle.pb_show.specs.Banners.{play_text, task_text, notice_text, started_text, begun_text}
use Rattle.pb_show.specs.Reading.{text_at, whole_at, kind_in, ended_in, play_in, task_in, notice_in, totals_in}
use Rattle.pb_show.specs.Results.{ended_text, is_failure}
use Rattle.pb_show.specs.declared.ended.Ended.{Ended}
use Rattle.pb_show.specs.declared.kind.How.{How}
use Rattle.pb_show.specs.declared.kind.Kind.{Kind}
use Rattle.pb_show.specs.declared.kind.Kind.TheVariants as kind
use Rattle.pb_show.specs.declared.look.Look.{Look}
use Rattle.pb_show.specs.declared.showing.Failure.{Failure}
use Rattle.pb_show.specs.declared.showing.Phase.TheVariants.{Nothing, Going, Over}
use Rattle.pb_show.specs.declared.showing.Showing.{Showing}
use Rattle.pb_show.specs.declared.notices.Notice.{Notice}
use Rattle.pb_show.specs.declared.notices.Play.{Play}
use Rattle.pb_show.specs.declared.notices.Task.{Task}
use Rattle.pb_show.specs.declared.notices.Totals.{Totals}

-- a text, and what is kept behind it
pub record Shown : Type 0 where
  pub text : List ℕ
  pub state : Showing

-- before all lines
abbrev pub start : Showing
start = record { tasks = []; place = []; first = None; phase = Nothing; is_torn = false; hosts = 0; ended = 0 }

-- behind an event that changes neither play nor task
abbrev pub going : Showing → Showing
going s = record s { phase = Going; is_torn = false }

-- ---- the task of a result
-- a task that no line started, as one of `meta` whose conditions can't be read
abbrev pub unknown : List ℕ → Task
unknown place = record { place = place; name = codes "at place " ++ place; is_handler = false }

-- the task at a place, of those that started
abbrev pub task_for : List Task → List ℕ → Task
task_for [] place = unknown place
task_for (task ∷ tasks) place = if bytes_eq task.place place then task else task_for tasks place

-- the banner of a result's task, where another one was shown last
abbrev pub banner_for : Showing → List ℕ → List ℕ
banner_for s place = if bytes_eq s.place place then [] else task_text (task_for s.tasks place)

-- ---- failures
-- whether a failure is the first that counts: a host's, which isn't ignored
abbrev pub is_first : Showing → Ended → Bool
is_first s e = not (is_some s.first) && not (is_some e.item) && is_failure e.ending

-- the host of a failure, and the name of its task
abbrev pub failure_of : Showing → Ended → Failure
failure_of s e = record { host = e.host; task = (task_for s.tasks e.place).name }

-- what is kept, with this failure if it is the first that counts
abbrev pub noted : Showing → Ended → Showing
noted s e = if is_first s e then record s { first = Some (failure_of s e) } else s

-- ---- hosts that have ended the task whose banner was shown last
abbrev pub ended_before : Showing → Ended → ℕ
ended_before s e = if bytes_eq s.place e.place then s.ended else 0

-- with this one, unless it is an item's
abbrev pub ended_after : Showing → Ended → ℕ
ended_after s e = if is_some e.item then ended_before s e else min (ended_before s e + 1) (2 ^ 64 - 1)

-- as it stands on a terminal behind what is shown
unfoldable pub progress_text : Showing → List ℕ
progress_text s = if nat_eq s.hosts 0 then [] else codes "[" ++ decimal s.ended ++ codes "/" ++ decimal s.hosts ++ codes " hosts]"

-- ---- events
abbrev pub after_play : Showing → Play → Showing
after_play s play = going (record s { tasks = []; place = []; hosts = play.hosts; ended = 0 })

-- behind the start of a task or a handler: its banner is the one that was shown last
abbrev pub after_task : Showing → Task → Showing
after_task s task = going (record s { tasks = s.tasks ++ task ∷ []; place = task.place; ended = 0 })

-- behind a result: the banner of its task is the one that was shown last
abbrev pub after_ended : Showing → Ended → Showing
after_ended s e = going (record (noted s e) { place = e.place; ended = ended_after s e })

-- behind the statistics: the run is over
abbrev pub after_totals : Showing → Totals → Showing
after_totals s totals = record s { phase = Over totals; is_torn = false }

-- what the start of a run becomes, and then each other kind of event; none where the object lacks a key that it has to have
abbrev pub begun_shown : Look → Showing → Data → Option Shown
begun_shown look s d = option_map (λ plays. record { text = begun_text look plays; state = going s }) (whole_at (codes "plays") d)

abbrev pub play_shown : Showing → Data → Option Shown
play_shown s d = option_map (λ (play : Play). record { text = play_text play; state = after_play s play }) (play_in d)

abbrev pub task_shown : Bool → Showing → Data → Option Shown
task_shown is_handler s d = option_map (λ (task : Task). record { text = task_text task; state = after_task s task }) (task_in is_handler d)

abbrev pub started_shown : Look → Showing → Data → Option Shown
started_shown look s d = option_map (λ host. record { text = started_text look host; state = going s }) (text_at (codes "host") d)

-- a result stands under the banner of its task; the flag says whether it is that of an item or an attempt
abbrev pub ended_shown : Look → How → Bool → Showing → Data → Option Shown
ended_shown look how is_item s d =
    option_map (λ (e : Ended). record { text = banner_for s e.place ++ ended_text look e; state = after_ended s e }) (ended_in how is_item d)

abbrev pub notice_shown : Showing → Data → Option Shown
notice_shown s d = option_map (λ (notice : Notice). record { text = notice_text notice; state = going s }) (notice_in d)

-- the lines of the recap stand behind the statistics: an empty line sets them apart
abbrev pub totals_shown : Showing → Data → Option Shown
totals_shown s d = option_map (λ (totals : Totals). record { text = 10 ∷ []; state = after_totals s totals }) (totals_in d)

-- what an object becomes that is an event of this kind; none where it lacks a key that such an event has
abbrev pub event_shown : Look → Showing → Data → Kind → Option Shown
event_shown look s d kind.Begun = begun_shown look s d
event_shown look s d kind.Play = play_shown s d
event_shown look s d kind.Task = task_shown false s d
event_shown look s d kind.Handler = task_shown true s d
event_shown look s d kind.HostStart = started_shown look s d
event_shown look s d (kind.Ended how) = ended_shown look how false s d
event_shown look s d (kind.Item how) = ended_shown look how true s d
event_shown look s d kind.Notify = notice_shown s d
event_shown look s d kind.Totals = totals_shown s d

-- what an object becomes, if it is an event
abbrev pub event_in : Look → Showing → Data → Option Shown
event_in look s d = option_and_then (event_shown look s d) (kind_in d)

-- what a line becomes, if it is an event
abbrev pub event_at : Look → Showing → List ℕ → Option Shown
event_at look s line = option_and_then (event_in look s) (json_in line)

-- the text of an event; none where it is no event
abbrev pub text_of : Option Shown → Option (List ℕ)
text_of shown = option_map (λ (x : Shown). x.text) shown

-- what is kept behind an event; where it is none, what was kept before
abbrev pub state_of : Option Shown → Showing → Showing
state_of None s = s
state_of (Some x) s = x.state

-- ---- lines
abbrev pub lacks_end : List ℕ → Bool
lacks_end line = option_map_or (λ b. not (b == 10)) (slice_get line (length line - 1)) false

-- any other line is passed on as it is
abbrev pub passed : Showing → List ℕ → Shown
passed s line = record { text = line; state = record s { is_torn = lacks_end line } }

-- what an event becomes, or where there is none the line itself
abbrev pub or_passed : Showing → List ℕ → Option Shown → Shown
or_passed s line None = passed s line
or_passed s line (Some x) = x

-- what a line becomes
abbrev pub shown : Look → Showing → List ℕ → Shown
shown look s line = or_passed s line (event_at look s line)
